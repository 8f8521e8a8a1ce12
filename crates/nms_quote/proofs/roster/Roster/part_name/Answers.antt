-- `Roster::part_name`: clause `form`, by `passes_at`.
use Rattle.nms_quote.specs.Roster.{is_part_name}
use Rattle.nms_quote.proofs.TableLemmas.{passes_at}
use Rattle.nms_quote.proofs.roster.Roster.part_name.Goals as goal

pub returns-clause-form : goal.returns-clause-form
returns-clause-form c = passes_at is_part_name c.self.inside.parts c.from.result c.name_at.result.now c.self.invariant.0.formed
    c.name_at.ensures.name

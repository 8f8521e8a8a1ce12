-- `Roster::add_participant`: the call of `push`, by `IsUtf8-part_name`.
use Rattle.std.proofs.Common.{arith, sym, ◌∙◌}
use Rattle.std.proofs.lemmas.Grind.{common_steps}
use Rattle.nms_quote.proofs.TableLemmas.{IsUtf8-part_name}
use Rattle.nms_quote.proofs.roster.Roster.add_participant.Goals as goal

pub push-requires-clause-text : goal.push-requires-clause-text
push-requires-clause-text c = IsUtf8-part_name c.args.name.now (sym c.is_part_name.ensures ∙ c.in_default.ensures.formed)

-- ---- goals that `grind` closes; the search that is tried before it takes longer

pub invariant_of-self-2 : goal.invariant_of-self-2
invariant_of-self-2 c = grind (arith, common_steps)

pub at-requires : goal.at-requires
at-requires c = grind (arith, common_steps)

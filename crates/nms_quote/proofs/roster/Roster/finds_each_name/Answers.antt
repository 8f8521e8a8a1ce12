-- `Roster::finds_each_name`: clauses `parts` and `syms`, by `named_at`.
use Rattle.nms_quote.proofs.TableLemmas.{named_at}
use Rattle.nms_quote.proofs.roster.Roster.finds_each_name.Goals as goal

pub returns-clause-parts : goal.returns-clause-parts
returns-clause-parts c = rw (← c.self.view_is) (λ part there. c.finds_each_name.ensures part _ (named_at c.self.inside.parts part there))

pub returns-clause-syms : goal.returns-clause-syms
returns-clause-syms c = rw (← c.self.view_is) (λ sym there. c.finds_each_name-2.ensures sym _ (named_at c.self.inside.syms sym there))

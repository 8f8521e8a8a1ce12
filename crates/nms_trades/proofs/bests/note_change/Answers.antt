-- `note_change`: a withdrawal concerns each symbol, and another change its own.
use Rattle.std.proofs.Common.{sym}
use Rattle.std.proofs.lemmas.Bool.{eqb-true}
use Rattle.nms_trades.proofs.OkFacts.{map_ok}
use Rattle.nms_trades.proofs.bests.note_change.Goals as goal

pub returns-in-Withdraw-clause-concerned : goal.returns-in-Withdraw-clause-concerned
returns-in-Withdraw-clause-concerned c = λ s within concerned. map_ok c.note_all.result (λ are. are.noted s within) c.note_all.ensures

pub returns-in-Quote-clause-concerned : goal.returns-in-Quote-clause-concerned
returns-in-Quote-clause-concerned c = λ s within concerned.
    c.note_sym.ensures.own s (sym (eqb-true c.in-Quote.sym s (rw c.in-Quote.is at concerned)))

pub returns-in-State-clause-concerned : goal.returns-in-State-clause-concerned
returns-in-State-clause-concerned c = λ s within concerned.
    c.note_sym-in-State.ensures.own s (sym (eqb-true c.in-State.sym s (rw c.in-State.is at concerned)))

pub returns-in-Lot-clause-concerned : goal.returns-in-Lot-clause-concerned
returns-in-Lot-clause-concerned c = λ s within concerned.
    c.note_sym-in-Lot.ensures.own s (sym (eqb-true c.in-Lot.sym s (rw c.in-Lot.is at concerned)))

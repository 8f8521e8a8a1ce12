-- `counts`: all that it promises.
use Rattle.std.proofs.Common.{ℕ, ◌≡◌, refl}
use Rattle.nms_flow.specs.Run.{standing_after}
use Rattle.nms_scripts.specs.declared.counts.Counts.{Counts}
use Rattle.nms_scripts.proofs.script.counts.Goals as goal

counted : {records refused a b c d : ℕ} → a ≡ b → c ≡ d
    → (let x : Counts = record { records = records; refused = refused; tape = a; published = c } in x)
    ≡ record { records = records; refused = refused; tape = b; published = d }
counted e f = rw (e, f) refl

pub returns : goal.returns
returns c events h = counted (c.taken.ensures.at (standing_after events) h.stands) (c.published.ensures.at (standing_after events) h.stands)

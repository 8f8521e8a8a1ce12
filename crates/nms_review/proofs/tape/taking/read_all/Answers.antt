-- `read_all`: the turns of its loop, by `reads_first`.
use Rattle.std.proofs.Common.{arith, Bool, true, Ok, ◌≡◌, ap, lit≤, ◌∙◌}
use Rattle.nms_scripts.specs.declared.TheConstants.{MOST_RECORDS}
use Rattle.nms_review.proofs.ReadFacts.{reads_first}
use Rattle.nms_review.proofs.tape.taking.read_all.Goals as goal

pub loop-done-init : goal.loop-done-init
loop-done-init g c = record {
  read = λ bytes reads. reads_first g.R.Read.remaining c.args.setup.now bytes c.args.reader.now c.args.taking.now.flow
      c.args.taking.now.sent.items reads c.requires.room c.requires.stands c.requires.sent;
  room = c.requires.room;
  within = lit≤ tt;
}

pub loop-done-preserved : goal.loop-done-preserved
loop-done-preserved g c =
    let is : c.advance.result ≡ Ok true = c.in-Ok-true.is ∙ ap (λ (b : Bool). Ok b) c.in-Ok-true.field-0-test in
    let not_last : c.loop-done.done ≡ MOST_RECORDS → ⊥ = λ e. c.advance.ensures.most e is in
    record {
      read = λ bytes reads. c.advance.ensures.more bytes (c.loop-done.invariant.read bytes reads) is;
      room = c.in-Ok-true.ensures.room;
      within = omega (arith, not_last, c.loop-done.invariant.within);
    }

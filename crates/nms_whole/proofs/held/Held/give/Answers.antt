-- `give`: clause `bytes`: what was given, and what is left, are what was ready.
use Rattle.std.proofs.Common.{ℕ, List, ◌≡◌, ◌+◌, ◌-◌, drop, length, take, refl, sym, ap, ◌∙◌, arith}
use Rattle.std.proofs.lemmas.List.{drop-drop, length-drop, length-take, take-append-drop, take_all, take_at}
use borrow.Rule.Slice.PartMut.{put_mid}
use Rattle.nms_whole.specs.Held.{ready_of}
use Rattle.nms_whole.proofs.held.Held.give.Goals as goal

pub returns-clause-bytes : goal.returns-clause-bytes
returns-clause-bytes c =
    let n = c.min-count.result in
    let ready = ready_of c.args.self.now in
    let copied = c.copy_from_slice.new.self in
    let len : length copied ≡ n = omega (arith, c.copy_from_slice.ensures.len, length-take n c.args.buf.now, c.min-count.ensures) in
    let is_copied : copied ≡ take n ready =
    c.copy_from_slice.ensures.after
    ∙ ap (λ (l : List ℕ). take n (take (length c.as_slice.result.now - c.args.self.now.given) (drop c.args.self.now.given l)))
    c.as_slice.ensures.value
    ∙ ap (take n) (take_all (length c.as_slice.result.now - c.args.self.now.given) ready
    (omega (arith, ap length c.as_slice.ensures.value, length-drop c.args.self.now.given c.args.self.now.ready.items))) in
    let front : take n (put_mid 0 n c.args.buf.now copied) ≡ take n ready = take_at copied _ n len ∙ is_copied in
    let left : drop (c.args.self.now.given + n) c.args.self.now.ready.items ≡ drop n ready = sym
    (drop-drop n c.args.self.now.given c.args.self.now.ready.items) in
    sym (take-append-drop n ready) ∙ (rw (front, left) refl)

-- `apart`: nothing is left after the two senders that come off.
use Rattle.std.proofs.Common.{◌≡◌, ◌++◌, ◌∷◌, [], List, length, ap, ◌∙◌, arith, length-append}
use Rattle.std.proofs.lemmas.List.{nil_from_length}
use Rattle.nms_feed.specs.Lane.{Sending}
use Rattle.nms_tests.proofs.feed.apart.Goals as goal

pub returns-clause-items : goal.returns-clause-items
returns-clause-items c =
    let a = c.in_ok-a.a in
    let b = c.in_ok-b.b in
    let rest = c.pop-2.new.self.items in
    let last = c.in_ok-b.ensures.items in
    let first = c.in_ok-a.ensures.items in
    let nothing : rest ≡ [] = nil_from_length rest (omega
    (arith, c.requires, ap length last, ap length first, length-append c.pop.new.self.items (b ∷ []), length-append rest (a ∷ []))) in
    last ∙ ap (λ (l : List Sending). l ++ b ∷ []) (first ∙ ap (λ (l : List Sending). l ++ a ∷ []) nothing)

-- `add_parts`: each turn adds a name, by `name_turn`.
use Rattle.std.proofs.Common.{◌≡◌, ◌++◌, ◌∷◌, [], ◌+◌, ◌-◌, ℕ, List, ap, map, ◌∙◌, arith}
use Rattle.std.specs.Borrow.{Bor}
use Rattle.std.specs.List.{range_with_len}
use Rattle.std.proofs.lemmas.Grind.{common_steps}
use Rattle.std.proofs.lemmas.List.{map-append}
use Rattle.nms_quote.specs.Roster.{part_text}
use Rattle.nms_drawing.specs.Page.{part_names}
use Rattle.nms_drawing.proofs.DayLemmas.{name_turn}
use Rattle.nms_drawing.proofs.page.add_parts.Goals as goal

pub loop-place-preserved : goal.loop-place-preserved
loop-place-preserved c =
    let roster = c.args.roster.now in
    let place = c.loop-place.place in
    let end = c.parts-place-end.result in
    let old = c.loop-place.names.items in
    let read : c.unwrap.result ≡ place = grind (arith, common_steps) in
    let texts = map (λ (name : Bor (List ℕ)). name.now) in
    let added : texts c.push-in-loop-place.new.self.items ≡ texts old ++ part_text roster place ∷ [] =
    ap texts c.in_ok-push-2.ensures.items ∙ map-append (λ (name : Bor (List ℕ)). name.now) old (c.as_bytes.result ∷ [])
    ∙ ap (λ (name : List ℕ). texts old ++ name ∷ []) (c.as_bytes.ensures.value ∙ c.name_of_part.ensures.name ∙ ap (part_text roster) read) in
    ap (λ (names : List (List ℕ)). names ++ map (part_text roster) (range_with_len (place + 1) (end - (place + 1)))) added
    ∙ name_turn (texts old) (part_names roster) (part_text roster) place end c.loop-place-test.true c.loop-place.invariant

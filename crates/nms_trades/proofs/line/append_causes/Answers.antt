-- `append_causes`: the turns of its loop, and its end.
use Rattle.std.proofs.Common.{◌≡◌, ◌++◌, ◌∷◌, ◌+◌, ◌<◌, List, ℕ, [], drop, take, length, ap, sym, ◌∙◌, append_assoc, arith}
use Rattle.std.proofs.Common.{Bool, true, if◌then◌else◌}
use Rattle.std.proofs.lemmas.List.{append-nil, take_more, take_all}
use Rattle.std.proofs.lemmas.List.Concat.{flat_map-append}
use Rattle.nms_trades.specs.Causes.{word_of}
use Rattle.nms_trades.specs.Lines.{all_causes, joined_or_none, next_word, plus_word, plus_words}
use Rattle.nms_trades.proofs.LineFacts.{is_some, joined_some, some-more, words-more}
use Rattle.nms_trades.proofs.line.append_causes.Goals as goal

pub loop-place-preserved : goal.loop-place-preserved
loop-place-preserved c =
    let claims = c.args.execution.now.claims in
    let crossed = c.args.crossed in
    let helped = c.args.sums.now.helped in
    let flickering = c.is_flickering-flickering.result in
    let place = c.loop-place.place in
    let one = c.cause_at-cause.result in
    let does = c.applies-applies.result in
    let before = take place all_causes in
    let words = plus_words claims crossed helped flickering before in
    let own : List ℕ = if does then 43 ∷ word_of one else [] in
    let below : place < length all_causes = omega (arith, c.loop-place-test.true) in
    let whole : take (place + 1) all_causes ≡ before ++ one ∷ [] =
    take_more all_causes place one below ∙ ap (λ it. before ++ it ∷ []) (sym c.cause_at-cause.ensures) in
    let same : plus_word claims crossed helped flickering one ≡ own =
    ap (λ (b : Bool). if b then 43 ∷ word_of one else []) (sym c.applies-applies.ensures) in
    let split : plus_words claims crossed helped flickering (take (place + 1) all_causes) ≡ words ++ own =
    ap (plus_words claims crossed helped flickering) whole
    ∙ flat_map-append (plus_word claims crossed helped flickering) before (one ∷ [])
    ∙ ap (λ text. words ++ text) (append-nil (plus_word claims crossed helped flickering one) ∙ same) in
    let out = c.args.out.now.items in
    let next = next_word c.loop-place.some does one in (
      c.in_ok-some.ensures.text
          ∙ ap (λ text. text ++ next) c.loop-place.invariant.0
          ∙ append_assoc out (drop 1 words) next
          ∙ ap (λ text. out ++ text) (ap (λ some. drop 1 words ++ next_word some does one) c.loop-place.invariant.1
          ∙ sym (words-more words does one) ∙ ap (drop 1) (sym split)),
      c.in_ok-some.ensures.some
          ∙ ap (λ (some : Bool). if does then true else some) c.loop-place.invariant.1
          ∙ sym (some-more words does one) ∙ ap is_some (sym split),
    )

pub returns-else-not-some : goal.returns-else-not-some
returns-else-not-some c =
    let claims = c.args.execution.now.claims in
    let crossed = c.args.crossed in
    let helped = c.args.sums.now.helped in
    let flickering = c.is_flickering-flickering.result in
    let words = plus_words claims crossed helped flickering (take c.loop-place.place all_causes) in
    let all : take c.loop-place.place all_causes ≡ all_causes = take_all c.loop-place.place all_causes (omega (
      arith,
      c.loop-place-test.false,
    )) in
    c.loop-place.invariant.0
    ∙ ap (λ text. c.args.out.now.items ++ text) (sym (joined_some words (sym c.loop-place.invariant.1 ∙ c.if-not-some.false))
    ∙ ap (λ list. joined_or_none (plus_words claims crossed helped flickering list)) all
    ∙ ap (λ f. joined_or_none (plus_words claims crossed helped f all_causes)) c.is_flickering-flickering.ensures)

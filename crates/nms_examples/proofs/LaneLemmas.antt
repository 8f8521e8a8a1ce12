-- The senders of a lane that were lent to threads and came back.
use Rattle.std.proofs.Common.{ℕ, ◌≡◌, ◌<◌, suc, List, [], ◌∷◌, length, map, slice_index_or, take, refl, ap, sym, ◌∙◌, arith}
use Rattle.std.specs.List.{AllByRecursion}
use Rattle.std.proofs.lemmas.List.Elements.{All-cons, All-nil}
use Rattle.std.specs.Prelude.{All}
use Rattle.nms_quote.specs.Merge.{feeds}
use Rattle.nms_quote.specs.declared.feed.Feed.{Feed}
use Rattle.nms_feed.specs.Lane.{AreSendersOf, Sending, Taking, fresh}

lanes_of : (lane : _) (fs : List Feed) → AllByRecursion (λ s. s.lane ≡ lane) (map (fresh lane) fs)
lanes_of lane [] = tt
lanes_of lane (f ∷ fs) = (refl, lanes_of lane fs)

feeds_of : (lane : _) (fs : List Feed) → map (λ s. s.feed) (map (fresh lane) fs) ≡ fs
feeds_of lane [] = refl
feeds_of lane (f ∷ fs) = ap (λ l. f ∷ l) (feeds_of lane fs)

none_sent : (lane : _) (fs : List Feed) → All (λ s. s.sent ≡ []) (map (fresh lane) fs)
none_sent lane [] = All-nil (λ (s : Sending). s.sent ≡ [])
none_sent lane (f ∷ fs) = All-cons (λ (s : Sending). s.sent ≡ []) (fresh lane f) (map (fresh lane) fs) refl (none_sent lane fs)

-- the ends of a lane that was just opened are its senders
pub opened : (count : ℕ) (taker : Taking) (senders : List Sending) → senders ≡ map (fresh taker.lane) (take count feeds)
    → taker.senders ≡ count → AreSendersOf taker senders
opened count taker senders are counted = record {
  one_lane = rw are (lanes_of taker.lane (take count feeds));
  in_order = rw are (feeds_of taker.lane (take count feeds)) ∙ ap (λ n. take n feeds) (sym counted);
}

-- and they have sent nothing
pub opened_new : (count : ℕ) (taker : Taking) (senders : List Sending) → senders ≡ map (fresh taker.lane) (take count feeds)
    → All (λ s. s.sent ≡ []) senders
opened_new count taker senders are = rw are (none_sent taker.lane (take count feeds))

lanes_back : (lane : _) (senders back : List Sending) → length back ≡ length senders
    → ((k : ℕ) (d : Sending) → k < length senders → (slice_index_or back k d).lane ≡ (slice_index_or senders k d).lane)
    → AllByRecursion (λ s. s.lane ≡ lane) senders → AllByRecursion (λ s. s.lane ≡ lane) back
lanes_back lane [] [] same each all = tt
lanes_back lane [] (b ∷ back) same each all = absurd (omega (arith, same))
lanes_back lane (s ∷ senders) [] same each all = absurd (omega (arith, same))
lanes_back lane (s ∷ senders) (b ∷ back) same each all = (
  each 0 s (omega arith) ∙ all.0,
  lanes_back lane senders back (omega (arith, same)) (λ k d within. each (suc k) d (omega (arith, within))) all.1,
)

feeds_back : (senders back : List Sending) → length back ≡ length senders
    → ((k : ℕ) (d : Sending) → k < length senders → (slice_index_or back k d).feed ≡ (slice_index_or senders k d).feed)
    → map (λ s. s.feed) back ≡ map (λ s. s.feed) senders
feeds_back [] [] same each = refl
feeds_back [] (b ∷ back) same each = absurd (omega (arith, same))
feeds_back (s ∷ senders) [] same each = absurd (omega (arith, same))
feeds_back (s ∷ senders) (b ∷ back) same each =
    let rest = feeds_back senders back (omega (arith, same)) (λ k d within. each (suc k) d (omega (arith, within))) in
    let first = each 0 s (omega arith) in
    λ i. first i ∷ rest i

-- the senders that came back are those of the taker that came back
pub all_back : (taker last : Taking) (senders back : List Sending) → AreSendersOf taker senders
    → last.lane ≡ taker.lane → last.senders ≡ taker.senders → length back ≡ length senders
    → ((k : ℕ) (d : Sending) → k < length senders → (slice_index_or back k d).lane ≡ (slice_index_or senders k d).lane)
    → ((k : ℕ) (d : Sending) → k < length senders → (slice_index_or back k d).feed ≡ (slice_index_or senders k d).feed)
    → AreSendersOf last back
all_back taker last senders back all lane counted same lanes in_order = record {
  one_lane = rw lane (lanes_back taker.lane senders back same lanes all.one_lane);
  in_order = feeds_back senders back same in_order ∙ all.in_order ∙ ap (λ n. take n feeds) (sym counted);
}

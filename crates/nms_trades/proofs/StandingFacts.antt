-- The standing of a price over versions, by the best prices of each.
use Rattle.std.proofs.Common.{ℕ, ◌≡◌, ◌≤◌, ◌+◌, ◌-◌, Bool, true, false, List, [], ◌∷◌, refl, ap}
use Rattle.std.specs.List.{list_any, range_with_len}
use Rattle.nms_quote.specs.Roster.{Sizes}
use Rattle.nms_quote.specs.Tape.{Tape, version}
use Rattle.nms_board.specs.View.{view_of}
use Rattle.nms_trades.specs.Around.{any_version, goes_through_at, standing_of, standing_over}
use Rattle.nms_trades.specs.Bests.{best_at}
use Rattle.nms_trades.specs.Track.{holds_of}
use Rattle.nms_trades.specs.declared.standing.Standing.TheVariants as standing
use Rattle.nms_trades.specs.declared.track.Test.TheVariants as test
use Rattle.nms_quote.specs.declared.side_quote.Side.{Side}
use Rattle.nms_quote.specs.declared.side_quote.Side.TheVariants.{Bid, Offer}
use Rattle.nms_board.specs.Quotation.{quotation_of}
use Rattle.nms_trades.specs.Around.{flickers, is_inferior}
use Rattle.nms_trades.specs.Parts.{part_at}
use Rattle.nms_trades.proofs.BestFacts.{AreInOrder, best_decides}
use Rattle.nms_trades.proofs.PartFacts.{inferior_is}
use Rattle.nms_trades.proofs.TrackFacts.{some_version}
use Rattle.std.specs.Prelude.{not}

-- two tests that are the same have the same answer
any_alike : (p q : ℕ → Bool) → ((n : ℕ) → p n ≡ q n) → (ns : List ℕ) → list_any p ns ≡ list_any q ns
any_alike p q same [] = refl
any_alike p q same (n ∷ ns) = rw (same n, any_alike p q same ns) refl

-- by whether it trades through the best prices of some version, and whether it trades through none on some
pub standing_by : (sizes : Sizes) (tape : Tape) (symbol millionths first last : ℕ)
    → ((n : ℕ) → AreInOrder (view_of sizes (version n tape) symbol)) → standing_of
    (any_version (λ n. holds_of test.Through millionths (best_at sizes tape symbol n)) first last)
    (any_version (λ n. holds_of test.Clean millionths (best_at sizes tape symbol n)) first last)
    ≡ standing_over (goes_through_at sizes tape symbol millionths) first last
standing_by sizes tape symbol millionths first last order =
    let through : (n : ℕ) → holds_of test.Through millionths (best_at sizes tape symbol n)
    ≡ goes_through_at sizes tape symbol millionths n =
    λ n. best_decides millionths (view_of sizes (version n tape) symbol) (order n) in
    rw (
      any_alike (λ n. holds_of test.Through millionths (best_at sizes tape symbol n))
          (goes_through_at sizes tape symbol millionths) through _,
      any_alike (λ n. holds_of test.Clean millionths (best_at sizes tape symbol n)) (λ n. not
          (goes_through_at sizes tape symbol millionths n))
          (λ n. ap not (through n)) _,
    ) refl

-- a quotation flickered exactly if its participant's protected price was inferior in some version
pub flickers_by : (sizes : Sizes) (tape : Tape) (symbol part millionths first last : ℕ) (side : Side)
    → any_version (λ n. holds_of (test.Inferior side) millionths (part_at sizes tape symbol part n)) first last
    ≡ flickers sizes tape symbol millionths first last side part
flickers_by sizes tape symbol part millionths first last Bid =
    any_alike (λ n. holds_of (test.Inferior Bid) millionths (part_at sizes tape symbol part n))
    (λ n. is_inferior Bid millionths (quotation_of sizes (version n tape) symbol Bid part))
    (λ n. inferior_is Bid millionths (quotation_of sizes (version n tape) symbol Bid part)
    (quotation_of sizes (version n tape) symbol Offer part)) (range_with_len first (last + 1 - first))
flickers_by sizes tape symbol part millionths first last Offer =
    any_alike (λ n. holds_of (test.Inferior Offer) millionths (part_at sizes tape symbol part n))
    (λ n. is_inferior Offer millionths (quotation_of sizes (version n tape) symbol Offer part))
    (λ n. inferior_is Offer millionths (quotation_of sizes (version n tape) symbol Bid part)
    (quotation_of sizes (version n tape) symbol Offer part)) (range_with_len first (last + 1 - first))

-- a price that trades through over versions does so on each of them
not_through : (a b : Bool) → b ≡ true → standing_of a b ≡ standing.Through → ⊥
not_through false b is through = absurd (cc)
not_through true true is through = absurd (cc)
not_through true false is through = absurd (cc)

pub all_through : (through : ℕ → Bool) (first last : ℕ) → standing_over through first last ≡ standing.Through → (n : ℕ) → first ≤ n
    → n ≤ last → through n ≡ true
all_through through first last is n low high = by (through n) refl
  where
    by : (b : Bool) → through n ≡ b → through n ≡ true
    by true e = e
    by false e =
        absurd (not_through (any_version through first last) (any_version (λ k. not (through k)) first last)
        (some_version (λ k. not (through k)) first last n low high (ap not e)) is)

-- and a clean one on none
not_clean : (a b : Bool) → a ≡ true → standing_of a b ≡ standing.Clean → ⊥
not_clean false b is clean = absurd (cc)
not_clean true true is clean = absurd (cc)
not_clean true false is clean = absurd (cc)

pub none_through : (through : ℕ → Bool) (first last : ℕ) → standing_over through first last ≡ standing.Clean → (n : ℕ) → first ≤ n
    → n ≤ last → through n ≡ false
none_through through first last is n low high = by (through n) refl
  where
    by : (b : Bool) → through n ≡ b → through n ≡ false
    by false e = e
    by true e =
        absurd (not_clean (any_version through first last) (any_version (λ k. not (through k)) first last)
        (some_version through first last n low high e) is)

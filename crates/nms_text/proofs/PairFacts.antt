-- The pairs of a view: where the list of them ends, and whose quotations they are.
use Rattle.std.proofs.Common.{ℕ, zero, suc, ◌≡◌, ◌+◌, ◌-◌, ◌<◌, Bool, true, false, cond, List, [], ◌∷◌, ◌++◌, Option, Some, None, refl, sym}
use Rattle.std.proofs.Common.{ap, subst, ◌∙◌, arith, append_assoc, inl, inr}
use Rattle.std.specs.Prelude.{All, ◌==◌, ◌/◌, ◌%◌}
use Rattle.std.specs.Io.KnownBytes.{Appends}
use Rattle.std.specs.List.{cons_option, filter_map, find, flat_map, range_with_len}
use Rattle.std.proofs.lemmas.Bool.{cases_lt}
use Rattle.std.proofs.lemmas.List.{append-nil, flat_map_more}
use Rattle.std.proofs.lemmas.List.Elements.{All-head, All-tail}
use Rattle.csv.proofs.WriteFacts.{appends-more}
use Rattle.nms_quote.specs.declared.side_quote.Side.{Side}
use Rattle.nms_quote.specs.declared.side_quote.Side.TheVariants.{Bid, Offer}
use Rattle.nms_board.specs.View.{Seen, row_of, rows_on}
use Rattle.nms_board.specs.declared.row.Row.{Row}
use Rattle.nms_nbbo.specs.Pairs.{bid_is_later, pair_at, pair_between, pair_of, pairs_from}
use Rattle.nms_nbbo.specs.declared.pair.Pair.{Pair}

-- nothing was written
pub appends-none : (known : Option (List ℕ)) → Appends known known []
appends-none None = tt
appends-none (Some bytes) = sym (append-nil bytes)

-- what the first element of such a list was made from
first_made : {X : Type 0} (f : ℕ → Option X) (low n : ℕ) (x : X) (rest : List X) → filter_map f (range_with_len low n) ≡ x ∷ rest
    → (place : ℕ) × (f place ≡ Some x)
first_made f low zero x rest e = absurd cc
first_made {X = X} f low (suc n) x rest e = by (f low) refl (first_made f (low + 1) n x rest) e
  where
    by : (made : Option X) → f low ≡ made → (filter_map f (range_with_len (low + 1) n) ≡ x ∷ rest → (place : ℕ) × (f place ≡ Some x))
        → cons_option made (filter_map f (range_with_len (low + 1) n)) ≡ x ∷ rest → (place : ℕ) × (f place ≡ Some x)
    by None here later more = later more
    by (Some y) here later first = let same : y ≡ x = cc in (low, here ∙ ap Some same)

-- a pair that is left is before the end
pub place_below : (seen : Seen) (place : ℕ) (pair : Pair) (rest : List Pair) → pairs_from place seen ≡ pair ∷ rest → place < 1024
place_below seen place pair rest e = elim (cases_lt place 1024) [
  | inl below ↦ below
  | inr past ↦
      let none : 1024 - place ≡ 0 = omega arith in
      let empty : [] ≡ pair ∷ rest = rw none at e in
      absurd cc
]

-- what is found has what all have
found_has : {X : Type 0} (P : X → Type 0) (test : X → Bool) (xs : List X) (x : X) → find test xs ≡ Some x → All P xs → P x
found_has P test [] x e all = absurd cc
found_has P test (y ∷ xs) x e all = by (test y) (λ later. found_has P test xs x later (All-tail P y xs all)) e
  where
    by : (passes : Bool) → (find test xs ≡ Some x → P x) → cond passes (Some y) (find test xs) ≡ Some x → P x
    by true later first = let same : y ≡ x = cc in subst P same (All-head P y xs all)
    by false later more = later more

-- the participants of a pair are below a number
pub record AreBelow (parts : ℕ) (pair : Pair) : Type 0 where
  pub bid : pair.bid.part < parts
  pub offer : pair.offer.part < parts
  pub later : pair.later < parts

pair_of_below : (parts : ℕ) (bid offer : Row) → bid.part < parts → offer.part < parts → AreBelow parts (pair_of bid offer)
pair_of_below parts bid offer of_bid of_offer = record { bid = of_bid; offer = of_offer; later = by (bid_is_later bid offer) }
  where
    by : (later : Bool) → cond later bid.part offer.part < parts
    by true = of_bid
    by false = of_offer

pair_between_below : (parts : ℕ) (bid offer : Option Row) (pair : Pair) → ((row : Row) → bid ≡ Some row → row.part < parts)
    → ((row : Row) → offer ≡ Some row → row.part < parts)
    → pair_between bid offer ≡ Some pair → AreBelow parts pair
pair_between_below parts None offer pair of_bid of_offer e = absurd cc
pair_between_below parts (Some bid) None pair of_bid of_offer e = absurd cc
pair_between_below parts (Some bid) (Some offer) pair of_bid of_offer e = by _ e
  where
    by : (apart : Bool) → cond apart None (Some (pair_of bid offer)) ≡ Some pair → AreBelow parts pair
    by true none = absurd cc
    by false some = let same : pair_of bid offer ≡ pair = cc in
        subst (AreBelow parts) same (pair_of_below parts bid offer (of_bid bid refl) (of_offer offer refl))

-- the quotations of a pair are rows of the view
pub first_pair_below : (seen : Seen) (parts place : ℕ) (pair : Pair) (rest : List Pair)
    → ((side : Side) → All (λ row. row.part < parts) (rows_on side seen))
    → pairs_from place seen ≡ pair ∷ rest → AreBelow parts pair
first_pair_below seen parts place pair rest below e =
    let made = first_made (pair_at seen) place (1024 - place) pair rest e in
    pair_between_below parts (row_of Bid (made.0 / 32) seen) (row_of Offer (made.0 % 32) seen) pair
    (λ row is. found_has (λ (r : Row). r.part < parts) (λ r. r.part == made.0 / 32) seen.bids row is (below Bid))
    (λ row is. found_has (λ (r : Row). r.part < parts) (λ r. r.part == made.0 % 32) seen.offers row is (below Offer))
    made.1

-- the pairs before a place were written
pub record HasWrittenPairs (line : Pair → List ℕ) (old new : Option (List ℕ)) (seen : Seen) (from place : ℕ) : Type 0 where
  pub done : List Pair
  pub written : Appends old new (flat_map line done)
  pub all : done ++ pairs_from place seen ≡ pairs_from from seen

-- the pair at the place was written too
pub one_more_pair : (line : Pair → List ℕ) (old now new : Option (List ℕ)) (seen : Seen) (from place behind : ℕ) (pair : Pair)
    → HasWrittenPairs line old now seen from place
    → pairs_from place seen ≡ pair ∷ pairs_from behind seen → Appends now new (line pair) → HasWrittenPairs line old new seen from behind
one_more_pair line old now new seen from place behind pair before first more = record {
  done = before.done ++ pair ∷ [];
  written = subst (Appends old new) (flat_map_more line [] before.done pair)
      (appends-more old now new (flat_map line before.done) (line pair) before.written more);
  all = append_assoc before.done (pair ∷ []) (pairs_from behind seen) ∙ ap (λ (left : List Pair). before.done ++ left) (sym first)
      ∙ before.all;
}

-- no pair is left
pub all_pairs : (line : Pair → List ℕ) (old new : Option (List ℕ)) (seen : Seen) (from place : ℕ)
    → HasWrittenPairs line old new seen from place → pairs_from place seen ≡ []
    → Appends old new (flat_map line (pairs_from from seen))
all_pairs line old new seen from place before none =
    subst (λ (pairs : List Pair). Appends old new (flat_map line pairs))
    (sym (append-nil before.done) ∙ ap (λ (left : List Pair). before.done ++ left) (sym none) ∙ before.all) before.written

-- What a price trades through, as an answer lists it: quotations of the roster's participants, and no refusal.
use Rattle.std.proofs.Common.{ℕ, ◌≡◌, ◌<◌, List, [], ◌∷◌, false, map, refl, sym, subst, ap, arith, Option, Some, None}
use Rattle.std.specs.Prelude.{All, count_by, IfSome}
use Rattle.std.specs.List.{filter}
use Rattle.std.proofs.lemmas.List.Elements.{All-append, All-filter, All-head, All-map, All-tail}
use Rattle.std.proofs.lemmas.Bool.Decides.{nat_tests}
use Rattle.nms_quote.specs.Roster.{Listing}
use Rattle.nms_quote.specs.declared.side_quote.Side.{Side}
use Rattle.nms_quote.specs.declared.side_quote.Side.TheVariants.{Bid, Offer}
use Rattle.nms_board.specs.Ranking.{better_price, ranks_above}
use Rattle.nms_board.specs.View.{Seen, rows_on}
use Rattle.nms_board.specs.declared.row.Row.{Row}
use Rattle.nms_nbbo.specs.Best.{IsBestOf}
use Rattle.nms_rules.specs.Through.{is_through, through_on, traded_through_at}
use Rattle.nms_text.specs.Answers.{through_records, through_row}
use Rattle.nms_scripts.specs.Script.{is_refusal}

-- the quotation is of one of the first participants
abbrev IsOf : ℕ → Side × Row → Type 0
IsOf parts quotation = quotation.1.part < parts

side_parts : (parts : ℕ) (side : Side) (rows : List Row) (price : ℕ) → All (λ (row : Row). row.part < parts) rows
    → All (IsOf parts) (through_on side rows price)
side_parts parts side rows price all =
    All-map (IsOf parts) (λ (row : Row). (side, row)) (filter (is_through side price) rows)
    (All-filter (is_through side price) (λ (row : Row). row.part < parts) rows all)

-- what is traded through is of the participants whose rows are seen
pub through_parts : (parts : ℕ) (seen : Seen) (price : ℕ) (quotations : List (Side × Row)) → quotations ≡ traded_through_at seen price
    → ((side : Side) → All (λ (row : Row). row.part < parts) (rows_on side seen)) → All (IsOf parts) quotations
through_parts parts seen price quotations same all =
    subst (All (IsOf parts)) (sym same)
    (All-append (IsOf parts) (through_on Bid seen.bids price) (through_on Offer seen.offers price)
    (side_parts parts Bid seen.bids price (all Bid)) (side_parts parts Offer seen.offers price (all Offer)))

no_refusal : (roster : Listing) (quotations : List (Side × Row)) → count_by is_refusal (map (through_row roster) quotations) ≡ 0
no_refusal roster [] = refl
no_refusal roster (quotation ∷ quotations) = no_refusal roster quotations

-- it refuses nothing
pub through_refuses_none : (roster : Listing) (desk : ℕ) (seen : Seen) (price : ℕ) (quotations : List (Side × Row))
    → count_by is_refusal (through_records roster desk seen price quotations) ≡ 0
through_refuses_none roster desk seen price quotations = no_refusal roster quotations

-- a row that does not rank above the best is not traded through if the best is not
not_through : (side : Side) (price : ℕ) (best row : Row) → better_price side best.price price ≡ false → ranks_above side row best ≡ false
    → is_through side price row ≡ false
not_through Bid price best row h k = grind (arith, nat_tests)
not_through Offer price best row h k = grind (arith, nat_tests)

none_through : (side : Side) (price : ℕ) (best : Row) (rows : List Row) → better_price side best.price price ≡ false
    → All (λ (row : Row). ranks_above side row best ≡ false) rows → through_on side rows price ≡ []
none_through side price best [] h all = refl
none_through side price best (row ∷ rows) h all =
    rw (not_through side price best row h (All-head (λ (r : Row). ranks_above side r best ≡ false) row rows all))
    (none_through side price best rows h (All-tail (λ (r : Row). ranks_above side r best ≡ false) row rows all))

-- what is no worse than the best row of a side trades through none of it
pub side_through : (side : Side) (price : ℕ) (rows : List Row) (best : Option Row) → IsBestOf side rows best
    → IfSome best (λ (row : Row). better_price side row.price price ≡ false) → through_on side rows price ≡ []
side_through side price rows None empty h = ap (λ (r : List Row). through_on side r price) empty
side_through side price rows (Some best) is h = none_through side price best rows h is.highest

pub nothing_through : (seen : Seen) (price : ℕ) (bid offer : Option Row) → IsBestOf Bid seen.bids bid → IsBestOf Offer seen.offers offer
    → IfSome bid (λ (row : Row). better_price Bid row.price price ≡ false)
    → IfSome offer (λ (row : Row). better_price Offer row.price price ≡ false) → traded_through_at seen price ≡ []
nothing_through seen price bid offer best_bid best_offer h k =
    rw (side_through Bid price seen.bids bid best_bid h, side_through Offer price seen.offers offer best_offer k) refl

-- The standing of an execution on its own version, by the quotations that it trades through there.
use Rattle.std.proofs.Common.{ℕ, ◌≡◌, ◌<◌, ◌+◌, ◌-◌, All, ◌∷◌, ◌||◌, [], zero, suc, Bool, true, false, List, arith, refl, sym, ap, ◌∙◌}
use Rattle.std.proofs.Common.{filter, length, length-append, map, nat_lt}
use Rattle.std.specs.Prelude.{◌==◌, not}
use Rattle.std.proofs.lemmas.Bool.{and_parts, eqb-true, lt-ltb}
use Rattle.std.specs.List.{list_any}
use Rattle.std.proofs.lemmas.List.{length-map}
use Rattle.std.proofs.lemmas.List.Elements.{All-append, All-filter, All-map}
use Rattle.std.proofs.lemmas.List.Sorted.{All-permutation, list_any-IsPermutation}
use Rattle.nms_board.proofs.Offered.{view_parts}
use Rattle.nms_quote.specs.Roster.{Sizes}
use Rattle.nms_quote.specs.Tape.{Tape, version}
use Rattle.nms_quote.specs.declared.side_quote.Side.{Side}
use Rattle.nms_quote.specs.declared.side_quote.Side.TheVariants.{Bid, Offer}
use Rattle.nms_board.specs.Quotation.{quotations}
use Rattle.nms_board.specs.Ranking.{IsRankOrder, ranked}
use Rattle.nms_board.specs.View.{view_of}
use Rattle.nms_board.specs.declared.row.Row.{Row}
use Rattle.nms_rules.specs.Through.{is_through}
use Rattle.nms_trades.specs.Around.{any_version, goes_through_at, own_standing, standing_over}
use Rattle.nms_trades.specs.Found.{is_alone, standing_in}
use Rattle.nms_trades.specs.Judged.{passed_at, whole_price}
use Rattle.nms_trades.specs.declared.execution.Execution.{Execution}

any_left : {X : Type 0} (p : X → Bool) (xs : List X) → list_any p xs ≡ nat_lt 0 (length (filter p xs))
any_left p [] = refl
any_left p (x ∷ xs) = by_test (p x) refl (any_left p xs)
  where
    by_test : (b : Bool) → p x ≡ b → list_any p xs ≡ nat_lt 0 (length (filter p xs))
        → list_any p (x ∷ xs) ≡ nat_lt 0 (length (filter p (x ∷ xs)))
    by_test true passes more = rw passes (sym (lt-ltb 0 (suc (length (filter p xs))) (omega arith)))
    by_test false fails more = rw fails more

any_sum : (a b : ℕ) → nat_lt 0 (a + b) ≡ (nat_lt 0 a || nat_lt 0 b)
any_sum zero b = ap (nat_lt 0) (omega arith)
any_sum (suc a) b =
    let sum : nat_lt 0 (suc a + b) ≡ true = lt-ltb 0 (suc a + b) (omega arith) in
    let one : nat_lt 0 (suc a) ≡ true = lt-ltb 0 (suc a) (omega arith) in
    rw (sum, one) refl

-- the rows of a side that pass a test, in rank order
abbrev passing : Sizes → Tape → (sym : ℕ) → Side → (Row → Bool) → List Row
passing sizes tape sym side p = filter p (ranked side (quotations sizes tape sym side))

abbrev on_side_of : Side → Row → Side × Row
on_side_of side row = (side, row)

-- a side's protected quotations are traded through or not in any order
side_alike : (sizes : Sizes) (tape : Tape) (symbol : ℕ) (side : Side) (p : Row → Bool)
    → IsRankOrder side (quotations sizes tape symbol side) (ranked side (quotations sizes tape symbol side))
    → list_any p (quotations sizes tape symbol side) ≡ nat_lt 0 (length (map (on_side_of side) (passing sizes tape symbol side p)))
side_alike sizes tape symbol side p order =
    list_any-IsPermutation p (quotations sizes tape symbol side) (ranked side (quotations sizes tape symbol side)) order.same
    ∙ any_left p (ranked side (quotations sizes tape symbol side))
    ∙ ap (nat_lt 0) (sym (length-map (passing sizes tape symbol side p) (on_side_of side)))

one_version : (test : ℕ → Bool) (n : ℕ) → any_version test n n ≡ test n
one_version test n =
    let one : n + 1 - n ≡ 1 = omega arith in
    rw one (or_false (test n))
  where
    or_false : (b : Bool) → (b || false) ≡ b
    or_false true = refl
    or_false false = refl

pub own_is : (sizes : Sizes) (tape : Tape) (symbol millionths n : ℕ) (passed : List (Side × Row))
    → ((side : Side) → IsRankOrder side (quotations sizes (version n tape) symbol side)
    (ranked side (quotations sizes (version n tape) symbol side)))
    → passed ≡ passed_at (view_of sizes (version n tape) symbol) millionths
    → own_standing passed ≡ standing_over (goes_through_at sizes tape symbol millionths) n n
own_is sizes tape symbol millionths n passed order is =
    let tape_then = version n tape in
    let below = is_through Bid (whole_price Bid millionths) in
    let above = is_through Offer (whole_price Offer millionths) in
    let bid_rows = map (on_side_of Bid) (passing sizes tape_then symbol Bid below) in
    let offer_rows = map (on_side_of Offer) (passing sizes tape_then symbol Offer above) in
    let bids : list_any below (quotations sizes tape_then symbol Bid) ≡ nat_lt 0 (length bid_rows) =
    side_alike sizes tape_then symbol Bid below (order Bid) in
    let offers : list_any above (quotations sizes tape_then symbol Offer) ≡ nat_lt 0 (length offer_rows) =
    side_alike sizes tape_then symbol Offer above (order Offer) in
    let whole : nat_lt 0 (length bid_rows) || nat_lt 0 (length offer_rows) ≡ goes_through_at sizes tape symbol millionths n =
    rw (bids, offers) refl in
    let some : nat_lt 0 (length passed) ≡ goes_through_at sizes tape symbol millionths n =
    ap (λ (ps : List (Side × Row)). nat_lt 0 (length ps)) is ∙ ap (nat_lt 0) (length-append bid_rows offer_rows)
    ∙ any_sum (length bid_rows) (length offer_rows) ∙ whole in
    rw (
      some,
      one_version (goes_through_at sizes tape symbol millionths) n,
      one_version (λ k. not (goes_through_at sizes tape symbol millionths k)) n,
    ) refl

-- an execution whose version is the only one of its window
pub own_in : (sizes : Sizes) (tape : Tape) (execution : Execution) (passed : List (Side × Row)) → is_alone execution ≡ true
    → ((s : Sizes) (t : Tape) (symbol : ℕ) (side : Side) → IsRankOrder side (quotations s t symbol side)
    (ranked side (quotations s t symbol side)))
    → passed ≡ passed_at (view_of sizes (version execution.version tape) execution.sym) execution.millionths
    → own_standing passed ≡ standing_in sizes tape execution
own_in sizes tape execution passed alone order is =
    let both = and_parts (execution.first == execution.version) (execution.last == execution.version) alone in
    let through = goes_through_at sizes tape execution.sym execution.millionths in
    own_is sizes tape execution.sym execution.millionths execution.version passed
    (λ side. order sizes (version execution.version tape) execution.sym side) is
    ∙ ap (λ n. standing_over through n execution.version) (sym (eqb-true execution.first execution.version both.0))
    ∙ ap (λ n. standing_over through execution.first n) (sym (eqb-true execution.last execution.version both.1))

-- the quotations that are traded through are of the roster's participants
pub passed_parts : (sizes : Sizes) (tape : Tape) (symbol millionths : ℕ)
    → ((side : Side) → IsRankOrder side (quotations sizes tape symbol side) (ranked side (quotations sizes tape symbol side)))
    → All (λ (row : Side × Row). row.1.part < sizes.parts) (passed_at (view_of sizes tape symbol) millionths)
passed_parts sizes tape symbol millionths order =
    All-append (λ (row : Side × Row). row.1.part < sizes.parts)
    (map (on_side_of Bid) (passing sizes tape symbol Bid (is_through Bid (whole_price Bid millionths))))
    (map (on_side_of Offer) (passing sizes tape symbol Offer (is_through Offer (whole_price Offer millionths))))
    (one Bid (view_parts sizes tape symbol Bid)) (one Offer (view_parts sizes tape symbol Offer))
  where
    one : (side : Side) → All (λ (row : Row). row.part < sizes.parts) (quotations sizes tape symbol side)
        → All (λ (row : Side × Row). row.1.part < sizes.parts)
        (map (on_side_of side) (passing sizes tape symbol side (is_through side (whole_price side millionths))))
    one side all =
        All-map (λ (row : Side × Row). row.1.part < sizes.parts) (on_side_of side)
        (passing sizes tape symbol side (is_through side (whole_price side millionths)))
        (All-filter (is_through side (whole_price side millionths)) (λ (row : Row). row.part < sizes.parts)
        (ranked side (quotations sizes tape symbol side))
        (All-permutation (λ (row : Row). row.part < sizes.parts) (quotations sizes tape symbol side)
        (ranked side (quotations sizes tape symbol side)) (order side).same all))

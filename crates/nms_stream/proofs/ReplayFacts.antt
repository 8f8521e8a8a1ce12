-- A board that goes along a tape: before the first change, and over one more.
use Rattle.std.proofs.Common.{ℕ, zero, suc, ◌≡◌, ◌+◌, ◌*◌, ◌≤◌, ◌++◌, ◌∷◌, [], All, Option, None, Some, true, arith, ap, length, nat_lt}
use Rattle.std.proofs.Common.{refl, slice_get, subst, sym, take, ◌∙◌}
use Rattle.std.specs.Prelude.{option_map}
use Rattle.std.proofs.lemmas.Bool.{and_from}
use Rattle.std.proofs.lemmas.Bool.Decides.{nat_tests}
use Rattle.std.proofs.lemmas.List.{take_more}
use Rattle.std.proofs.lemmas.List.Elements.{All-get_or}
use Rattle.std.proofs.lemmas.Option.{get_or_from_slice_get, slice_get_within}
use Rattle.nms_quote.specs.Roster.{Sizes, holds}
use Rattle.nms_quote.specs.Tape.{Tape, version}
use Rattle.nms_quote.specs.declared.TheConstants.{MOST_CHANGES}
use Rattle.nms_quote.specs.declared.change.Change.{Change}
use Rattle.nms_board.specs.Cells.{Board, StandsFor, after, empty_cell, opening, place_of, takes}
use Rattle.nms_board.specs.History.{before_equal_end, lot_since}
use Rattle.nms_board.specs.declared.TheConstants.{MOST_ROWS}
use Rattle.nms_board.proofs.Offered.{slice_get-replicate_below}
use Rattle.nms_stream.specs.Replays.{IsAt, IsStep}

opened : (lot : Option ℕ) (place : ℕ) → lot ≡ option_map (lot_since place []) lot
opened None place = refl
opened (Some lot) place = refl

-- a board with nothing on it shows no change
pub opening_stands : (sizes : Sizes) → sizes.parts ≤ MOST_ROWS → StandsFor (opening sizes) []
unfolding before_equal_end
opening_stands sizes narrow = record {
  applied = refl;
  narrow = narrow;
  lots = λ place. opened (slice_get sizes.lots place) place;
  cells = λ part place in_parts in_syms.
      slice_get-replicate_below (MOST_ROWS * length sizes.lots) (place_of part place) empty_cell (omega arith);
}

-- so one that was cleared is before the first change
pub cleared : (sizes : Sizes) (tape : Tape) (was now : Board) → IsAt sizes tape was → now ≡ opening was.sizes → IsAt sizes tape now
cleared sizes tape was now at is =
    subst (IsAt sizes tape) (sym is)
    (record { same = at.same; within = omega arith; stands = opening_stands was.sizes at.stands.narrow })

-- the next change is held
held_next : (sizes : Sizes) (tape : Tape) (n : ℕ) (change : Change) → All (λ (it : Change). holds sizes it ≡ true) tape
    → slice_get tape n ≡ Some change → holds sizes change ≡ true
held_next sizes tape n change held is =
    subst (λ (it : Change). holds sizes it ≡ true) (get_or_from_slice_get tape n change change is)
    (All-get_or (λ (it : Change). holds sizes it ≡ true) tape n change (slice_get_within tape n change is) held)

-- and taken
pub takes_next : (sizes : Sizes) (tape : Tape) (board : Board) (change : Change) → IsAt sizes tape board
    → All (λ (it : Change). holds sizes it ≡ true) tape → length tape ≤ MOST_CHANGES → slice_get tape board.applied ≡ Some change
    → takes board change ≡ true
takes_next sizes tape board change at held few is =
    let known : holds board.sizes change ≡ true =
    subst (λ (s : Sizes). holds s change ≡ true) (sym at.same) (held_next sizes tape board.applied change held is) in
    let below = slice_get_within tape board.applied change is in
    let room : nat_lt board.applied MOST_CHANGES ≡ true = grind (arith, nat_tests) in
    and_from (holds board.sizes change) (nat_lt board.applied MOST_CHANGES) known room

-- there is none only after the last one
pub at_end : (tape : Tape) (n : ℕ) → n ≤ length tape → slice_get tape n ≡ None → n ≡ length tape
at_end [] n within none = omega arith
at_end (change ∷ tape) zero within none = absurd (cc)
at_end (change ∷ tape) (suc n) within none =
    let rest : n ≡ length tape = at_end tape n (omega arith) none in
    omega (arith, rest)

-- then the board is at the next version
pub steps : (sizes : Sizes) (tape : Tape) (was now : Board) (change : Change) → IsAt sizes tape was
    → All (λ (it : Change). holds sizes it ≡ true) tape → slice_get tape was.applied ≡ Some change → now ≡ after was change
    → ((t : Tape) → StandsFor was t → StandsFor now (t ++ change ∷ [])) → IsStep sizes tape was now change
steps sizes tape was now change at held is moved stands =
    let n = was.applied in
    let below = slice_get_within tape n change is in
    let more : now.applied ≡ n + 1 = ap (λ (b : Board). b.applied) moved in
    let next : version now.applied tape ≡ version n tape ++ change ∷ [] =
    ap (λ k. version k tape) more ∙ take_more tape n change below
    ∙ ap (λ (x : Change). take n tape ++ x ∷ []) (get_or_from_slice_get tape n change change is) in
    record {
      before = at;
      below = below;
      held = held_next sizes tape n change held is;
      moved = moved;
      more = more;
      next = next;
      at = record {
        same = ap (λ (b : Board). b.sizes) moved ∙ at.same;
        within = omega (arith, more, below);
        stands = subst (StandsFor now) (sym next) (stands (version n tape) at.stands);
      };
    }

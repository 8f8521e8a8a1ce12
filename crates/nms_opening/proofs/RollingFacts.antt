-- Boards that go over: what the next board has of a symbol stays alike, and the other symbols stay as at the opening.
use Rattle.std.proofs.Common.{◌≡◌, ◌≢◌, ℕ, zero, suc, ◌+◌, ◌<◌, ◌≤◌, true, false, All, List, length, Option, Some, slice_get, fold, nat_lt}
use Rattle.std.proofs.Common.{refl, sym, ap, subst, ◌∙◌, inl, inr, arith, ltb-true, ltb-false, ne_eqb, ◌==◌, ◌*◌}
use Rattle.std.specs.Option.{is_some}
use Rattle.std.proofs.lemmas.Bool.{cases_eq, false≢true}
use Rattle.nms_quote.specs.Content.{Content}
use Rattle.nms_quote.specs.Roster.{Sizes, holds}
use Rattle.nms_quote.specs.declared.side_quote.Side.{Side}
use Rattle.nms_quote.specs.declared.change.Change.{Change}
use Rattle.nms_quote.specs.declared.change.Change.TheVariants.{Lot, Quote, State, Withdraw}
use Rattle.nms_board.specs.Cells.{Board, IsBoard, after, empty_cell, opening, place_of, withdraw_from, withdrawn}
use Rattle.nms_board.specs.History.{concerns}
use Rattle.nms_board.specs.declared.cell.Cell.{Cell}
use Rattle.nms_board.proofs.Offered.{change_cell_elsewhere, change_cell_here, slice_get-replicate_below, takes_by}
use Rattle.nms_opening.specs.Alike.{ShowAlike, stands}
use Rattle.nms_opening.specs.Opening.{HasNothing, OpensSymbol}
use Rattle.nms_opening.specs.Rolling.{IsCarrying, is_followed}
use Rattle.nms_opening.proofs.StayFacts.{stay_alike}
use Rattle.nms_opening.proofs.WholeFacts.{IsSameIn, alike_with, left_by, left_by_all, nothing_with}

-- alike both ways
pub alike_back : (one other : Board) (sym : ℕ) → ShowAlike one other sym → ShowAlike other one sym
alike_back one other symbol alike =
    let near : (part : ℕ) → part < other.sizes.parts → part < one.sizes.parts =
    λ part below. subst (λ (sizes : Sizes). part < sizes.parts) (sym alike.roster) below in
    let there : (side : Side) (part : ℕ) → part < other.sizes.parts → stands other symbol side part ≡ true
    → stands one symbol side part ≡ true =
    λ side part below something. ap (λ (o : Option Content). is_some o) (alike.contents side part (near part below)) ∙ something in
    record {
      roster = sym alike.roster;
      lot = sym alike.lot;
      contents = λ side part below. sym (alike.contents side part (near part below));
      states = λ side part below something. sym (alike.states side part (near part below) (there side part below something));
      order = λ side along part second below second_below something second_something.
          sym (alike.order side along part second (near part below) (near second second_below) (there side part below something)
          (there along second second_below second_something));
    }

pub alike_itself : (board : Board) (sym : ℕ) → ShowAlike board board sym
alike_itself board symbol = record {
  roster = refl;
  lot = refl;
  contents = λ side part below. refl;
  states = λ side part below something. refl;
  order = λ side along part second below second_below something second_something. refl;
}

-- the board whose symbol is left as it was shows alike still
kept_alike : (board then next : Board) (sym : ℕ) → IsSameIn board then sym → ShowAlike board next sym → ShowAlike then next sym
kept_alike board then next symbol same alike =
    alike_back next then symbol (alike_with next board then symbol (alike_back board next symbol alike) same)

-- a withdrawal leaves a cell of a participant that never quoted
still_empty : (n part syms : ℕ) (cells : List Cell) (i : ℕ) → slice_get cells i ≡ Some empty_cell
    → slice_get (withdraw_from n part syms cells) i ≡ Some empty_cell
unfolding withdraw_from
still_empty n part zero cells i is = is
still_empty n part (suc k) cells i is =
    let before : slice_get (withdraw_from n part k cells) i ≡ Some empty_cell = still_empty n part k cells i is in
    elim (cases_eq (place_of part k) i) [
      | inl here ↦ subst (λ (j : ℕ). slice_get (withdraw_from n part (suc k) cells) j ≡ Some empty_cell) here
          (change_cell_here (withdraw_from n part k cells) (place_of part k) (withdrawn n) empty_cell
          (subst (λ (j : ℕ). slice_get (withdraw_from n part k cells) j ≡ Some empty_cell) (sym here) before))
      | inr differ ↦ change_cell_elsewhere (withdraw_from n part k cells) (place_of part k) i (withdrawn n) differ ∙ before
    ]

nothing_withdrawn : (now : Board) (sizes : Sizes) (sym part : ℕ) → HasNothing now sizes sym → HasNothing (after now (Withdraw part)) sizes sym
nothing_withdrawn now sizes symbol part nothing = record {
  roster = nothing.roster;
  lot = nothing.lot;
  cells = λ p in_parts. still_empty (now.applied + 1) part (length now.sizes.lots) now.cells (place_of p symbol) (nothing.cells p in_parts);
}

-- a change of a symbol below a place concerns no symbol from there on, and the other way round
unconcerned_above : (s sym carried : ℕ) → nat_lt s carried ≡ true → carried ≤ sym → (s == sym) ≡ false
unconcerned_above s symbol carried below from = ne_eqb s symbol (λ same. omega (arith, same, ltb-true s carried below, from))

unconcerned_below : (s sym carried : ℕ) → nat_lt s carried ≡ false → sym < carried → (s == sym) ≡ false
unconcerned_below s symbol carried from below = ne_eqb s symbol (λ same. omega (arith, same, ltb-false s carried from, below))

-- a change that is followed leaves what the next board has not brought as at the opening
still_nothing : (next : Board) (sizes : Sizes) (sym carried : ℕ) (change : Change) → next.sizes.parts ≤ 32 → holds next.sizes change ≡ true
    → is_followed change carried ≡ true → carried ≤ sym → HasNothing next sizes sym → HasNothing (after next change) sizes sym
still_nothing next sizes symbol carried (Quote p s state bid offer) narrow held followed from nothing =
    nothing_with next (after next (Quote p s state bid offer)) sizes symbol nothing
    (left_by next symbol (Quote p s state bid offer) narrow held (unconcerned_above s symbol carried followed from))
still_nothing next sizes symbol carried (State p s state) narrow held followed from nothing =
    nothing_with next (after next (State p s state)) sizes symbol nothing
    (left_by next symbol (State p s state) narrow held (unconcerned_above s symbol carried followed from))
still_nothing next sizes symbol carried (Withdraw p) narrow held followed from nothing = nothing_withdrawn next sizes symbol p nothing
still_nothing next sizes symbol carried (Lot s lot) narrow held followed from nothing =
    nothing_with next (after next (Lot s lot)) sizes symbol nothing
    (left_by next symbol (Lot s lot) narrow held (unconcerned_above s symbol carried followed from))

-- a change that is not followed concerns no symbol that the next board has
not_followed : (sym carried : ℕ) (change : Change) → is_followed change carried ≡ false → sym < carried → concerns sym change ≡ false
not_followed symbol carried (Quote p s state bid offer) unfollowed below = unconcerned_below s symbol carried unfollowed below
not_followed symbol carried (State p s state) unfollowed below = unconcerned_below s symbol carried unfollowed below
not_followed symbol carried (Withdraw p) unfollowed below = absurd (false≢true (sym unfollowed))
not_followed symbol carried (Lot s lot) unfollowed below = unconcerned_below s symbol carried unfollowed below

-- both boards take a change
pub both_taken : (board next : Board) (carried : ℕ) (change : Change) → IsBoard board → IsBoard next → holds board.sizes change ≡ true
    → board.applied < 10000000 → next.applied < 10000000 → is_followed change carried ≡ true → IsCarrying board next carried
    → IsCarrying (after board change) (after next change) carried
both_taken board next carried change board_is next_is held room next_room followed carrying =
    let next_held : holds next.sizes change ≡ true =
    subst (λ (sizes : Sizes). holds sizes change ≡ true) carrying.roster held in
    record {
      roster = carrying.roster;
      alike = λ symbol in_syms below. stay_alike board next symbol change board_is next_is (takes_by board change held room)
          (takes_by next change next_held next_room) in_syms (carrying.alike symbol in_syms below);
      nothing = λ symbol in_syms from. still_nothing next board.sizes symbol carried change next_is.shape.parts next_held followed from
          (carrying.nothing symbol in_syms from);
    }

-- only the first board takes it
pub one_taken : (board next : Board) (carried : ℕ) (change : Change) → IsBoard board → holds board.sizes change ≡ true
    → is_followed change carried ≡ false → IsCarrying board next carried → IsCarrying (after board change) next carried
one_taken board next carried change board_is held unfollowed carrying = record {
  roster = carrying.roster;
  alike = λ symbol in_syms below. kept_alike board (after board change) next symbol
      (left_by board symbol change board_is.shape.parts held (not_followed symbol carried change unfollowed below))
      (carrying.alike symbol in_syms below);
  nothing = carrying.nothing;
}

-- one symbol more
pub one_brought : (board next : Board) (carried : ℕ) (more : List Change) → next.sizes.parts ≤ 32 → carried < length board.sizes.lots
    → OpensSymbol board carried more → IsCarrying board next carried → IsCarrying board (fold after next more) (carried + 1)
one_brought board next carried more narrow in_syms opens carrying =
    let then : Board = fold after next more in
    let held : All (λ change. holds next.sizes change ≡ true) more =
    subst (λ (sizes : Sizes). All (λ change. holds sizes change ≡ true) more) carrying.roster opens.held in
    let kept : (other : ℕ) → other ≢ carried → IsSameIn next then other =
    λ other differ. left_by_all next other more narrow held (opens.own other differ) in
    let brought : ShowAlike board then carried = opens.alike next (carrying.nothing carried in_syms (omega arith)) in
    record {
      roster = brought.roster;
      alike = λ symbol symbol_in below. elim (cases_eq symbol carried) [
        | inl here ↦ subst (λ (s : ℕ). ShowAlike board then s) (sym here) brought
        | inr differ ↦ alike_with board next then symbol (carrying.alike symbol symbol_in (omega arith)) (kept symbol differ)
      ];
      nothing = λ symbol symbol_in from.
          nothing_with next then board.sizes symbol (carrying.nothing symbol symbol_in (omega arith)) (kept symbol (λ e. omega arith));
    }

-- at first the next board has no symbol
pub none_brought : (board : Board) → board.sizes.parts ≤ 32 → IsCarrying board (opening board.sizes) 0
none_brought board narrow = record {
  roster = refl;
  alike = λ symbol in_syms below. absurd (omega arith);
  nothing = λ symbol in_syms from. record {
    roster = refl;
    lot = refl;
    cells = λ part in_parts. slice_get-replicate_below (32 * length board.sizes.lots) (place_of part symbol) empty_cell (omega arith);
  };
}

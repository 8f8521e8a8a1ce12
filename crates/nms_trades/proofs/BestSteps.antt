-- Each symbol's track, and each participant's in it, after one more change.
use Rattle.std.proofs.Common.{ℕ, ◌≡◌, ◌<◌, true, false, List, arith, inl, inr, ap, refl, subst, sym, length, slice_get, ◌∙◌}
use Rattle.std.specs.Prelude.{Result, Ok, Err, OnOk}
use Rattle.std.proofs.lemmas.Bool.{cases_Bool}
use Rattle.nms_quote.specs.Roster.{Sizes, holds}
use Rattle.nms_quote.specs.Tape.{Tape}
use Rattle.nms_quote.specs.declared.side_quote.Side.{Side}
use Rattle.nms_quote.specs.declared.side_quote.Side.TheVariants.{Bid, Offer}
use Rattle.nms_quote.specs.declared.change.Change.{Change}
use Rattle.nms_board.specs.Cells.{Board, place_of}
use Rattle.nms_board.specs.History.{concerns}
use Rattle.nms_board.specs.Shown.{rows_held, seen_on}
use Rattle.nms_stream.specs.Replays.{IsStep}
use Rattle.nms_trades.specs.Bests.{AreBests, best_at, limits_of}
use Rattle.nms_trades.specs.Parts.{AreParts, part_at, part_held, touches}
use Rattle.nms_trades.specs.Track.{IsNoted}
use Rattle.nms_trades.specs.declared.track.Track.{Track}
use Rattle.nms_trades.proofs.BestFacts.{has_stays, shown_at}
use Rattle.nms_trades.proofs.PartFacts.{held_as, part_stays}

-- a symbol that the change concerns is noted, and another one shows what it did
pub bests_step : {T E : Type 0} (r : Result T E) (sizes : Sizes) (tape : Tape) (was now : Board) (change : Change) (old new : List Track)
    → IsStep sizes tape was now change → length old ≡ length sizes.lots
    → ((s : ℕ) → s < length old → concerns s change ≡ true
    → OnOk r (IsNoted now.applied (limits_of (seen_on now s)) (slice_get old s) (slice_get new s)))
    → ((s : ℕ) → s < length old → concerns s change ≡ false → OnOk r (slice_get new s ≡ slice_get old s))
    → ((s : ℕ) (side : Side) → concerns s change ≡ false → rows_held now s side ≡ rows_held was s side)
    → AreBests sizes tape was.applied old → OnOk r (AreBests sizes tape now.applied new)
bests_step (Err e) sizes tape was now change old new step count concerned others stay bests = tt
bests_step (Ok t) sizes tape was now change old new step count concerned others stay bests = λ s within.
    let all = best_at sizes tape s in
    let shown : limits_of (seen_on now s) ≡ all now.applied = shown_at sizes tape now s step.at in
    elim (cases_Bool (concerns s change)) [
      | inl altered ↦ concerned s (omega (arith, count, within)) altered all was.applied (bests s within) step.more (sym shown)
      | inr kept ↦
          let same : limits_of (seen_on now s) ≡ limits_of (seen_on was s) = rw (stay s Bid kept, stay s Offer kept) refl in
          rw (step.more, others s (omega (arith, count, within)) kept)
          (has_stays all was.applied (slice_get old s)
          (ap all (sym step.more) ∙ sym shown ∙ same ∙ shown_at sizes tape was s step.before) (bests s within))
    ]

-- a participant that the change touches in a symbol is noted, and another one quotes what it did
pub parts_step : {T E : Type 0} (r : Result T E) (sizes : Sizes) (tape : Tape) (was now : Board) (change : Change) (old new : List Track)
    → IsStep sizes tape was now change
    → ((s part : ℕ) → s < length sizes.lots → part < sizes.parts → touches s part change ≡ true
    → OnOk r (IsNoted now.applied (part_held now s part) (slice_get old (place_of part s)) (slice_get new (place_of part s))))
    → ((s part : ℕ) → s < length sizes.lots → part < sizes.parts → touches s part change ≡ false
    → OnOk r (slice_get new (place_of part s) ≡ slice_get old (place_of part s)))
    → AreParts sizes tape was.applied old → OnOk r (AreParts sizes tape now.applied new)
parts_step (Err e) sizes tape was now change old new step touched others parts = tt
parts_step (Ok t) sizes tape was now change old new step touched others parts = λ s part in_syms in_parts.
    let all = part_at sizes tape s part in
    let held : part_held now s part ≡ all now.applied = held_as sizes tape now s part step.at in_syms in_parts in
    elim (cases_Bool (touches s part change)) [
      | inl altered ↦ touched s part in_syms in_parts altered all was.applied (parts s part in_syms in_parts) step.more (sym held)
      | inr kept ↦
          let own = sym step.before.same in
          let same : part_held now s part ≡ part_held was s part =
          ap (λ (b : Board). part_held b s part) step.moved
          ∙ part_stays was change s part step.before.stands.narrow (subst (λ (z : Sizes). holds z change ≡ true) own step.held)
          (subst (λ (z : Sizes). part < z.parts) own in_parts) kept in
          rw (step.more, others s part in_syms in_parts kept)
          (has_stays all was.applied (slice_get old (place_of part s))
          (ap all (sym step.more) ∙ sym held ∙ same ∙ held_as sizes tape was s part step.before in_syms in_parts)
          (parts s part in_syms in_parts))
    ]

-- `settings_of`: the rows are sound, and the invariant of a setup holds, from `SoundLemmas`.
use Rattle.std.proofs.Common.{◌≡◌, None, List, ℕ, ◌<◌, ◌≤◌, Fits, w8, arith, ap, ◌∙◌, sym, subst, length, map}
use Rattle.std.proofs.lemmas.Grind.{common_steps}
use Rattle.std.proofs.lemmas.List.{length-map}
use Rattle.std.specs.List.{AllByRecursion}
use Rattle.toml.specs.Data.{Data}
use Rattle.toml.specs.View.{view, table_view}
use Rattle.nms_quote.specs.Merge.{place_of}
use Rattle.nms_quote.specs.Roster.{Name}
use Rattle.nms_quote.specs.declared.feed.Feed.{Feed}
use Rattle.nms_quote.specs.declared.TheConstants.{MOST_CHANGES, MOST_FEEDS}
use Rattle.nms_fees.specs.declared.TheConstants.{LEAST_QUEUE, MOST_DESKS, MOST_QUEUE}
use Rattle.nms_fee_book.specs.Fees.{AreCapped, Charges}
use Rattle.nms_fees.specs.declared.choices.Choices.{Choices}
use Rattle.nms_fees.specs.Places.{choices_in, rows_fault}
use Rattle.nms_fees.specs.Setup.{participant_of, schedule_of}
use Rattle.nms_fees.specs.declared.section.Section.TheVariants as section
use Rattle.nms_fees.proofs.SoundLemmas.{tape_limit_of, queue_of, desks_of, feeds_within, participants_of, symbols_of, charges_of_rows}
use Rattle.nms_fees.proofs.SoundLemmas.{feeds_of_rows}
use Rattle.nms_fees.proofs.setup_reading.settings_of.Goals as goal

pub roster_of-requires-clause-participants : goal.roster_of-requires-clause-participants
roster_of-requires-clause-participants c = (
  choices_in (table_view c.args.document.now),
  participants_of (table_view c.args.document.now) c.requires (map view c.rows_at-participants.result.now) c.rows_at-participants.ensures,
)

pub roster_of-requires-clause-symbols : goal.roster_of-requires-clause-symbols
roster_of-requires-clause-symbols c = (
  choices_in (table_view c.args.document.now),
  symbols_of (table_view c.args.document.now) c.requires (map view c.rows_at-symbols.result.now) c.rows_at-symbols.ensures,
)

-- by the choices that were read
kept : (rows : List Data) (read given : Choices) → read ≡ given → rows_fault given section.Participant rows ≡ None
    → rows_fault read section.Participant rows ≡ None
kept rows read given e h = ap (λ (by : Choices). rows_fault by section.Participant rows) e ∙ h

pub fees_of-requires : goal.fees_of-requires
fees_of-requires c =
    let rows = map view c.rows_at-participants.result.now in
    kept rows c.choices_in-chosen.result _ c.choices_in-chosen.ensures
    (participants_of (table_view c.args.document.now) c.requires rows c.rows_at-participants.ensures)

fits_a_byte : (n m : ℕ) → n ≡ m → m ≤ MOST_DESKS → Fits w8 n
fits_a_byte n m e h = omega arith

within : (n m low high : ℕ) → n ≡ m → (low ≤ m) × (m ≤ high) → (low ≤ n) × (n ≤ high)
within n m low high e h = (omega arith, omega arith)

pub overflow_cast-result : goal.overflow_cast-result
overflow_cast-result c = fits_a_byte c.count_at-3.result _ c.count_at-3.ensures (desks_of (table_view c.args.document.now) c.requires).1

pub invariant_of-result : goal.invariant_of-result
invariant_of-result c =
    let tape_limit = within c.count_at.result _ 1 MOST_CHANGES c.count_at.ensures
    (tape_limit_of (table_view c.args.document.now) c.requires) in
    let queue = within c.count_at-2.result _ LEAST_QUEUE MOST_QUEUE c.count_at-2.ensures
    (queue_of (table_view c.args.document.now) c.requires) in
    let desks = within c.count_at-3.result _ 1 MOST_DESKS c.count_at-3.ensures (desks_of (table_view c.args.document.now) c.requires) in
    let feeds = within c.choices_in-chosen.result.feeds _ 1 MOST_FEEDS (ap (λ (chosen : Choices). chosen.feeds) c.choices_in-chosen.ensures)
    (feeds_within (table_view c.args.document.now) c.requires) in
    let rows = map view c.rows_at-participants.result.now in
    record {
      tape_low = tape_limit.0;
      tape_high = tape_limit.1;
      queue_low = queue.0;
      queue_high = queue.1;
      desks_low = desks.0;
      desks_high = desks.1;
      feeds_low = feeds.0;
      feeds_high = feeds.1;
      feed_of_each = subst (λ (parts : List (Name × Feed)). AllByRecursion
          (λ entry. place_of entry.1 < c.choices_in-chosen.result.feeds) parts) (sym c.in_ok-roster_of.ensures.parts)
          (feeds_of_rows c.choices_in-chosen.result rows
          (kept rows c.choices_in-chosen.result _ c.choices_in-chosen.ensures
          (participants_of (table_view c.args.document.now) c.requires rows c.rows_at-participants.ensures)));
      fees_of_each = ap (λ (fees : Charges). length fees.schedules) c.in_ok-fees_of.ensures.value ∙ length-map rows schedule_of
          ∙ sym (length-map rows participant_of) ∙ sym (ap length c.in_ok-roster_of.ensures.parts);
      fees_capped = subst (λ (fees : Charges). AreCapped fees.caps fees.schedules) (sym c.in_ok-fees_of.ensures.value)
          (charges_of_rows c.choices_in-chosen.result rows
          (kept rows c.choices_in-chosen.result _ c.choices_in-chosen.ensures
          (participants_of (table_view c.args.document.now) c.requires rows c.rows_at-participants.ensures)));
    }

-- ---- goals that `grind` closes; the search that is tried before it takes longer

pub same-result : goal.same-result
same-result c = grind (arith, common_steps)

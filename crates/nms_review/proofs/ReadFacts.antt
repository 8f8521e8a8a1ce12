-- How the reading of a script's tape comes from one record to the next.
use Rattle.std.proofs.Common.{arith, ℕ, zero, suc, ◌≡◌, ◌≤◌, ◌+◌, ◌++◌, Bool, cond, List, [], ◌∷◌, refl, sym, ap, subst, ◌∙◌}
use Rattle.std.proofs.Common.{inl, inr, length, length-append, map, Option, Some, None, slice_get}
use Rattle.std.specs.Prelude.{option_to_list}
use Rattle.std.proofs.lemmas.List.{append-nil, length-map, map-append}
use Rattle.std.proofs.lemmas.List.Elements.{filter_map-append}
use Rattle.std.proofs.lemmas.List.Sums.{sum_by-append}
use Rattle.std.proofs.lemmas.Option.{slice_get_past}
use Rattle.csv.specs.declared.reader.Reader.{Reader}
use Rattle.nms_quote.specs.declared.change.Change.{Change}
use Rattle.nms_quote.specs.declared.marked.Marked.{Marked}
use Rattle.nms_fees.specs.Settings.{Settings}
use Rattle.nms_lines.specs.Layout.{Record}
use Rattle.nms_lines.specs.Records.{AreAllRecords, ReadsFrom}
use Rattle.nms_flow.specs.Flow.{State, IsAfter, StandsAt, room_of, room_under}
use Rattle.nms_flow.specs.Run.{Event, IsRun, Standing, changes_in, sent_by, sent_in, standing_after, taken_by, tape_at, took}
use Rattle.nms_scripts.specs.Script.{AnswersFrom, AnswersRecord, Serves}
use Rattle.nms_scripts.specs.declared.TheConstants.{MOST_RECORDS}
use Rattle.nms_scripts.proofs.Offered.{answers-push}
use Rattle.nms_review.specs.Progress.{HasRead, HasReadAll, HasSent}
use Rattle.nms_review.specs.Taken.{IsTapeOf}
use Rattle.nms_review.proofs.SentFacts.{SendsOne, record_sends}

-- before the first record
pub reads_first : {R : Type 0} (remaining : R → Option (List ℕ)) (settings : Settings) (bytes : Option (List ℕ)) (reader : Reader R)
    (machine : State) (sent : List Change)
    → ReadsFrom remaining reader bytes [] → room_of machine ≡ room_under settings → IsAfter machine [] → sent ≡ []
    → HasRead remaining settings bytes reader machine sent 0
unfolding AnswersFrom
reads_first remaining settings bytes reader machine sent reads room stands none = record {
  so_far = record {
    records = [];
    events = [];
    told = [];
    room = room;
    stands = stands;
    answers = (refl, refl);
    counted = refl;
    changes = none;
  };
  reads = reads;
}

-- ---- what a record sends is noted

changes_len : (sent : List Marked) → length (changes_in sent) ≡ length sent
changes_len sent = length-map sent (λ (m : Marked). m.change)

last_there : (xs : List Change) (x : Change) → slice_get (xs ++ x ∷ []) (length xs) ≡ Some x
last_there [] x = refl
last_there (y ∷ xs) x = last_there xs x

-- what comes after the changes noted so far
abbrev Behind : List Change → List Change → Type 0
Behind sent all = sent ++ option_to_list (slice_get all (length sent)) ≡ all

behind_none : (sent all : List Change) → all ≡ sent → Behind sent all
behind_none sent all is = rw (is, slice_get_past sent (length sent) (omega arith)) (append-nil sent)

behind_one : (sent all : List Change) (x : Change) → all ≡ sent ++ x ∷ [] → Behind sent all
behind_one sent all x is = rw (is, last_there sent x) refl

-- a machine never published more than was taken, nor took more than was sent
published_few : (state : State) (at : Standing) → StandsAt state at → at.published ≤ at.taken
published_few state at stands = omega (arith, stands.pending)

-- a record's steps: what was published is among what was sent before, and what was sent is noted
record Notes (events first : List Event) (sent : List Change) : Type 0 where
  few : (standing_after (events ++ first)).published ≤ length sent
  all : Behind sent (changes_in (sent_by (events ++ first)))

notes : (state moved : State) (events first : List Event) (sent : List Change) → StandsAt state (standing_after events)
    → StandsAt moved (standing_after (events ++ first)) → sent ≡ changes_in (sent_by events) → SendsOne first → Notes events first sent
notes state moved events first sent before after is (inl none) =
    let split : sent_by (events ++ first) ≡ sent_by events =
    filter_map-append sent_in events first ∙ ap (λ ms. sent_by events ++ ms) none ∙ append-nil (sent_by events) in
    record {
      few = omega (arith, published_few moved _ after, after.taken, ap length split, ap length is, changes_len (sent_by events));
      all = behind_none sent _ (ap changes_in split ∙ sym is);
    }
notes state moved events first sent before after is (inr (marked, one, untaken)) =
    let split : sent_by (events ++ first) ≡ sent_by events ++ marked ∷ [] =
    filter_map-append sent_in events first ∙ ap (λ ms. sent_by events ++ ms) one in
    let taken : taken_by (events ++ first) ≡ taken_by events + taken_by first =
    sum_by-append (λ (e : Event). cond (took e) 1 0) events first in
    record {
      few = omega (arith, published_few moved _ after, taken, untaken, before.taken, ap length is, changes_len (sent_by events));
      all = behind_one sent _ marked.change (ap changes_in split ∙ map-append (λ (m : Marked). m.change) (sent_by events) (marked ∷ [])
          ∙ ap (λ cs. cs ++ marked.change ∷ []) (sym is));
    }

-- the machine's changes noted after those noted before
abbrev pub IsNoted : State → List Change → List Change → Type 0
IsNoted machine sent noted = (at : Standing) → StandsAt machine at → at.published ≤ length sent
    → noted ≡ sent ++ option_to_list (slice_get (changes_in at.sent) (length sent))

-- a record was read and served, and what it sent was noted
pub reads_on : {R : Type 0} (remaining : R → Option (List ℕ)) (settings : Settings) (bytes : Option (List ℕ)) (reader next : Reader R)
    (machine moved : State) (sent noted : List Change) (done : ℕ) (fields : Record) (before after : List ℕ) (is_refused : Bool)
    (come : HasRead remaining settings bytes reader machine sent done)
    → ReadsFrom remaining next bytes (come.so_far.records ++ fields ∷ [])
    → Serves (AnswersRecord settings (done + 1) fields) machine moved (Some before) (Some after) is_refused
    → room_of moved ≡ room_of machine → IsNoted moved sent noted
    → HasRead remaining settings bytes next moved noted (done + 1)
reads_on remaining settings bytes reader next machine moved sent noted done fields before after is_refused come reads serves room is_noted =
    let so_far = come.so_far in
    let served = serves so_far.events so_far.stands in
    let number : done + 1 ≡ 1 + length so_far.records = omega (arith, so_far.counted) in
    let noting = notes machine moved so_far.events served.0 sent so_far.stands.stands served.3.stands so_far.changes
    (record_sends settings (done + 1) fields served.0 served.1 served.2) in
    record {
      so_far = record {
        records = so_far.records ++ fields ∷ [];
        events = so_far.events ++ served.0;
        told = so_far.told ++ served.1;
        room = room ∙ so_far.room;
        stands = served.3;
        answers = answers-push settings 1 so_far.records fields so_far.events served.0 so_far.told served.1 so_far.answers
            (subst (λ (n : ℕ). AnswersRecord settings n fields served.0 served.1) number served.2);
        counted = length-append so_far.records (fields ∷ []) ∙ omega (arith, so_far.counted);
        changes = is_noted (standing_after (so_far.events ++ served.0)) served.3.stands noting.few ∙ noting.all;
      };
      reads = reads;
    }

-- at the end of the text the tape is that of the script
pub tape_read : (settings : Settings) (bytes : Option (List ℕ)) (machine : State) (sent tape : List Change) (done : ℕ)
    → HasReadAll settings bytes machine sent done → done ≤ MOST_RECORDS
    → ((at : Standing) → StandsAt machine at → sent ≡ changes_in at.sent → tape ≡ tape_at at)
    → IsTapeOf settings bytes tape
tape_read settings bytes machine sent tape done (so_far, all) few is = record {
  records = so_far.records;
  events = so_far.events;
  told = so_far.told;
  all = all;
  few = omega (arith, so_far.counted, few);
  answer = record { run = subst (λ r. IsRun r so_far.events) so_far.room so_far.stands.run; answers = so_far.answers };
  taken = is (standing_after so_far.events) so_far.stands.stands so_far.changes;
}

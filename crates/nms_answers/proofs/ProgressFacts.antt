-- How a client's stream comes from one request to the next.
use Rattle.std.proofs.Common.{ℕ, ◌≡◌, ◌+◌, ◌++◌, Bool, cond, List, [], ◌∷◌, length, Option, refl, ap, sym, subst, ◌∙◌}
use Rattle.std.proofs.Common.{arith, append_assoc, length-append}
use Rattle.std.specs.Prelude.{count_by, is_none}
use Rattle.std.specs.Io.KnownBytes.{Appends, append_known}
use Rattle.std.proofs.lemmas.List.{append-nil}
use Rattle.std.proofs.lemmas.List.Concat.{flat_map-append}
use Rattle.std.proofs.lemmas.List.Sums.{sum_by-append}
use Rattle.csv.proofs.WriteFacts.{appends-more}
use Rattle.csv.specs.declared.reader.Reader.{Reader}
use Rattle.nms_quote.specs.Tape.{Tape}
use Rattle.nms_fees.specs.Settings.{Settings}
use Rattle.nms_lines.specs.Layout.{Record}
use Rattle.nms_lines.specs.Records.{AreAllRecords, ReadsFrom}
use Rattle.nms_lines.specs.Text.{record_text, text_of}
use Rattle.nms_lines.specs.Written.{AppendsPart}
use Rattle.nms_lines.proofs.Offered.{appended, part_more}
use Rattle.nms_text.proofs.Offered.{appends-none}
use Rattle.nms_answers.specs.Epochs.{AnsweredFrom, AnswersOn, KeepsEpochs}
use Rattle.nms_answers.specs.Progress.{HasCome, IsEnd}
use Rattle.nms_answers.specs.Streams.{AnswersAll, AnswersFirst, AnswersInPart, AreAnswered, ServesFrom, counts_of}
use Rattle.nms_answers.specs.declared.answer_fault.AnswerFault.{AnswerFault}
use Rattle.nms_answers.specs.declared.epoch_desk.EpochDesk.{EpochDesk}
use Rattle.nms_answers.specs.declared.request_counts.RequestCounts.{RequestCounts}
use Rattle.nms_answers.proofs.EpochFacts.{stays_itself}

-- one more request is answered
serves_push : (settings : Settings) (number : ℕ) (requests : List Record) (fields : Record) (first now new : EpochDesk)
    (looks : List (Option Tape)) (look : Option Tape) (told more shown seen : List Record)
    → ServesFrom settings number requests first now looks told shown
    → AnswersOn settings (number + length requests) fields now new look more seen
    → ServesFrom settings number (requests ++ fields ∷ []) first new (looks ++ look ∷ []) (told ++ more) (shown ++ seen)
unfolding ServesFrom
serves_push settings number [] fields first now new looks look told more shown seen h answered =
    let here : AnswersOn settings number fields now new look more seen =
    subst (λ (n : ℕ). AnswersOn settings n fields now new look more seen) (omega arith) answered in
    let from : AnswersOn settings number fields first new look more seen =
    subst (λ (d : EpochDesk). AnswersOn settings number fields d new look more seen) h.0 here in (
      new,
      look,
      [],
      more,
      [],
      seen,
      [],
      ap (λ (l : List (Option Tape)). l ++ look ∷ []) h.1,
      ap (λ (t : List Record). t ++ more) h.2 ∙ sym (append-nil more),
      ap (λ (t : List Record). t ++ seen) h.3 ∙ sym (append-nil seen),
      from,
      (refl, refl, refl, refl),
    )
serves_push settings number (one ∷ requests) fields first now new looks look told more shown seen h answered =
    let after : AnswersOn settings ((number + 1) + length requests) fields now new look more seen =
    subst (λ (n : ℕ). AnswersOn settings n fields now new look more seen) (omega arith) answered in (
      h.0,
      h.1,
      h.2 ++ look ∷ [],
      h.3,
      h.4 ++ more,
      h.5,
      h.6 ++ seen,
      ap (λ (l : List (Option Tape)). l ++ look ∷ []) h.7,
      ap (λ (t : List Record). t ++ more) h.8 ∙ append_assoc h.3 h.4 more,
      ap (λ (t : List Record). t ++ seen) h.9 ∙ append_assoc h.5 h.6 seen,
      h.10,
      serves_push settings (number + 1) requests fields h.0 now new h.2 look h.4 more h.6 seen h.11 after,
    )

-- before the first request
pub comes_first : {R : Type 0} (remaining : R → Option (List ℕ)) (settings : Settings) (bytes : Option (List ℕ)) (reader : Reader R)
    (desk : EpochDesk) (known : Option (List ℕ))
    → ReadsFrom remaining reader bytes [] → HasCome remaining settings bytes reader desk desk known known 0 0
unfolding ServesFrom
comes_first remaining settings bytes reader desk known reads = record {
  requests = [];
  reads = reads;
  answered = record { looks = []; told = []; shown = []; serves = (refl, refl, refl, refl); written = appends-none known };
  counted = refl;
  looked = refl;
  refusals = refl;
}

-- a request was read, answered, and its answer was written
pub comes_on : {R : Type 0} (remaining : R → Option (List ℕ)) (settings : Settings) (bytes : Option (List ℕ)) (reader next : Reader R)
    (first now new : EpochDesk) (before after last : Option (List ℕ)) (done refused : ℕ) (fields : Record) (text shown : List ℕ)
    (is_refused : Bool)
    (come : HasCome remaining settings bytes reader first now before after done refused)
    → ReadsFrom remaining next bytes (come.requests ++ fields ∷ [])
    → AnsweredFrom settings (done + 1) fields now new text is_refused → shown ≡ text → Appends after last shown
    → HasCome remaining settings bytes next first new before last (done + 1) (refused + cond is_refused 1 0)
comes_on remaining settings bytes reader next first now new before after last done refused fields text shown is_refused come reads
    answered same writes =
    let look = answered.0 in
    let told = answered.1 in
    let seen = answered.2 in
    let so_far = come.answered in
    let number : done + 1 ≡ 1 + length come.requests = omega (arith, come.counted) in
    let is_text : shown ≡ text_of seen = same ∙ answered.4 in
    record {
      requests = come.requests ++ fields ∷ [];
      reads = reads;
      answered = record {
        looks = so_far.looks ++ look ∷ [];
        told = so_far.told ++ told;
        shown = so_far.shown ++ seen;
        serves = serves_push settings 1 come.requests fields first now new so_far.looks look so_far.told told so_far.shown seen
            so_far.serves
            (subst (λ (n : ℕ). AnswersOn settings n fields now new look told seen) number answered.3);
        written = subst (Appends before last) (ap (λ (t : List ℕ). text_of so_far.shown ++ t) is_text
            ∙ sym (flat_map-append record_text so_far.shown seen))
            (appends-more before after last (text_of so_far.shown) shown so_far.written writes);
      };
      counted = length-append come.requests (fields ∷ []) ∙ omega (arith, come.counted);
      looked = length-append so_far.looks (look ∷ []) ∙ omega (arith, come.looked);
      refusals = sum_by-append (λ (l : Option Tape). cond (is_none l) 1 0) so_far.looks (look ∷ [])
          ∙ both come.refusals (once look answered.5);
    }
  where
    both : {a b c d : ℕ} → a ≡ b → c ≡ d → a + c ≡ b + d
    both e f = omega (arith, e, f)

    once : (made : Option Tape) → is_refused ≡ is_none made → count_by is_none (made ∷ []) ≡ cond is_refused 1 0
    once made e = rw e (omega arith)

-- all requests were answered
pub answers_all : (settings : Settings) (bytes : Option (List ℕ)) (first now : EpochDesk) (before after : Option (List ℕ))
    (done refused : ℕ) (counts : RequestCounts) (requests : List Record) (answered : AreAnswered settings requests first now before after)
    → AreAllRecords bytes requests → length answered.looks ≡ done → count_by is_none answered.looks ≡ refused
    → counts ≡ record { requests = done; refused = refused } → AnswersAll settings bytes first now before after counts
answers_all settings bytes first now before after done refused counts requests answered all looked refusals is = record {
  requests = requests;
  all = all;
  answered = answered;
  counted = is ∙ counted looked refusals;
}
  where
    counted : {m n : ℕ} → length answered.looks ≡ m → count_by is_none answered.looks ≡ n
        → (let c : RequestCounts = record { requests = m; refused = n } in c) ≡ counts_of answered.looks
    counted e f = rw (← e, ← f) refl

-- a fault ended the stream before its next answer
pub ends_before : {R : Type 0} (remaining : R → Option (List ℕ)) (settings : Settings) (bytes : Option (List ℕ)) (reader : Reader R)
    (first now new : EpochDesk) (before after : Option (List ℕ)) (done refused : ℕ)
    → HasCome remaining settings bytes reader first now before after done refused → KeepsEpochs now new
    → AnswersFirst settings bytes first new before after
ends_before remaining settings bytes reader first now new before after done refused come kept = record {
  requests = come.requests;
  begin = come.reads.begins;
  last = now;
  answered = come.answered;
  kept = kept;
}

-- as above, for any fault: all that was to be written was
pub ends_anyhow : {R : Type 0} (remaining : R → Option (List ℕ)) (settings : Settings) (bytes : Option (List ℕ)) (reader : Reader R)
    (first now new : EpochDesk) (before after : Option (List ℕ)) (done refused : ℕ) (why : AnswerFault)
    → HasCome remaining settings bytes reader first now before after done refused → KeepsEpochs now new
    → IsEnd settings bytes first new before after why
ends_anyhow remaining settings bytes reader first now new before after done refused why come kept =
    let ends = ends_before remaining settings bytes reader first now new before after done refused come kept in
    let text = text_of come.answered.shown in
    record {
      stopped = λ _. ends;
      cut = λ _. record {
        text = text;
        whole = after;
        leaves = ends;
        meant = come.answered.written;
        cut = record { part = text; rest = []; split = sym (append-nil text); written = come.answered.written };
      };
    }

-- the writer failed within an answer
pub breaks_off : {R : Type 0} (remaining : R → Option (List ℕ)) (settings : Settings) (bytes : Option (List ℕ)) (reader next : Reader R)
    (first now new : EpochDesk) (before after last : Option (List ℕ)) (done refused : ℕ) (fields : Record) (text shown : List ℕ)
    (is_refused : Bool)
    (come : HasCome remaining settings bytes reader first now before after done refused)
    → ReadsFrom remaining next bytes (come.requests ++ fields ∷ [])
    → AnsweredFrom settings (done + 1) fields now new text is_refused → shown ≡ text → AppendsPart after last shown
    → AnswersInPart settings bytes first new before last
breaks_off remaining settings bytes reader next first now new before after last done refused fields text shown is_refused come reads
    answered same cut =
    let whole = append_known after shown in
    let meant = appended after shown in
    let on = comes_on remaining settings bytes reader next first now new before after whole done refused fields text shown is_refused
    come reads answered same meant in
    record {
      text = text_of come.answered.shown ++ shown;
      whole = whole;
      leaves = ends_before remaining settings bytes next first new new before whole (done + 1) (refused + cond is_refused 1 0) on
          (stays_itself new);
      meant = appends-more before after whole (text_of come.answered.shown) shown come.answered.written meant;
      cut = part_more before after last (text_of come.answered.shown) shown come.answered.written cut;
    }

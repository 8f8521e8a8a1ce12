-- How a client goes from epoch to epoch.
use Rattle.std.proofs.Common.{ℕ, ◌≡◌, ◌+◌, inl, inr, ◌++◌, List, [], ◌∷◌, Option, Some, None, refl, ap, sym, subst, ◌∙◌, arith}
use Rattle.std.specs.Prelude.{Bool}
use Rattle.std.proofs.lemmas.List.Concat.{flat_map-append}
use Rattle.nms_quote.specs.Tape.{Tape}
use Rattle.nms_fees.specs.Settings.{Settings}
use Rattle.nms_lines.specs.Layout.{Record}
use Rattle.nms_lines.specs.Text.{record_text, text_of}
use Rattle.nms_versions.specs.Taped.{Knowing}
use Rattle.nms_answers.specs.Epochs.{AnsweredIn, AnswersOn, GoesOver, KeepsEpochs, epoch_line}
use Rattle.nms_answers.specs.Laws.{EpochsNeverFall, ServesAsAnswers}
use Rattle.nms_answers.specs.Requests.{Answered, Sees}
use Rattle.nms_answers.specs.Streams.{AnswersFrom, ServesFrom}
use Rattle.nms_answers.specs.Told.{KeepsKnown}
use Rattle.nms_answers.specs.declared.epoch_desk.EpochDesk.{EpochDesk}
use Rattle.nms_answers.proofs.KnownFacts.{keeps_itself, keeps_looking, keeps_on}

-- a client that did nothing
pub stays_itself : (desk : EpochDesk) → KeepsEpochs desk desk
stays_itself desk = inl (refl, keeps_itself desk.desk desk.desk refl)

-- a client that went on, and then went on
pub stays_on : (first old new : EpochDesk) → KeepsEpochs first old → KeepsEpochs old new → KeepsEpochs first new
stays_on first old new (inl one) (inl other) =
    inl (other.0 ∙ one.0, keeps_on first.desk old.desk new.desk one.1 other.1)
stays_on first old new (inl one) (inr rises) = inr (omega (arith, one.0, rises))
stays_on first old new (inr rises) (inl other) = inr (omega (arith, other.0, rises))
stays_on first old new (inr one) (inr other) = inr (omega (arith, one, other))

-- a client that stayed or went over, and whose desk then knew more
pub stays_over : (first old new : EpochDesk) → GoesOver first old → new.epoch ≡ old.epoch → KeepsKnown old.desk new.desk
    → KeepsEpochs first new
stays_over first old new (inl same) epoch kept =
    inl (
      epoch ∙ ap (λ (d : EpochDesk). d.epoch) same,
      subst (λ (d : EpochDesk). KeepsKnown d.desk new.desk) same kept,
    )
stays_over first old new (inr rises) epoch kept = inr (omega (arith, epoch, rises))

sees_keeps : (old new : Knowing) (look : Option Tape) → Sees old new look → KeepsKnown old new
sees_keeps old new None same = keeps_itself old new same
sees_keeps old new (Some version) looks = keeps_looking old new version looks

-- a request was answered after the epoch's line
pub answered_in : (settings : Settings) (number : ℕ) (fields : Record) (first : ℕ) (old new : EpochDesk) (line text : List ℕ)
    (refused : Bool)
    → line ≡ text_of (epoch_line first old.epoch) → Answered settings number fields old.desk new.desk line text refused
    → AnsweredIn settings number fields first old new text refused
answered_in settings number fields first old new line text refused is answered = (
  answered.0,
  answered.1,
  answered.2,
  answered.3,
  answered.4 ∙ ap (λ (t : List ℕ). t ++ text_of answered.1) is
      ∙ sym (flat_map-append record_text (epoch_line first old.epoch) answered.1),
  answered.5,
)

answers_keep : (settings : Settings) (number : ℕ) (fields : Record) (old new : EpochDesk) (look : Option Tape) (told shown : List Record)
    → AnswersOn settings number fields old new look told shown → KeepsEpochs old new
answers_keep settings number fields old new look told shown (next, over, sees, epoch, answers, is) =
    stays_over old next new over epoch (sees_keeps next.desk new.desk look sees)

pub epochs_never_fall : EpochsNeverFall
unfolding ServesFrom
epochs_never_fall settings number [] old new looks told shown h = subst (λ (d : EpochDesk). KeepsEpochs old d) (sym h.0) (stays_itself old)
epochs_never_fall settings number (fields ∷ requests) old new looks told shown h =
    stays_on old h.0 new (answers_keep settings number fields old h.0 h.1 h.3 h.5 h.10)
    (epochs_never_fall settings (number + 1) requests h.0 new h.2 h.4 h.6 h.11)

pub serves_as_answers : ServesAsAnswers
unfolding ServesFrom AnswersFrom
serves_as_answers settings number [] old new looks told shown h = (h.1, h.2)
serves_as_answers settings number (fields ∷ requests) old new looks told shown h = (
  h.1,
  h.2,
  h.3,
  h.4,
  h.7,
  h.8,
  h.10.4,
  serves_as_answers settings (number + 1) requests h.0 new h.2 h.4 h.6 h.11,
)

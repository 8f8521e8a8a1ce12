-- A client's stream: all its requests answered in order. This product's own rule.
use Rattle.std.specs.Prelude.{ℕ, ◌≡◌, ◌+◌, ◌++◌, ◌∷◌, List, [], count_by, is_none, length, Option}
use Rattle.std.specs.Io.KnownBytes.{Appends}
use Rattle.nms_quote.specs.Tape.{Tape}
use Rattle.nms_fees.specs.Settings.{Settings}
use Rattle.nms_lines.specs.Layout.{Record}
use Rattle.nms_lines.specs.Records.{AreAllRecords, BeginRecords}
use Rattle.nms_lines.specs.Text.{text_of}
use Rattle.nms_lines.specs.Written.{WritesPart}
use Rattle.nms_answers.specs.Epochs.{AnswersOn, KeepsEpochs}
use Rattle.nms_answers.specs.Requests.{AnswersRequest}
use Rattle.nms_answers.specs.declared.epoch_desk.EpochDesk.{EpochDesk}
use Rattle.nms_answers.specs.declared.request_counts.RequestCounts.{RequestCounts}

-- the requests in order, numbered from the given number on: for each the version that it was answered on, if any, and its
-- answer
unfoldable pub AnswersFrom : Settings → ℕ → List Record → List (Option Tape) → List Record → Type 0
AnswersFrom settings number [] looks told = (looks ≡ []) × (told ≡ [])
AnswersFrom settings number (fields ∷ requests) looks told =
    (look : Option Tape) × (rest : List (Option Tape)) × (now later : List Record) × (looks ≡ look ∷ rest) × (told ≡ now ++ later)
    × AnswersRequest settings number fields look now × AnswersFrom settings (number + 1) requests rest later

-- the requests in order, with the client's state before and after: for each the version that it was answered on, if any, its
-- answer, and the text shown, which has the lines of epochs too
unfoldable pub ServesFrom : Settings → ℕ → List Record → EpochDesk → EpochDesk → List (Option Tape) → List Record → List Record → Type 0
ServesFrom settings number [] old new looks told shown = (new ≡ old) × (looks ≡ []) × (told ≡ []) × (shown ≡ [])
ServesFrom settings number (fields ∷ requests) old new looks told shown =
    (next : EpochDesk) × (look : Option Tape) × (rest : List (Option Tape)) × (now later : List Record) × (first last : List Record)
    × (looks ≡ look ∷ rest) × (told ≡ now ++ later) × (shown ≡ first ++ last) × AnswersOn settings number fields old next look now first
    × ServesFrom settings (number + 1) requests next new rest later last

-- these requests were answered, and what was written is the text of the answers with the lines of epochs, and nothing else
pub record AreAnswered (settings : Settings) (requests : List Record) (old new : EpochDesk)
    (before after : Option (List ℕ)) : Type 0 where
  pub looks : List (Option Tape)
  pub told : List Record
  pub shown : List Record
  pub serves : ServesFrom settings 1 requests old new looks told shown
  pub written : Appends before after (text_of shown)

-- how many requests there were, and how many were refused
abbrev pub counts_of : List (Option Tape) → RequestCounts
counts_of looks = record { requests = length looks; refused = count_by is_none looks }

-- all requests of the stream were answered
pub record AnswersAll (settings : Settings) (bytes : Option (List ℕ)) (old new : EpochDesk) (before after : Option (List ℕ))
    (counts : RequestCounts) : Type 0 where
  pub requests : List Record
  pub all : AreAllRecords bytes requests
  pub answered : AreAnswered settings requests old new before after
  pub counted : counts ≡ counts_of answered.looks

-- the first requests of the stream were answered; the client may have gone over or looked once more
pub record AnswersFirst (settings : Settings) (bytes : Option (List ℕ)) (old new : EpochDesk)
    (before after : Option (List ℕ)) : Type 0 where
  pub requests : List Record
  pub begin : BeginRecords bytes requests
  pub last : EpochDesk
  pub answered : AreAnswered settings requests old last before after
  pub kept : KeepsEpochs last new

-- the writer failed: a prefix of such answers was written, and nothing else
abbrev pub AnswersInPart : Settings → Option (List ℕ) → EpochDesk → EpochDesk → Option (List ℕ) → Option (List ℕ) → Type 0
AnswersInPart settings bytes old new before after = WritesPart (λ whole. AnswersFirst settings bytes old new before whole) before after

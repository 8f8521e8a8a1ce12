-- The epochs of a client: the epoch of each answer, and how the client goes over to a later one. This product's own rule.
use Rattle.std.specs.Prelude.{ℕ, ◌≡◌, ◌<◌, ◌⊎◌, ◌==◌, ◌++◌, ◌∷◌, is_none, Bool, List, [], Option, codes, if◌then◌else◌}
use Rattle.std.specs.Fmt.{decimal}
use Rattle.nms_quote.specs.Tape.{Tape}
use Rattle.nms_fees.specs.Settings.{Settings}
use Rattle.nms_lines.specs.Layout.{Record}
use Rattle.nms_lines.specs.Text.{text_of}
use Rattle.nms_answers.specs.Requests.{AnswersRequest, Sees}
use Rattle.nms_answers.specs.Told.{KeepsKnown}
use Rattle.nms_answers.specs.declared.epoch_desk.EpochDesk.{EpochDesk}

-- the record that names an epoch: EPOCH,k
abbrev pub epoch_record : ℕ → Record
epoch_record epoch = codes "EPOCH" ∷ decimal epoch ∷ []

-- it comes before the first answer in that epoch, and before no other
abbrev pub epoch_line : ℕ → ℕ → List Record
epoch_line first epoch = if epoch == first then [] else epoch_record epoch ∷ []

-- a client stays in its epoch as it is, or goes over to a later one
abbrev pub GoesOver : EpochDesk → EpochDesk → Type 0
GoesOver old next = (next ≡ old) ⊎ (old.epoch < next.epoch)

-- a request was answered on a version of the epoch that the client is in afterwards, or refused; the answer, and the text
-- shown, which has the epoch's line before
abbrev pub AnswersOn : Settings → ℕ → Record → EpochDesk → EpochDesk → Option Tape → List Record → List Record → Type 0
AnswersOn settings number fields old new look told shown =
    (next : EpochDesk) × GoesOver old next × Sees next.desk new.desk look × (new.epoch ≡ next.epoch)
    × AnswersRequest settings number fields look told × (shown ≡ epoch_line old.epoch new.epoch ++ told)

-- the text is the text shown, and whether the request was refused is known
abbrev pub AnsweredFrom : Settings → ℕ → Record → EpochDesk → EpochDesk → List ℕ → Bool → Type 0
AnsweredFrom settings number fields old new text refused =
    (look : Option Tape) × (told shown : List Record) × AnswersOn settings number fields old new look told shown
    × (text ≡ text_of shown) × (refused ≡ is_none look)

-- as above, for a desk that has gone over, if it does, from that epoch
abbrev pub AnsweredIn : Settings → ℕ → Record → ℕ → EpochDesk → EpochDesk → List ℕ → Bool → Type 0
AnsweredIn settings number fields first old new text refused =
    (look : Option Tape) × (told : List Record) × Sees old.desk new.desk look × AnswersRequest settings number fields look told
    × (text ≡ text_of (epoch_line first old.epoch ++ told)) × (refused ≡ is_none look)

-- a client's epochs never fall, and in one epoch its desk knows all that it knew
abbrev pub KeepsEpochs : EpochDesk → EpochDesk → Type 0
KeepsEpochs old new = ((new.epoch ≡ old.epoch) × KeepsKnown old.desk new.desk) ⊎ (old.epoch < new.epoch)

-- A client's stream, epoch by epoch. This product's own rule.
use Rattle.std.specs.Prelude.{ℕ, ⊤, ◌≡◌, ◌+◌, ◌≤◌, ◌++◌, ◌∷◌, List, [], flat_map, length, map, Option}
use Rattle.nms_quote.specs.Tape.{Tape}
use Rattle.nms_fees.specs.Settings.{Settings}
use Rattle.nms_lines.specs.Layout.{Record}
use Rattle.nms_answers.specs.Epochs.{epoch_line}
use Rattle.nms_answers.specs.Streams.{AnswersFrom, ServesFrom}
use Rattle.nms_answers.specs.declared.epoch_desk.EpochDesk.{EpochDesk}
use Rattle.nms_answers.specs.ServedEpoch.{Asked, Client, NeverFall}

-- what a client asked and got in one epoch
pub record Stretch : Type 0 where
  pub epoch : ℕ
  pub client : Client

-- all that it asked in these
abbrev pub asked_in : List Stretch → List Asked
asked_in stretches = flat_map (λ stretch. stretch.client.asked) stretches

-- all answers that it got
abbrev pub told_in : List Stretch → List Record
told_in stretches = flat_map (λ stretch. stretch.client.told) stretches

-- what it was shown: the line of each epoch that it goes over to, and the answers there
abbrev pub shown_in : ℕ → List Stretch → List Record
shown_in epoch [] = []
shown_in epoch (stretch ∷ more) = epoch_line epoch stretch.epoch ++ (stretch.client.told ++ shown_in stretch.epoch more)

-- epochs rise, requests are numbered on, each is answered, and within an epoch the versions never fall
abbrev pub AreStretches : Settings → ℕ → ℕ → List Stretch → Type 0
AreStretches settings number least [] = ⊤
AreStretches settings number least (stretch ∷ more) =
    (least ≤ stretch.epoch) × (stretch.client.first ≡ number)
    × AnswersFrom settings number (map (λ asked. asked.fields) stretch.client.asked) (map (λ asked. asked.look) stretch.client.asked)
    stretch.client.told
    × NeverFall 0 stretch.client.asked × AreStretches settings (number + length stretch.client.asked) (stretch.epoch + 1) more

-- a stream is these stretches, and nothing else
pub record IsCut (settings : Settings) (number : ℕ) (requests : List Record) (first : ℕ) (looks : List (Option Tape))
    (told shown : List Record) : Type 0 where
  pub stretches : List Stretch
  pub are : AreStretches settings number first stretches
  pub fields : map (λ asked. asked.fields) (asked_in stretches) ≡ requests
  pub seen : map (λ asked. asked.look) (asked_in stretches) ≡ looks
  pub tells : told_in stretches ≡ told
  pub shows : shown_in first stretches ≡ shown

-- what `answer_stream` promises of a client's requests, cut by epochs
abbrev pub StreamsAreCut : Type 0
StreamsAreCut = (settings : Settings) (number : ℕ) (requests : List Record) (old new : EpochDesk) (looks : List (Option Tape))
    (told shown : List Record)
    → ServesFrom settings number requests old new looks told shown → IsCut settings number requests old.epoch looks told shown

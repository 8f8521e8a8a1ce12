-- A complete run: a script for each epoch, and what a client is shown by them. This product's own rule.
use Rattle.std.specs.Prelude.{ℕ, zero, suc, ⊤, ◌≡◌, ◌++◌, ◌∷◌, List, [], map, slice_get, Option, Some}
use Rattle.std.specs.List.{AllByRecursion}
use Rattle.nms_quote.specs.Tape.{Tape}
use Rattle.nms_fees.specs.Settings.{Settings}
use Rattle.nms_lines.specs.Layout.{Record}
use Rattle.nms_answers.specs.Epochs.{epoch_line}
use Rattle.nms_answers.specs.ServedEpoch.{Epoch, IsServed}
use Rattle.nms_answers.specs.OneScript.{IsOneScript, told_to}
use Rattle.nms_answers.specs.Stretches.{IsCut, Stretch}

-- a script for each epoch, in order
abbrev pub Scripts : Settings → List Epoch → Type 0
Scripts settings [] = ⊤
Scripts settings (epoch ∷ epochs) = IsOneScript settings epoch × Scripts settings epochs

-- what the script of an epoch, counted from 0, answers the client at a place
abbrev pub told_by : (settings : Settings) (epochs : List Epoch) → Scripts settings epochs → ℕ → ℕ → List Record
told_by settings [] scripts number place = []
told_by settings (epoch ∷ epochs) scripts zero place = told_to place scripts.0.said
told_by settings (epoch ∷ epochs) scripts (suc number) place = told_by settings epochs scripts.1 number place

-- what a client is shown that begins in an epoch and asks in these: the line of each that it goes over to, and the script's answers
abbrev pub shown_by : (settings : Settings) (epochs : List Epoch) → Scripts settings epochs → ℕ → ℕ → List ℕ → List Record
shown_by settings epochs scripts place begun [] = []
shown_by settings epochs scripts place begun (number ∷ later) =
    epoch_line begun number ++ (told_by settings epochs scripts number place ++ shown_by settings epochs scripts place number later)

-- in each of these stretches the client is the one at the place in that epoch
abbrev pub AreOf : List Epoch → ℕ → List Stretch → Type 0
AreOf epochs place stretches = AllByRecursion (λ stretch. (epoch : Epoch) × (slice_get epochs stretch.epoch ≡ Some epoch)
    × (slice_get epoch.clients place ≡ Some stretch.client)) stretches

-- each epoch of a run is one script; and all of a client's stream, cut by epochs, is what these scripts answer
abbrev pub RunIsScripts : Settings → Type 0
RunIsScripts settings = (epochs : List Epoch) → AllByRecursion (IsServed settings) epochs
    → (scripts : Scripts settings epochs)
    × ((place number begun : ℕ) (requests : List Record) (looks : List (Option Tape)) (told shown : List Record)
    → (cut : IsCut settings number requests begun looks told shown) → AreOf epochs place cut.stretches
    → shown ≡ shown_by settings epochs scripts place begun (map (λ stretch. stretch.epoch) cut.stretches))

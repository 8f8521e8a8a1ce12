-- A run's epochs, one after another.
use Rattle.std.proofs.Common.{ℕ, zero, suc, ◌≡◌, List, [], ◌∷◌, ◌++◌, map, Some, slice_get, refl, sym, ap, ap₂, ◌∙◌}
use Rattle.std.specs.List.{AllByRecursion}
use Rattle.nms_fees.specs.Settings.{Settings}
use Rattle.nms_lines.specs.Layout.{Record}
use Rattle.nms_answers.specs.Epochs.{epoch_line}
use Rattle.nms_answers.specs.ServedEpoch.{Client, Epoch, IsServed}
use Rattle.nms_answers.specs.OneScript.{IsOneScript}
use Rattle.nms_answers.specs.ServedRun.{AreOf, RunIsScripts, Scripts, shown_by, told_by}
use Rattle.nms_answers.specs.Stretches.{Stretch, shown_in}

scripts_of : (settings : Settings) → ((epoch : Epoch) → IsServed settings epoch → IsOneScript settings epoch) → (epochs : List Epoch)
    → AllByRecursion (IsServed settings) epochs → Scripts settings epochs
scripts_of settings law [] all = tt
scripts_of settings law (epoch ∷ epochs) all = (law epoch all.0, scripts_of settings law epochs all.1)

-- the script of an epoch answers a client what it got
tells_it : (settings : Settings) (epochs : List Epoch) (scripts : Scripts settings epochs) (number place : ℕ) (epoch : Epoch)
    (client : Client)
    → slice_get epochs number ≡ Some epoch → slice_get epoch.clients place ≡ Some client
    → told_by settings epochs scripts number place ≡ client.told
tells_it settings [] scripts number place epoch client found at = absurd (cc)
tells_it settings (first ∷ epochs) scripts zero place epoch client found at =
    let same : first ≡ epoch = cc found in
    scripts.0.told place client (ap (λ (e : Epoch). slice_get e.clients place) same ∙ at)
tells_it settings (first ∷ epochs) scripts (suc number) place epoch client found at =
    tells_it settings epochs scripts.1 number place epoch client found at

shows_it : (settings : Settings) (epochs : List Epoch) (scripts : Scripts settings epochs) (place begun : ℕ) (stretches : List Stretch)
    → AreOf epochs place stretches
    → shown_in begun stretches ≡ shown_by settings epochs scripts place begun (map (λ (s : Stretch). s.epoch) stretches)
shows_it settings epochs scripts place begun [] are = refl
shows_it settings epochs scripts place begun (stretch ∷ stretches) are =
    ap (λ (l : List Record). epoch_line begun stretch.epoch ++ l)
    (ap₂ (λ (a b : List Record). a ++ b)
    (sym (tells_it settings epochs scripts stretch.epoch place are.0.0 stretch.client are.0.1 are.0.2))
    (shows_it settings epochs scripts place stretch.epoch stretches are.1))

pub run_is_scripts : (settings : Settings) → ((epoch : Epoch) → IsServed settings epoch → IsOneScript settings epoch)
    → RunIsScripts settings
run_is_scripts settings law epochs all =
    let scripts = scripts_of settings law epochs all in (
      scripts,
      λ place number begun requests looks told shown cut are.
          sym cut.shows ∙ shows_it settings epochs scripts place begun cut.stretches are,
    )

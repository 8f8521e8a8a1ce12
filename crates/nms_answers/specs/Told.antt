-- The answer to a desk on one version: the same as a script's desk gets. This product's own rule.
use Rattle.std.specs.Prelude.{ℕ, ◌≡◌, ◌∷◌, ◌++◌, List, [], Ok}
use Rattle.nms_quote.specs.Roster.{sizes_of}
use Rattle.nms_quote.specs.Tape.{Tape}
use Rattle.nms_quote.specs.Terms.{Terms}
use Rattle.nms_board.specs.View.{view_of}
use Rattle.nms_fees.specs.Settings.{Settings}
use Rattle.nms_lines.specs.Layout.{Record}
use Rattle.nms_lines.specs.Text.{text_of}
use Rattle.nms_flow.specs.Run.{Event}
use Rattle.nms_flow.specs.declared.step.Step.TheVariants as step
use Rattle.nms_flow.specs.declared.reply.Reply.TheVariants as reply
use Rattle.nms_versions.specs.Taped.{AllBegin, Knowing}
use Rattle.nms_scripts.specs.Script.{ShowsBest, ShowsPlan, ShowsThrough}

-- the desk looked at a version, which begins with all that it knew
abbrev pub Looks : Knowing → Knowing → Tape → Type 0
Looks old new version = AllBegin version old.known × (new ≡ record old { known = version ∷ old.known })

-- what the machine of a script shows a desk that looks at the version
abbrev pub look_at : Settings → ℕ → ℕ → Tape → List Event
look_at settings number sym version = (step.Look number sym, Ok (reply.Seen (view_of (sizes_of settings.roster) version sym))) ∷ []

-- `N`: the script's answer on the version
abbrev pub TellsBest : Settings → ℕ → ℕ → Tape → List Record → Type 0
TellsBest settings number sym version told = ShowsBest settings.roster number sym (look_at settings number sym version) told

-- `E`: the script's answer on the version
abbrev pub TellsThrough : Settings → ℕ → ℕ → ℕ → Tape → List Record → Type 0
TellsThrough settings number sym price version told =
    ShowsThrough settings.roster number sym price (look_at settings number sym version) told

-- `O`: the script's answer on the version
abbrev pub TellsPlan : Settings → ℕ → Terms → Tape → List Record → Type 0
TellsPlan settings number order version told = ShowsPlan settings number order (look_at settings number order.sym version) told

-- the desk looked at one version, and the answer on it was appended to the text
abbrev pub AppendsOn : (Tape → List Record → Type 0) → Knowing → Knowing → List ℕ → List ℕ → Type 0
AppendsOn Tells old new before after =
    (version : Tape) × (told : List Record) × Looks old new version × Tells version told × (after ≡ before ++ text_of told)

-- the desk is of the same opening, and knows all that it knew
pub record KeepsKnown (old new : Knowing) : Type 0 where
  pub opening : new.opening ≡ old.opening
  pub sizes : new.sizes ≡ old.sizes
  pub known : (more : List Tape) × (new.known ≡ more ++ old.known)

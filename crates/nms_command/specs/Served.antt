-- What a request of any subcommand but `live` wrote when it was served, and how it ended. No contract says what a file holds,
-- so these say that some bytes exist for which it is true. This product's own rule.
use Rattle.std.specs.Prelude.{ℕ, ⊤, ◌≡◌, ◌≢◌, List, Option, Some, Ok, Err}
use Rattle.nms_quote.specs.Roster.{place_in}
use Rattle.nms_quote.specs.Terms.{Terms}
use Rattle.nms_fees.specs.Settings.{Settings}
use Rattle.nms_fees.specs.Setup.{IsRefused, IsSetupOf}
use Rattle.nms_fees.specs.declared.setup_fault.SetupFault.TheVariants as setup_fault
use Rattle.nms_lines.specs.Layout.{field}
use Rattle.nms_scripts.specs.Script.{Answers}
use Rattle.nms_scripts.specs.declared.counts.Counts.{Counts}
use Rattle.nms_file_answers.specs.ReportFile.{ReportsFile}
use Rattle.nms_files.specs.OrderWords.{order_asked}
use Rattle.nms_file_answers.specs.PlanFile.{PlansFile}
use Rattle.nms_text.specs.declared.script_fault.ScriptFault.TheVariants as script_fault
use Rattle.nms_words.specs.CommandLine.{Asked}
use Rattle.nms_words.specs.declared.subcommand.Sub.{Sub}
use Rattle.nms_words.specs.declared.subcommand.Sub.TheVariants as sub
use Rattle.nms_command.specs.Check.{JudgesFiles}
use Rattle.nms_command.specs.declared.command_fault.CommandFault.{CommandFault}
use Rattle.nms_command.specs.declared.command_fault.CommandFault.TheVariants as fault
use Rattle.nms_command.specs.declared.ending.Ending.{Ending}
use Rattle.nms_command.specs.declared.ending.Ending.TheVariants as ending

-- the report of the symbol that the second word names was written, after all the changes of a file, and nothing else
abbrev pub Reports : Settings → List (List ℕ) → Option (List ℕ) → Option (List ℕ) → Type 0
Reports settings own old new =
    (bytes : Option (List ℕ)) × (sym : ℕ) × (place_in settings.roster.syms (field own 1) ≡ Some sym)
    × ReportsFile settings bytes sym old new

-- the order that is asked for: by the arguments after the first and by the options
abbrev pub asked_order : Settings → Asked → Option Terms
asked_order settings asked =
    order_asked settings.roster (field asked.own 1) (field asked.own 2) (field asked.own 3) (field asked.own 4) asked.manual asked.self_help

-- a plan of that order was written with its certificate, on all the changes of a file
abbrev pub Plans : Settings → Asked → Option (List ℕ) → Option (List ℕ) → Type 0
Plans settings asked old new = (bytes : Option (List ℕ)) × (order : Terms) × (asked_order settings asked ≡ Some order)
    × PlansFile settings bytes order old new

-- the answers to the script of the input were written, and nothing else
abbrev pub Scripts : Settings → Option (List ℕ) → Option (List ℕ) → Option (List ℕ) → Type 0
Scripts settings input old new = (counts : Counts) × Answers settings input old new counts

-- the request under a setup was done. For `check` it says whether the plan is confirmed. A live run is not served here
abbrev pub Serves : Sub → Settings → Asked → Option (List ℕ) → Option (List ℕ) → Option (List ℕ) → Ending → Type 0
Serves sub.Script settings asked input old new ends = (ends ≡ ending.Done) × Scripts settings input old new
Serves sub.Report settings asked input old new ends = (ends ≡ ending.Done) × Reports settings asked.own old new
Serves sub.Plan settings asked input old new ends = (ends ≡ ending.Done) × Plans settings asked old new
Serves sub.Check settings asked input old new ends = JudgesFiles settings old new ends
Serves sub.Live settings asked input old new ends = ⊥

-- some bytes say the setup
abbrev pub IsSetup : Settings → Type 0
IsSetup settings = (bytes : List ℕ) × IsSetupOf bytes settings

-- the bytes of a file give no setup, or out of memory
abbrev pub Refuses : List ℕ → CommandFault → Type 0
Refuses bytes (fault.Setup why) = why ≢ setup_fault.NoMemory → IsRefused bytes why
Refuses bytes _ = ⊥

-- why there is no setup: some bytes give none; or their file could not be read; or out of memory
abbrev pub IsNoSetup : CommandFault → Type 0
IsNoSetup (fault.Setup why) = (bytes : List ℕ) × Refuses bytes (fault.Setup why)
IsNoSetup fault.Unreadable = ⊤
IsNoSetup (fault.Script why) = why ≡ script_fault.NoMemory
IsNoSetup _ = ⊥

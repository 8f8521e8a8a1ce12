-- What the arguments ask for was done: a request of any subcommand, or help. No contract says what a file holds, so these say that
-- some bytes exist for which it is true. This product's own rule.
use Rattle.std.specs.Prelude.{ℕ, ◌≡◌, ◌⊎◌, List, Option, Some, length}
use Rattle.std.specs.Io.KnownBytes.{Appends}
use Rattle.nms_quote.specs.declared.desk_order.DeskOrder.{DeskOrder}
use Rattle.nms_fees.specs.Settings.{Settings}
use Rattle.nms_lines.specs.Text.{text_of}
use Rattle.nms_files.specs.OrderFile.{AreFileOrders}
use Rattle.nms_live.specs.Living.{IsLive}
use Rattle.nms_live.specs.declared.live.Live.{Live}
use Rattle.nms_text.specs.LiveText.{live_records}
use Rattle.nms_words.specs.CommandLine.{Asked, asked_by}
use Rattle.nms_words.specs.declared.subcommand.Sub.{Sub}
use Rattle.nms_words.specs.declared.subcommand.Sub.TheVariants as sub
use Rattle.nms_command.specs.Served.{IsSetup, Serves}
use Rattle.nms_command.specs.Steps.{ShowsHelp}
use Rattle.nms_command.specs.declared.ending.Ending.{Ending}
use Rattle.nms_command.specs.declared.ending.Ending.TheVariants as ending

-- the result of a live run was written, and nothing else: the length of its tape, and its closing answers
abbrev pub WritesRun : Settings → Live → Option (List ℕ) → Option (List ℕ) → Type 0
WritesRun settings live old new = Appends old new (text_of (live_records settings.roster (length live.tape.items) live.closing.items))

-- a live run of feeds' texts with the orders of a file gave the result that was written
pub record Runs (settings : Settings) (old new : Option (List ℕ)) : Type 0 where
  pub texts : List (List ℕ)
  pub file : Option (List ℕ)
  pub orders : List DeskOrder
  pub live : Live
  pub feeds : length texts ≡ settings.feeds
  pub ordered : AreFileOrders settings file orders
  pub came : IsLive settings texts orders live
  pub written : WritesRun settings live old new

-- the request under a setup was done
abbrev pub Does : Sub → Settings → Asked → Option (List ℕ) → Option (List ℕ) → Option (List ℕ) → Ending → Type 0
Does sub.Script settings asked input old new ends = Serves sub.Script settings asked input old new ends
Does sub.Report settings asked input old new ends = Serves sub.Report settings asked input old new ends
Does sub.Plan settings asked input old new ends = Serves sub.Plan settings asked input old new ends
Does sub.Check settings asked input old new ends = Serves sub.Check settings asked input old new ends
Does sub.Live settings asked input old new ends = (ends ≡ ending.Done) × Runs settings old new

-- the request was served under some setup
abbrev pub IsServed : Asked → Option (List ℕ) → Option (List ℕ) → Option (List ℕ) → Ending → Type 0
IsServed asked input old new ends = (settings : Settings) × IsSetup settings × Does asked.command settings asked input old new ends

-- what the arguments ask for was done: the request that they are, or help was shown
abbrev pub AreServed : List (List ℕ) → Option (List ℕ) → Option (List ℕ) → Option (List ℕ) → Ending → Type 0
AreServed words input old new ends =
    ((asked : Asked) × (asked_by words ≡ Some asked) × IsServed asked input old new ends) ⊎ ((ends ≡ ending.Done) × ShowsHelp words old new)

-- The files of a live run, and why they were not read. No contract says what a file holds, so these say that some bytes exist
-- for which they are true. This product's own rule.
use Rattle.std.specs.Prelude.{ℕ, ⊤, ◌≡◌, ◌≢◌, ◌+◌, List, Option}
use Rattle.nms_quote.specs.declared.desk_order.DeskOrder.{DeskOrder}
use Rattle.nms_fees.specs.Settings.{Settings}
use Rattle.nms_files.specs.OrderFile.{AreFileOrders, IsOrdersFault}
use Rattle.nms_text.specs.declared.script_fault.ScriptFault.TheVariants as script_fault
use Rattle.nms_command.specs.declared.command_fault.CommandFault.{CommandFault}
use Rattle.nms_command.specs.declared.command_fault.CommandFault.TheVariants as fault

-- the orders of some file
abbrev pub AreOrdersOfSome : Settings → List DeskOrder → Type 0
AreOrdersOfSome settings orders = (bytes : Option (List ℕ)) × AreFileOrders settings bytes orders

-- the most bytes of a feed's file
abbrev pub most_feed_bytes : ℕ
most_feed_bytes = 1000000000

-- why the input of a live run was not read, if the arguments name this many files: it is not the file of orders and one file for
-- each feed; or a line of the orders is refused; or a file could not be read, or is too long; or out of memory
abbrev pub IsNotGiven : Settings → ℕ → CommandFault → Type 0
IsNotGiven settings files fault.Usage = files ≢ 1 + settings.feeds
IsNotGiven settings files (fault.Orders why) = (bytes : Option (List ℕ)) × IsOrdersFault settings bytes why
IsNotGiven settings files (fault.Feed why) = ⊤
IsNotGiven settings files fault.Unreadable = ⊤
IsNotGiven settings files (fault.Script why) = why ≡ script_fault.NoMemory
IsNotGiven settings files _ = ⊥

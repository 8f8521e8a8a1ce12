-- How far a shard is filled, and how many rows its import took. This product's own rule.
use Rattle.std.specs.Prelude.{ℕ, Bool, true, false, List, Option, Some, None, length}
use Rattle.csv.specs.declared.parser.Config.{Config}
use Rattle.csv.specs.declared.reader.Reader.{Reader}
use Rattle.nms_lines.specs.Layout.{Record}
use Rattle.nms_quote.specs.declared.change.Change.{Change}
use Rattle.nms_import.specs.Rows.{AreAllRows, RowsFrom}
use Rattle.nms_shards.specs.declared.sharding.Shard.{Shard}
use Rattle.nms_shards.specs.declared.sharding.Shard.TheVariants as shard

-- the changes of a shard, opening ones among them; how many of them are opening ones; the most that its setup's tape takes; its
-- symbols
pub record Filled : Type 0 where
  pub changes : ℕ
  pub opened : ℕ
  pub limit : ℕ
  pub symbols : ℕ

-- how many opening changes a shard begins with
abbrev pub opened_with : Option (List Change) → ℕ
opened_with None = 0
opened_with (Some changes) = length changes

-- how many rows wait for the next shard
abbrev pub waiting : Bool → ℕ
waiting true = 1
waiting false = 0

-- how many rows wait after an import
abbrev pub waiting_after : Shard → ℕ
waiting_after shard.GoesOn = 0
waiting_after shard.Full = 1

-- the rows that were read until an import stopped: all that are left, or those up to the one that waits
abbrev pub AreRead : {R : Type 0} → Config → (R → Option (List ℕ)) → Reader R → Option (List ℕ) → List Record → Shard → Type 0
AreRead config remaining reader bytes rows shard.GoesOn = AreAllRows config bytes rows
AreRead config remaining reader bytes rows shard.Full = RowsFrom config remaining reader bytes rows

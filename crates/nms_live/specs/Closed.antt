-- A run whose threads have ended: the tape, what was published, and each desk's answers. This product's own rule.
use Rattle.std.specs.Prelude.{ℕ, ◌≡◌, ◌≤◌, List, length}
use Rattle.nms_fees.specs.Settings.{Settings}
use Rattle.nms_live.specs.Keeping.{WasPublished}
use Rattle.nms_live.specs.Lists.{EndsWith, IsRising}
use Rattle.nms_live.specs.Reading.{IsTapeOf}
use Rattle.nms_live.specs.Rows.{AreRows}
use Rattle.nms_quote.specs.declared.desk_order.DeskOrder.{DeskOrder}
use Rattle.nms_live.specs.declared.living.Closed.{Closed}

-- what there is of a run over the feeds' texts and these orders before all answers are put into the order of the orders
pub record IsClosedRun (settings : Settings) (texts : List (List ℕ)) (orders : List DeskOrder) (closed : Closed) : Type 0 where
  pub tape : IsTapeOf settings.roster texts closed.tape.items
  pub limit : length closed.tape.items ≤ settings.tape_limit
  pub published : WasPublished closed.tape.items closed.published.items
  pub rising : IsRising closed.published.items
  pub ends : EndsWith closed.published.items (length closed.tape.items)
  -- each desk answered its orders while the feeds were running, and on the complete tape
  pub rows : AreRows settings orders closed.tape.items closed.published.items closed.rows.items
  pub all : length closed.rows.items ≡ settings.desks

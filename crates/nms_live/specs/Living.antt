-- The result of a live run: the tape, what was published, and the answers. This product's own rule.
use Rattle.std.specs.Prelude.{ℕ, ◌≤◌, List, length}
use Rattle.nms_fees.specs.Settings.{Settings}
use Rattle.nms_live.specs.Answering.{IsAnswered}
use Rattle.nms_live.specs.Keeping.{WasPublished}
use Rattle.nms_live.specs.Lists.{EndsWith, IsRising}
use Rattle.nms_live.specs.Reading.{IsTapeOf}
use Rattle.nms_quote.specs.declared.desk_order.DeskOrder.{DeskOrder}
use Rattle.nms_live.specs.declared.live.Live.{Live}

-- the result of a run over the feeds' texts and these orders
pub record IsLive (settings : Settings) (texts : List (List ℕ)) (orders : List DeskOrder) (live : Live) : Type 0 where
  -- every record of each feed reads as a change of its feed, and the tape is a merge of these, within its limit
  pub tape : IsTapeOf settings.roster texts live.tape.items
  pub limit : length live.tape.items ≤ settings.tape_limit
  -- the tape was published batch by batch: the lengths that were published are 0 and those that are listed, and no others
  pub published : WasPublished live.tape.items live.published.items
  -- they never fall and end with the complete tape
  pub rising : IsRising live.published.items
  pub ends : EndsWith live.published.items (length live.tape.items)
  -- each order has an answer, and one on the complete tape, each the best on its version
  pub answered : IsAnswered settings orders live.tape.items live.published.items live.answers.items live.closing.items

-- What a setup says. This product's own rule.
use Rattle.std.specs.Prelude.{◌≡◌, ℕ, ◌<◌, ◌≤◌, length}
use Rattle.std.specs.List.{AllByRecursion}
use Rattle.nms_quote.specs.Merge.{place_of}
use Rattle.nms_quote.specs.Roster.{Listing}
use Rattle.nms_quote.specs.declared.TheConstants.{MOST_CHANGES, MOST_FEEDS}
use Rattle.nms_fee_book.specs.Fees.{AreCapped, Charges}
use Rattle.nms_fees.specs.declared.TheConstants.{LEAST_QUEUE, MOST_DESKS, MOST_QUEUE}

-- the roster, the fees of each participant by place with the caps that they keep, and the numbers: the most changes of
-- the tape, the places of the queue, the desks and the feeds
pub record Settings : Type 0 where
  pub roster : Listing
  pub fees : Charges
  pub tape_limit : ℕ
  pub queue : ℕ
  pub desks : ℕ
  pub feeds : ℕ

-- each number is in its range, each participant sends on one of the feeds, and has its fees, none over its cap
pub record IsInRange (settings : Settings) : Type 0 where
  pub tape_low : 1 ≤ settings.tape_limit
  pub tape_high : settings.tape_limit ≤ MOST_CHANGES
  pub queue_low : LEAST_QUEUE ≤ settings.queue
  pub queue_high : settings.queue ≤ MOST_QUEUE
  pub desks_low : 1 ≤ settings.desks
  pub desks_high : settings.desks ≤ MOST_DESKS
  pub feeds_low : 1 ≤ settings.feeds
  pub feeds_high : settings.feeds ≤ MOST_FEEDS
  pub feed_of_each : AllByRecursion (λ entry. place_of entry.1 < settings.feeds) settings.roster.parts
  pub fees_of_each : length settings.fees.schedules ≡ length settings.roster.parts
  pub fees_capped : AreCapped settings.fees.caps settings.fees.schedules

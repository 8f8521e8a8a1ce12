-- The answers of each desk, and what is left of them while they are put in the order of the orders. This product's own
-- rule.
use Rattle.std.specs.Prelude.{ℕ, ◌≡◌, ◌<◌, ◌++◌, List, length, slice_index_or}
use Rattle.std.specs.List.{AllByRecursion, AllZip}
use Rattle.nms_quote.specs.Tape.{Tape}
use Rattle.nms_fees.specs.Settings.{Settings}
use Rattle.nms_live.specs.Answering.{IsClosed, IsFor, IsSound, of_desk, own}
use Rattle.nms_quote.specs.declared.answer.Answer.{Answer}
use Rattle.nms_live.specs.declared.closing.DeskRow.{DeskRow}
use Rattle.nms_quote.specs.declared.desk_order.DeskOrder.{DeskOrder}

-- each desk's answers, in order of its number
abbrev pub AreRows : Settings → List DeskOrder → Tape → List ℕ → List DeskRow → Type 0
AreRows settings orders tape published rows =
    (k : ℕ) (d : DeskRow) → k < length rows → IsClosed settings k orders tape published (slice_index_or rows k d)

-- a closing answer: it is sound, and on the complete tape
abbrev pub IsLast : Settings → Tape → List ℕ → Answer → Type 0
IsLast settings tape published answer = IsSound settings tape published answer × (answer.plan.version ≡ length tape)

-- some of a desk's answers were put after the others: the rest answers the desk's orders from there on, and each is as required
pub record IsLeft (IsWanted : Answer → Type 0) (desk : ℕ) (left : List (ℕ × DeskOrder)) (put first now : List Answer) : Type 0 where
  pub parted : of_desk desk put ++ now ≡ first
  pub matched : AllZip IsFor (own desk left) now
  pub wanted : AllByRecursion IsWanted now

-- this holds of each desk, of its answers or of its closing ones
abbrev pub AreLeft : (DeskRow → List Answer) → (Answer → Type 0) → List (ℕ × DeskOrder) → List Answer → List DeskRow → List DeskRow → Type 0
AreLeft part IsWanted left put first now =
    (k : ℕ) (d : DeskRow) → k < length now
    → IsLeft IsWanted k left put (part (slice_index_or first k d)) (part (slice_index_or now k d))

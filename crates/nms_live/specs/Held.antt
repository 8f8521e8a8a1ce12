-- The answers of a desk as it holds them: the legs and cuts of all of them in a row, and where each answer has its own. This
-- product's own rule.
use Rattle.std.specs.Prelude.{◌≤◌, ◌-◌, List, length, slice_range}
use Rattle.nms_board.specs.declared.TheConstants.{MOST_ROWS}
use Rattle.nms_quote.specs.declared.answer.Answer.{Answer}
use Rattle.nms_quote.specs.declared.certificate.Cut.{Cut}
use Rattle.nms_quote.specs.declared.plan.Leg.{Leg}
use Rattle.nms_live.specs.declared.answers.Head.{Head}
use Rattle.nms_live.specs.declared.answers.Span.{Span}

-- the answers that are held, in order
pub record Held : Type 0 where
  pub items : List Answer

-- a span is within the items, and has no more of them than an answer can have
pub record IsSpanOf {X : Type 0} (items : List X) (span : Span) : Type 0 where
  pub ordered : span.start ≤ span.end
  pub within : span.end ≤ length items
  pub few : span.end - span.start ≤ MOST_ROWS

-- what a head speaks of is there
pub record IsHeadOf (legs : List Leg) (cuts : List Cut) (head : Head) : Type 0 where
  pub legs_in : IsSpanOf legs head.legs
  pub cuts_in : IsSpanOf cuts head.cuts

-- the items of a span
abbrev pub items_of : {X : Type 0} → List X → Span → List X
items_of items span = slice_range items span.start span.end

-- the answer of a head
abbrev pub answer_of : List Leg → List Cut → Head → Answer
answer_of legs cuts head = record {
  desk = head.desk;
  number = head.number;
  plan = record {
    version = head.version;
    order = head.order;
    legs = record { items = items_of legs head.legs };
    filled = head.filled;
    cost = head.cost;
  };
  certificate = record { items = items_of cuts head.cuts };
}

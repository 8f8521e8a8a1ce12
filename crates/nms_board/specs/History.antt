-- What a tape says about one side of one participant in one symbol, and about the symbol's round lot, looking back over all of
-- it. This product's own rule, after the tape's order of changes.
use Rattle.std.specs.Prelude.{ℕ, ◌+◌, ◌==◌, ◌&&◌, Bool, true, false, List, [], ◌∷◌, map, Option, Some, None, option_map, slice_get}
use Rattle.std.specs.Prelude.{unwrap_or, if◌then◌else◌}
use Rattle.std.specs.List.{filter_map, last_or, list_all}
use Rattle.nms_quote.specs.Content.{Content}
use Rattle.nms_quote.specs.Roster.{Sizes}
use Rattle.nms_quote.specs.Tape.{Tape, versions}
use Rattle.nms_quote.specs.declared.side_quote.Side.{Side}
use Rattle.nms_quote.specs.declared.side_quote.Side.TheVariants.{Bid, Offer}
use Rattle.nms_quote.specs.declared.side_quote.QState.{QState}
use Rattle.nms_quote.specs.declared.change.Change.{Change}
use Rattle.nms_quote.specs.declared.change.Change.TheVariants as change

abbrev pub on_side : {X : Type 0} → Side → X → X → X
on_side Bid bid offer = bid
on_side Offer bid offer = offer

-- whether a change concerns a symbol. A withdrawal concerns every symbol
abbrev pub concerns : ℕ → Change → Bool
concerns sym (change.Quote p s state bid offer) = s == sym
concerns sym (change.State p s state) = s == sym
concerns sym (change.Withdraw p) = true
concerns sym (change.Lot s lot) = s == sym

-- what a change says of the side: nothing, or its content from then on. A withdrawal concerns every symbol
abbrev pub said_of : ℕ → ℕ → Side → Change → Option (Option Content)
said_of part sym side (change.Quote p s state bid offer) = if p == part && s == sym then Some (on_side side bid offer) else None
said_of part sym side (change.State p s state) = None
said_of part sym side (change.Withdraw p) = if p == part then Some None else None
said_of part sym side (change.Lot s lot) = None

-- the side's content: what the last change that concerns it says, and nothing if there is none
abbrev pub content_at : ℕ → ℕ → Side → Tape → Option Content
content_at part sym side tape = unwrap_or (last_or None (filter_map (said_of part sym side) tape)) None

-- what a change says of the participant's state in the symbol
abbrev pub state_said : ℕ → ℕ → Change → Option QState
state_said part sym (change.Quote p s state bid offer) = if p == part && s == sym then Some state else None
state_said part sym (change.State p s state) = if p == part && s == sym then Some state else None
state_said part sym (change.Withdraw p) = None
state_said part sym (change.Lot s lot) = None

-- the state: that of the last quote or change of state that concerns the participant in the symbol
abbrev pub state_at : ℕ → ℕ → Tape → Option QState
state_at part sym tape = last_or None (filter_map (state_said part sym) tape)

-- what a change says of the symbol's round lot
abbrev pub lot_said : ℕ → Change → Option ℕ
lot_said sym (change.Quote p s state bid offer) = None
lot_said sym (change.State p s state) = None
lot_said sym (change.Withdraw p) = None
lot_said sym (change.Lot s lot) = if s == sym then Some lot else None

-- the round lot of a symbol that opened with one: that of its last lot change, else the opening one
abbrev pub lot_since : ℕ → Tape → ℕ → ℕ
lot_since sym tape opening = unwrap_or (last_or None (filter_map (lot_said sym) tape)) opening

-- the round lot of a symbol of the roster
abbrev pub lot_listed : Sizes → Tape → ℕ → Option ℕ
lot_listed sizes tape sym = option_map (lot_since sym tape) (slice_get sizes.lots sym)

-- that lot; a symbol out of the roster has lot 0, which shows nothing
abbrev pub lot_at : Sizes → Tape → ℕ → ℕ
lot_at sizes tape sym = unwrap_or (lot_listed sizes tape sym) 0

-- the same price and shares, or nothing twice
abbrev pub same_content : Option Content → Option Content → Bool
same_content None None = true
same_content None (Some y) = false
same_content (Some x) None = false
same_content (Some x) (Some y) = x.price == y.price && x.shares == y.shares

-- how many entries are before the equal ones at the end
unfoldable pub before_equal_end : List (Option Content) → ℕ
before_equal_end [] = 0
before_equal_end (x ∷ xs) = if list_all (same_content x) xs then 0 else before_equal_end xs + 1

-- the side's content in each version, from the empty tape to the complete one
abbrev pub contents_over : ℕ → ℕ → Side → Tape → List (Option Content)
contents_over part sym side tape = map (content_at part sym side) (versions tape)

-- the side's receipt: the least version from which on every version has the same content
abbrev pub receipt_of : ℕ → ℕ → Side → Tape → ℕ
receipt_of part sym side tape = before_equal_end (contents_over part sym side tape)

-- The tape of changes, and its versions. This product's own rule.
use Rattle.std.specs.Prelude.{ℕ, List, [], ◌∷◌, map, take, Option, Some, None}
use Rattle.nms_quote.specs.declared.change.Change.{Change}
use Rattle.nms_quote.specs.declared.change.Change.TheVariants as change

-- the changes, first to last
abbrev pub Tape : Type 0
Tape = List Change

-- the participant that sends a change. A new round lot is sent by none
abbrev pub participant_of : Change → Option ℕ
participant_of (change.Quote part sym state bid offer) = Some part
participant_of (change.State part sym state) = Some part
participant_of (change.Withdraw part) = Some part
participant_of (change.Lot sym lot) = None

-- version n: the first n changes
abbrev pub version : ℕ → Tape → Tape
version n tape = take n tape

-- every version, from the empty tape to the complete one
abbrev pub versions : Tape → List Tape
versions [] = [] ∷ []
versions (change ∷ changes) = [] ∷ map (λ tape. change ∷ tape) (versions changes)

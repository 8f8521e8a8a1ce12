-- What was published, batch by batch: a batch is what one publishing added to the published version.
-- This product's own rule.
use Rattle.std.specs.Prelude.{ℕ, ◌+◌, ◌<◌, List, [], ◌∷◌, ◌++◌, length, replicate}
use Rattle.std.specs.List.{AllByRecursion}
use Rattle.nms_quote.specs.Tape.{Tape}
use Rattle.nms_quote.specs.declared.change.Change.{Change}

-- the batches, first to last
abbrev pub Batches : Type 0
Batches = List (List Change)

-- the changes of the batches in a row: the version that they publish
abbrev pub changes : Batches → Tape
changes [] = []
changes (batch ∷ batches) = batch ++ changes batches

-- every batch has a change
abbrev pub NoneEmpty : Batches → Type 0
NoneEmpty batches = AllByRecursion (λ batch. 0 < length batch) batches

-- the batches with what was pending as one more, if anything was
abbrev pub committed : Batches → List Change → Batches
committed batches [] = batches
committed batches (change ∷ pending) = batches ++ (change ∷ pending) ∷ []

-- the lengths that were published from one on: that one, then the length after each further batch
abbrev pub lengths_from : ℕ → Batches → List ℕ
lengths_from n [] = n ∷ []
lengths_from n (batch ∷ batches) = n ∷ lengths_from (n + length batch) batches

-- the publications: 0 at opening, then the length of each version that was published
abbrev pub publications : Batches → List ℕ
publications batches = lengths_from 0 batches

-- for each change of the batches, the length that was published when it was appended
abbrev pub borne_from : ℕ → Batches → List ℕ
borne_from n [] = []
borne_from n (batch ∷ batches) = replicate (length batch) n ++ borne_from (n + length batch) batches

-- the length that each change of a tape bears: those that were published, then those that are pending
abbrev pub borne : Batches → List Change → List ℕ
borne batches pending = borne_from 0 batches ++ replicate (length pending) (length (changes batches))

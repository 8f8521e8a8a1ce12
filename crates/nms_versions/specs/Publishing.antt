-- What a publisher keeps in addition to what it reports. This product's own rule.
use Rattle.std.specs.Prelude.{ℕ, ◌≡◌, ◌<◌, ◌≤◌, true, List, [], ◌∷◌, ◌++◌, All, length}
use Rattle.nms_quote.specs.Roster.{Sizes, holds}
use Rattle.nms_quote.specs.declared.TheConstants.{MOST_CHANGES}
use Rattle.nms_quote.specs.declared.change.Change.{Change}
use Rattle.nms_versions.specs.Fresh.{items_of}
use Rattle.nms_versions.specs.History.{Chronicle}
use Rattle.nms_versions.specs.Published.{NoneEmpty, changes}
use Rattle.nms_versions.specs.declared.batch.Batch.{Batch}
use Rattle.nms_versions.specs.declared.sealed.Sealed.{Sealed}

-- what the pair shows has the history's batches, and nothing waits in the pair
pub record IsSound (sealed : Sealed) (waiting : List Batch) (history : Chronicle) : Type 0 where
  pub book : sealed.seen.book ≡ history.opening
  pub log : sealed.seen.log ≡ history.published
  pub idle : waiting ≡ []

-- the tape is what was published, and then what is pending
pub record IsTaped (history : Chronicle) (tape pending : List Change) (published limit : ℕ) (sizes : Sizes) : Type 0 where
  pub tape_is : tape ≡ changes history.published ++ pending
  pub counted : published ≡ length (changes history.published)
  pub none_empty : NoneEmpty history.published
  pub is_open : 0 < length pending → history.is_open ≡ true
  pub held : All (λ change. holds sizes change ≡ true) pending
  pub within : length tape ≤ limit
  pub most : limit ≤ MOST_CHANGES

-- a batch that goes after what is shown: its changes are of the roster, and the tape has room for them
pub record Follows (sealed : Sealed) (batch : Batch) : Type 0 where
  pub book : batch.seen.book ≡ sealed.seen.book
  pub log : batch.seen.log ≡ sealed.seen.log ++ items_of batch.changes ∷ []
  pub held : All (λ change. holds sealed.boards.sizes change ≡ true) (items_of batch.changes)
  pub room : length (changes batch.seen.log) ≤ MOST_CHANGES

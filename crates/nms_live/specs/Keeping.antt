-- What the taker keeps while a run goes on. This product's own rule.
use Rattle.std.specs.Prelude.{ℕ, ◌≡◌, ◌≤◌, ◌⊎◌, ◌↔◌, List, length, Option, None}
use Rattle.std.specs.List.{AllByRecursion, Contains}
use Rattle.nms_quote.specs.declared.marked.Marked.{Marked}
use Rattle.nms_flow.specs.Run.{changes_in}
use Rattle.nms_quote.specs.Tape.{Tape}
use Rattle.nms_versions.specs.Published.{Batches, NoneEmpty, changes, publications}
use Rattle.nms_versions.specs.Taped.{Taped, tape_of}
use Rattle.nms_live.specs.Faults.{IsNoLineIfAny}
use Rattle.nms_live.specs.Lists.{EndsWith, IsRising}
use Rattle.nms_live.specs.declared.live_fault.LiveFault.{LiveFault}

-- the publisher, the length at each publishing, and why no more is taken in, if so
pub record Keeping : Type 0 where
  pub taped : Taped
  pub listed : List ℕ
  pub stop : Option LiveFault

-- a length is a publication exactly if it is 0 or listed
abbrev pub AreListed : Batches → List ℕ → Type 0
AreListed batches listed = (n : ℕ) → Contains (publications batches) n ↔ (n ≡ 0) ⊎ Contains listed n

-- the publications are 0 and the lengths listed; these never fall, and none is beyond what was published last
pub record IsKept (taped : Taped) (listed : List ℕ) (stop : Option LiveFault) : Type 0 where
  pub published : AreListed taped.published listed
  pub rising : IsRising listed
  pub within : AllByRecursion (λ n. n ≤ length (changes taped.published)) listed
  pub stopped : IsNoLineIfAny stop

-- it is the same opening, with the same bounds
pub record IsSameKeeping (old new : Keeping) : Type 0 where
  pub opening : new.taped.opening ≡ old.taped.opening
  pub sizes : new.taped.sizes ≡ old.taped.sizes
  pub limit : new.taped.limit ≡ old.taped.limit

-- unless it stopped, the tape is what was taken
abbrev pub HasTaken : Keeping → List Marked → Type 0
HasTaken keeping taken = keeping.stop ≡ None → tape_of keeping.taped ≡ changes_in taken

-- all of the tape is published, and its length was listed last
pub record IsWhole (keeping : Keeping) : Type 0 where
  pub published : changes keeping.taped.published ≡ tape_of keeping.taped
  pub ends : EndsWith keeping.listed (length (tape_of keeping.taped))

-- the tape was published in batches, none of them empty; a length is the one after some of them exactly if it is 0 or
-- listed
pub record WasPublished (tape : Tape) (listed : List ℕ) : Type 0 where
  pub batches : Batches
  pub whole : changes batches ≡ tape
  pub none_empty : NoneEmpty batches
  pub listed_them : AreListed batches listed

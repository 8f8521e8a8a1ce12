-- A text that is written in pieces: what was sent to the writer, and what waits in a buffer.
use Rattle.std.specs.Prelude.{ℕ, ◌≡◌, ◌++◌, List, Option}
use Rattle.std.specs.Io.KnownBytes.{Appends}

-- a prefix of what waited before and what was added was sent, and the rest waits now
pub record Sends (old new : Option (List ℕ)) (waited came waits : List ℕ) : Type 0 where
  pub sent : List ℕ
  pub written : Appends old new sent
  pub all : waited ++ came ≡ sent ++ waits

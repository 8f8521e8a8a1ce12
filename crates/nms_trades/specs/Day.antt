-- A day that is cut into shards: what its shards say together about a record of a file of executions. Exactly one of them may judge it.
-- This product's own rule.
use Rattle.std.specs.Prelude.{ℕ, ◌≡◌, ◌+◌, ◌==◌, Bool, true, false, not, List, [], ◌∷◌, cond, count_by, filter, length}
use Rattle.std.specs.Prelude.{Option, Some, None, if◌then◌else◌}
use Rattle.nms_show.specs.declared.ending.Ending.{Ending}
use Rattle.nms_show.specs.declared.ending.Ending.TheVariants as ending
use Rattle.nms_quote.specs.Roster.{Listing}
use Rattle.nms_quote.specs.Tape.{Tape}
use Rattle.nms_trades.specs.Counts.{is_judged, is_noquote, is_perhaps, is_through, stands}
use Rattle.nms_trades.specs.Files.{AreJudged}
use Rattle.nms_trades.specs.declared.day.Day.{Day}
use Rattle.nms_trades.specs.declared.execution.Execution.{Execution}
use Rattle.nms_trades.specs.declared.execution_file.Refusal.{Refusal}
use Rattle.nms_trades.specs.declared.finding.Finding.{Finding}
use Rattle.nms_trades.specs.declared.said.Said.{Said}
use Rattle.nms_trades.specs.declared.said.Said.TheVariants as said
use Rattle.nms_trades.specs.declared.tally.Tally.{Tally}

-- whether it is judged
abbrev pub is_here : Said → Bool
is_here said.Unknown = false
is_here (said.Refused fault) = false
is_here said.Elsewhere = false
is_here (said.Here line) = true

-- what two say together: one that judges it decides, then one that leaves it to another, then one that refuses it, then one that does
-- not have its symbol. Two may not judge it
abbrev pub both : Said → Said → Option Said
both said.Unknown more = Some more
both (said.Refused fault) said.Unknown = Some (said.Refused fault)
both (said.Refused fault) (said.Refused other) = Some (said.Refused other)
both (said.Refused fault) said.Elsewhere = Some said.Elsewhere
both (said.Refused fault) (said.Here line) = Some (said.Here line)
both said.Elsewhere said.Unknown = Some said.Elsewhere
both said.Elsewhere (said.Refused fault) = Some said.Elsewhere
both said.Elsewhere said.Elsewhere = Some said.Elsewhere
both said.Elsewhere (said.Here line) = Some (said.Here line)
both (said.Here line) said.Unknown = Some (said.Here line)
both (said.Here line) (said.Refused fault) = Some (said.Here line)
both (said.Here line) said.Elsewhere = Some (said.Here line)
both (said.Here line) (said.Here other) = None

-- what some shards say together with those before them; nothing if two judge it
unfoldable pub together : Option Said → List Said → Option Said
together None shards = None
together (Some own) [] = Some own
together (Some own) (more ∷ shards) = together (both own more) shards

-- what all shards of a day say together. Before the first one, none has its symbol
abbrev pub of_day : List Said → Option Said
of_day shards = together (Some said.Unknown) shards

-- one if it is judged, else none
abbrev pub once : Said → ℕ
once said = cond (is_here said) 1 0

-- how many of them are judged: of what all shards say about one record, how many judge it; of what is said about all records, how many
-- records are judged
abbrev pub judged_among : List Said → ℕ
judged_among all = count_by is_here all

-- whether it is refused: no shard has its symbol, or one that has it refuses it
abbrev pub is_refused : Said → Bool
is_refused said.Unknown = true
is_refused (said.Refused fault) = true
is_refused said.Elsewhere = false
is_refused (said.Here line) = false

-- how the answer to all records ends, by how many of them are refused
abbrev pub end_by : ℕ → Ending
end_by refused = if refused == 0 then ending.Done else ending.Refused

abbrev pub end_of : List Said → Ending
end_of all = end_by (count_by is_refused all)

-- whether a shard was asked: then the table names its participants
abbrev pub is_begun : Day → Bool
is_begun day = not (length day.tally.names.parts.items == 0)

-- the counts of all executions of a table are those of an earlier one and of more findings together
pub record AreSums (old : Tally) (found : List (Option Finding)) (new : Tally) : Type 0 where
  pub executions : new.all.executions ≡ old.all.executions + length (filter (stands is_judged) found)
  pub unquoted : new.all.unquoted ≡ old.all.unquoted + length (filter (stands is_noquote) found)
  pub perhaps : new.all.perhaps.executions ≡ old.all.perhaps.executions + length (filter (stands is_perhaps) found)
  pub through : new.all.through.executions ≡ old.all.through.executions + length (filter (stands is_through) found)

-- a day with one shard more: the file's executions are judged on the shard's tape, and each one that the shard judges makes one judged
-- record more, and is once more in the counts
pub record HasShard (roster : Listing) (tape : Tape) (bytes : Option (List ℕ)) (old new : Day) : Type 0 where
  pub executions : List Execution
  pub refused : List Refusal
  pub found : List (Option Finding)
  pub judged : AreJudged roster tape bytes executions refused found
  pub records : judged_among new.said.items ≡ judged_among old.said.items + length (filter (stands is_judged) found)
  pub sums : AreSums old.tally found new.tally

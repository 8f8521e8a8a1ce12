-- The tape of a script: the changes that its machine takes, in order. This product's own rule.
use Rattle.std.specs.Prelude.{ℕ, ◌≡◌, ◌≤◌, List, length, Option}
use Rattle.std.specs.Io.KnownBytes.{Appends}
use Rattle.nms_quote.specs.Tape.{Tape}
use Rattle.nms_fees.specs.Settings.{Settings}
use Rattle.nms_lines.specs.Layout.{Record}
use Rattle.nms_lines.specs.Records.{AreAllRecords}
use Rattle.nms_flow.specs.Run.{Event, standing_after, tape_at}
use Rattle.nms_scripts.specs.Script.{IsScriptAnswer}
use Rattle.nms_scripts.specs.declared.TheConstants.{MOST_RECORDS}
use Rattle.nms_change_text.specs.ChangeText.{changes_text}

-- all records of a text are answered as a script is, and these changes are the tape to which the answered steps lead
pub record IsTapeOf (settings : Settings) (bytes : Option (List ℕ)) (tape : Tape) : Type 0 where
  pub records : List Record
  pub events : List Event
  pub told : List Record
  pub all : AreAllRecords bytes records
  pub few : length records ≤ MOST_RECORDS
  pub answer : IsScriptAnswer settings records events told
  pub taken : tape ≡ tape_at (standing_after events)

-- what was written is the text of that tape
abbrev pub WritesTape : Settings → (bytes old new : Option (List ℕ)) → Type 0
WritesTape settings bytes old new = (tape : Tape) × IsTapeOf settings bytes tape × Appends old new (changes_text settings.roster tape)

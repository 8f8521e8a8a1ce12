-- What it means that an epoch is one script: the sequential machine gives each client the answers that it got. This product's
-- own rule.
use Rattle.std.specs.Prelude.{ℕ, ◌≡◌, ◌+◌, ◌==◌, List, [], ◌∷◌, ◌++◌, flat_map, map, slice_get, Option, Some, None, if◌then◌else◌}
use Rattle.std.specs.List.{filter_map}
use Rattle.nms_quote.specs.Merge.{changes_of}
use Rattle.nms_quote.specs.declared.feed.Feed.{Feed}
use Rattle.nms_lines.specs.Layout.{Record, field}
use Rattle.nms_fees.specs.Settings.{Settings}
use Rattle.nms_flow.specs.Laws.{fed_by}
use Rattle.nms_flow.specs.Run.{Event, standing_after, tape_at, version_published}
use Rattle.nms_text.specs.Answers.{refusal}
use Rattle.nms_scripts.specs.Script.{AnswersRecord, IsScriptAnswer, is_refusal}
use Rattle.nms_answers.specs.ServedEpoch.{Client, Epoch}
use Rattle.nms_answers.specs.Merged.{Line, Owner, as_request, script_of}

-- a line, and the script's answer to it
pub record Said : Type 0 where
  pub line : Line
  pub told : List Record

-- the lines in order, numbered from the given number on: each is answered as a script's record
unfoldable pub AreSaid : Settings → ℕ → List Said → List Event → Type 0
AreSaid settings number [] events = events ≡ []
AreSaid settings number (said ∷ more) events =
    (first rest : List Event) × (events ≡ first ++ rest) × AnswersRecord settings number said.line.fields first said.told
    × AreSaid settings (number + 1) more rest

-- a refusal names the number of its record: the same one under another number
abbrev pub renumbered : ℕ → Record → Record
renumbered number fields = if is_refusal fields then refusal number (field fields 2) else fields

-- what is the client's, made of the number of its request
abbrev pub if_of : {X : Type 0} → ℕ → Option Owner → (ℕ → List X) → List X
if_of client None make = []
if_of client (Some owner) make = if owner.client == client then make owner.number else []

-- the client's requests in the script, in order
abbrev pub requests_of : ℕ → List Line → List Record
requests_of client lines = flat_map (λ line. if_of client line.owner (λ number. line.fields ∷ [])) lines

-- the answers to them, in order, as the client gets them
abbrev pub told_to : ℕ → List Said → List Record
told_to client said = flat_map (λ it. if_of client it.line.owner (λ number. map (renumbered number) it.told)) said

-- the machine of scripts, given the one script, gives each client the answers that the client got
pub record IsOneScript (settings : Settings) (epoch : Epoch) : Type 0 where
  pub said : List Said
  pub events : List Event
  -- all lines were answered, one by one: it is the answer to the script
  pub script : map (λ it. it.line) said ≡ script_of settings.roster epoch
  pub each : AreSaid settings 1 said events
  pub answer : IsScriptAnswer settings (map (λ line. line.fields) (script_of settings.roster epoch)) events
      (flat_map (λ it. it.told) said)
  -- it sends what the feeds said, takes the same tape, and publishes the same lengths
  pub feeds : (feed : Feed) → fed_by feed events ≡ changes_of settings.roster feed epoch.tape
  pub tape : tape_at (standing_after events) ≡ epoch.tape
  pub published : filter_map (λ event. version_published event.1) events ≡ epoch.lengths
  -- it has each client's requests in the client's order, and its answers to them are all that the client got
  pub asked : (place : ℕ) (client : Client) → slice_get epoch.clients place ≡ Some client
      → requests_of place (script_of settings.roster epoch) ≡ map (λ asked. as_request asked.fields) client.asked
  pub told : (place : ℕ) (client : Client) → slice_get epoch.clients place ≡ Some client → told_to place said ≡ client.told

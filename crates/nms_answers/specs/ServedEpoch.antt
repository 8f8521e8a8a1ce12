-- An epoch of a served run: its tape, when it was published, and what its clients asked and got. This product's own rule.
use Rattle.std.specs.Prelude.{ℕ, ⊤, ◌≡◌, ◌<◌, ◌≤◌, All, Contains, IfSome, List, [], ◌∷◌, length, map, Option, Some, None}
use Rattle.std.specs.List.{AllByRecursion}
use Rattle.nms_quote.specs.Tape.{Tape, version}
use Rattle.nms_lines.specs.Layout.{Record}
use Rattle.nms_change_text.specs.ReadBack.{FitsRecord}
use Rattle.nms_fees.specs.Settings.{Settings}
use Rattle.nms_answers.specs.Streams.{AnswersFrom}

-- a request, and the version that its answer is on; a refusal is on none
pub record Asked : Type 0 where
  pub fields : Record
  pub look : Option Tape

-- a client in an epoch: the number of its first request there, its requests in order, and all answers to them
pub record Client : Type 0 where
  pub first : ℕ
  pub asked : List Asked
  pub told : List Record

-- an epoch: its tape, the tape's length at each publishing, and its clients
pub record Epoch : Type 0 where
  pub tape : Tape
  pub lengths : List ℕ
  pub clients : List Client

-- the lengths rise from the first number to the last one, which is the complete length
abbrev pub RiseTo : ℕ → ℕ → List ℕ → Type 0
RiseTo low whole [] = low ≡ whole
RiseTo low whole (length ∷ lengths) = (low < length) × RiseTo length whole lengths

-- a version was published, or is the empty one
abbrev pub WasPublished : Epoch → Tape → Type 0
WasPublished epoch seen = (n : ℕ) × Contains (0 ∷ epoch.lengths) n × (seen ≡ version n epoch.tape)

-- the length of the version that a client knows after a request: a refusal shows none
abbrev pub known_after : ℕ → Option Tape → ℕ
known_after known None = known
known_after known (Some version) = length version

-- the versions of a client's answers never fall
abbrev pub NeverFall : ℕ → List Asked → Type 0
NeverFall known [] = ⊤
NeverFall known (asked ∷ more) = (known ≤ known_after known asked.look) × NeverFall (known_after known asked.look) more

-- what is known of a client: its requests were answered in order, each on a published version, which never fell
pub record IsClient (settings : Settings) (epoch : Epoch) (client : Client) : Type 0 where
  pub answered : AnswersFrom settings client.first (map (λ asked. asked.fields) client.asked) (map (λ asked. asked.look) client.asked)
      client.told
  pub published : AllByRecursion (λ asked. IfSome asked.look (WasPublished epoch)) client.asked
  pub rising : NeverFall 0 client.asked

-- what is known of an epoch: its changes are the roster's, they are within the setup's limit, and all of the tape was published
pub record IsServed (settings : Settings) (epoch : Epoch) : Type 0 where
  pub fits : All (FitsRecord settings.roster) epoch.tape
  pub limit : length epoch.tape ≤ settings.tape_limit
  pub published : RiseTo 0 (length epoch.tape) epoch.lengths
  pub clients : AllByRecursion (IsClient settings epoch) epoch.clients

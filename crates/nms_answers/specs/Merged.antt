-- The one script of an epoch: the tape's changes, the publishings, and all clients' requests. This product's own rule.
use Rattle.std.specs.Prelude.{ℕ, ◌+◌, ◌==◌, List, [], ◌∷◌, ◌++◌, codes, drop, filter, flat_map, map, take, Option, Some, None}
use Rattle.std.specs.Prelude.{if◌then◌else◌}
use Rattle.nms_quote.specs.Roster.{Listing}
use Rattle.nms_quote.specs.Tape.{Tape}
use Rattle.nms_quote.specs.declared.change.Change.{Change}
use Rattle.nms_lines.specs.Layout.{Record, field, kind_named}
use Rattle.nms_change_text.specs.ChangeText.{change_record}
use Rattle.nms_answers.specs.Requests.{is_asked}
use Rattle.nms_answers.specs.ServedEpoch.{Asked, Client, Epoch, known_after}

-- whose request a line is: the client's place, from 0, and the request's number in that client's stream
pub record Owner : Type 0 where
  pub client : ℕ
  pub number : ℕ

-- a line of the script: a client's request, or the board's own record
pub record Line : Type 0 where
  pub owner : Option Owner
  pub fields : Record

-- a request as it is in the script. No client may send a record of a kind that asks for no look: `?` replaces it
abbrev pub as_request : Record → Record
as_request fields = if is_asked (kind_named (field fields 0)) then fields else codes "?" ∷ []

-- a request, and the length of the version after which it comes
pub record Placed : Type 0 where
  pub version : ℕ
  pub line : Line

-- a client's requests, from the given number on: each after the version of its answer, a refused one with the one before it
abbrev pub placed_from : ℕ → ℕ → ℕ → List Asked → List Placed
placed_from client number known [] = []
placed_from client number known (asked ∷ more) =
    record {
      version = known_after known asked.look;
      line = record { owner = Some (record { client = client; number = number }); fields = as_request asked.fields };
    }
    ∷ placed_from client (number + 1) (known_after known asked.look) more

-- those of all clients, client by client
abbrev pub placed_of : ℕ → List Client → List Placed
placed_of place [] = []
placed_of place (client ∷ clients) = placed_from place client.first 0 client.asked ++ placed_of (place + 1) clients

-- those that come after the version of that length, client by client
abbrev pub asked_on : ℕ → List Placed → List Line
asked_on length placed = map (λ it. it.line) (filter (λ it. it.version == length) placed)

-- a record of the board's own
abbrev pub own : Record → Line
own fields = record { owner = None; fields = fields }

-- changes in order, each taken (`T`) as it is sent: so no batch is too long for the queue
abbrev pub change_lines : Listing → List Change → List Line
change_lines roster changes = flat_map (λ change. own (change_record roster change) ∷ own (codes "T" ∷ []) ∷ []) changes

-- for each publishing the changes since the one before, a `P`, and the requests on that version
abbrev pub lines_after : Listing → Tape → List Placed → ℕ → List ℕ → List Line
lines_after roster tape placed published [] = []
lines_after roster tape placed published (length ∷ lengths) =
    change_lines roster (drop published (take length tape))
    ++ (own (codes "P" ∷ []) ∷ (asked_on length placed ++ lines_after roster tape placed length lengths))

-- the script: the requests on the empty version come first
abbrev pub script_of : Listing → Epoch → List Line
script_of roster epoch = asked_on 0 (placed_of 0 epoch.clients)
    ++ lines_after roster epoch.tape (placed_of 0 epoch.clients) 0 epoch.lengths

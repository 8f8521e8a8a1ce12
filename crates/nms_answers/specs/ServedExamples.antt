-- Worked examples: two participants on two feeds, one symbol, a tape of two changes that was published twice, and two clients. The
-- right-hand side gives by hand what the script is.
use Rattle.std.specs.Prelude.{ℕ, ◌≡◌, List, [], ◌∷◌, codes, Some, None}
use Rattle.nms_quote.specs.Roster.{Listing}
use Rattle.nms_quote.specs.Tape.{Tape, version}
use Rattle.nms_quote.specs.declared.feed.Feed.TheVariants as feed
use Rattle.nms_quote.specs.declared.side_quote.QState.TheVariants.{Halted}
use Rattle.nms_quote.specs.declared.change.Change.TheVariants as change
use Rattle.nms_lines.specs.Layout.{Record}
use Rattle.nms_text.specs.Answers.{refusal}
use Rattle.nms_answers.specs.Epochs.{epoch_record}
use Rattle.nms_answers.specs.ServedEpoch.{Asked, Client, Epoch}
use Rattle.nms_answers.specs.Merged.{Line, as_request, own, script_of}
use Rattle.nms_answers.specs.OneScript.{Said, requests_of, told_to}
use Rattle.nms_answers.specs.Stretches.{Stretch, shown_in}

abbrev pub roster : Listing
roster = record { parts = (codes "N", feed.A) ∷ (codes "P", feed.B) ∷ []; syms = (codes "ABC", 100) ∷ [] }

-- N halts the symbol, and P withdraws
abbrev pub tape : Tape
tape = change.State 0 0 Halted ∷ change.Withdraw 1 ∷ []

-- N,desk,symbol
abbrev pub best : List ℕ → List ℕ → Record
best desk symbol = codes "N" ∷ desk ∷ symbol ∷ []

-- the answers do not matter to the script
abbrev pub client_of : List Asked → Client
client_of asked = record { first = 1; asked = asked; told = [] }

-- the first client looks before the first publishing, and after the second one
abbrev pub early : Client
early = client_of (record { fields = best (codes "0") (codes "ABC"); look = Some [] }
    ∷ record { fields = best (codes "0") (codes "ABC"); look = Some tape } ∷ [])

-- the second is refused a record that no client may send, and a look at no symbol; then it looks after the first publishing
abbrev pub late : Client
late = client_of (record { fields = codes "F" ∷ []; look = None } ∷ record { fields = best (codes "1") (codes "XYZ"); look = None }
    ∷ record { fields = best (codes "1") (codes "ABC"); look = Some (version 1 tape) } ∷ [])

abbrev pub epoch : Epoch
epoch = record { tape = tape; lengths = 1 ∷ 2 ∷ []; clients = early ∷ late ∷ [] }

-- a line of a client's
abbrev pub of : ℕ → ℕ → Record → Line
of client number fields = record { owner = Some (record { client = client; number = number }); fields = fields }

-- the halt as the script has it
abbrev pub halt : Record
halt = codes "S" ∷ codes "N" ∷ codes "ABC" ∷ codes "H" ∷ []

-- the script refuses its third record, and answers its seventh
abbrev pub some_said : List Said
some_said = record { line = of 1 2 (best (codes "1") (codes "XYZ")); told = refusal 3 (codes "L3") ∷ [] }
    ∷ record { line = own halt; told = [] }
    ∷ record { line = of 0 2 (best (codes "0") (codes "ABC")); told = (codes "BEST" ∷ []) ∷ [] } ∷ []

-- what a client got in an epoch: one record
abbrev pub stretch : ℕ → Record → Stretch
stretch number told = record { epoch = number; client = record { first = 1; asked = []; told = told ∷ [] } }

pub record ExamplesHold : Type 0 where
  pub the_script : script_of roster epoch
      ≡ of 0 1 (best (codes "0") (codes "ABC")) ∷ of 1 1 (codes "?" ∷ []) ∷ of 1 2 (best (codes "1") (codes "XYZ"))
      ∷ own halt ∷ own (codes "T" ∷ []) ∷ own (codes "P" ∷ []) ∷ of 1 3 (best (codes "1") (codes "ABC"))
      ∷ own (codes "X" ∷ codes "P" ∷ []) ∷ own (codes "T" ∷ []) ∷ own (codes "P" ∷ [])
      ∷ of 0 2 (best (codes "0") (codes "ABC")) ∷ []
  pub no_request : as_request (codes "F" ∷ []) ≡ codes "?" ∷ []
  pub in_its_own_order : requests_of 1 (script_of roster epoch)
      ≡ (codes "?" ∷ []) ∷ best (codes "1") (codes "XYZ") ∷ best (codes "1") (codes "ABC") ∷ []
  pub a_refusal_has_its_own_number : told_to 1 some_said ≡ refusal 2 (codes "L3") ∷ []
  pub an_answer_is_as_it_is : told_to 0 some_said ≡ (codes "BEST" ∷ []) ∷ []
  pub a_later_epoch_has_its_line : shown_in 0 (stretch 0 (codes "BEST" ∷ []) ∷ stretch 2 (codes "THRU" ∷ []) ∷ [])
      ≡ (codes "BEST" ∷ []) ∷ epoch_record 2 ∷ (codes "THRU" ∷ []) ∷ []

-- Worked examples of the lines of a text: a board of one participant N and one symbol ABC. The right-hand sides are worked out by
-- hand.
use Rattle.std.specs.Prelude.{ℕ, ◌≡◌, ◌++◌, ◌∷◌, [], codes, List, Some, None}
use Rattle.nms_quote.specs.Roster.{sizes_of}
use Rattle.nms_quote.specs.declared.feed.Feed.TheVariants as feed
use Rattle.nms_board.specs.Cells.{opening}
use Rattle.nms_fee_book.specs.Fees.{no_fees}
use Rattle.nms_fee_book.specs.declared.caps.Caps.TheVariants as caps
use Rattle.nms_fees.specs.Settings.{Settings}
use Rattle.nms_lines.specs.declared.line_fault.LineFault.{LineFault}
use Rattle.nms_lines.specs.declared.line_fault.LineFault.TheVariants as refused
use Rattle.nms_calls.specs.Opened.{Opened, Progress}
use Rattle.nms_calls.specs.TextLines.{all_records, line_start, records_in}
use Rattle.nms_calls.specs.declared.call_fault.CallFault.TheVariants as fault

-- one participant, one symbol, no fees
abbrev pub settings : Settings
settings = record {
  roster = record { parts = (codes "N", feed.A) ∷ []; syms = (codes "ABC", 100) ∷ [] };
  fees = record { caps = caps.Of2005; schedules = no_fees ∷ [] };
  tape_limit = 9;
  queue = 9;
  desks = 1;
  feeds = 1;
}

-- a board with nothing on it
abbrev pub empty : Opened
empty = record { settings = settings; board = opening (sizes_of settings.roster); before = 0 }

-- N withdraws, and P, who is not on the roster
abbrev pub n : List ℕ
n = codes "X,N"

abbrev pub p : List ℕ
p = codes "X,P"

-- ends of lines: a line feed, and a carriage return with one
abbrev pub line_feed : List ℕ
line_feed = 10 ∷ []

abbrev pub return_line_feed : List ℕ
return_line_feed = 13 ∷ 10 ∷ []

-- three lines, of which the second is refused, and the last has no end
abbrev pub three : List ℕ
three = n ++ return_line_feed ++ p ++ line_feed ++ n

-- how far a call comes
abbrev pub far : ℕ → Progress
far applied = record { applied = applied; fault = None }

-- how far it comes if the next record is refused
abbrev pub until : ℕ → LineFault → Progress
until applied found = record { applied = applied; fault = Some (fault.Line found) }

pub record ExamplesHold : Type 0 where
  pub the_lines : records_in three ≡ n ∷ p ∷ n ∷ []
  pub nothing_is_no_line : records_in [] ≡ []
  pub nothing_behind_the_last_end_is_none : records_in (n ++ line_feed) ≡ n ∷ []
  pub an_end_alone_ends_an_empty_line : records_in (line_feed ++ n) ≡ [] ∷ n ∷ []
  pub a_return_alone_ends_no_line : records_in (n ++ 13 ∷ []) ≡ (n ++ 13 ∷ []) ∷ []
  pub the_first_begins : line_start three 0 ≡ 0
  pub the_second_begins : line_start three 1 ≡ 5
  pub the_third_begins : line_start three 2 ≡ 9
  pub the_text_ends : line_start three 3 ≡ 12
  pub the_second_is_refused : all_records empty (records_in three) ≡ until 1 refused.UnknownParticipant
  pub an_empty_line_is_refused : all_records empty (records_in (line_feed ++ n)) ≡ until 0 refused.UnknownKind
  pub both_are_applied : all_records empty (records_in (n ++ line_feed ++ n)) ≡ far 2

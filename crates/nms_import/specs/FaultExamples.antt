-- Worked examples of the faults of mappings. The right-hand sides are worked out by hand.
use Rattle.std.specs.Prelude.{◌≡◌, ℕ, pos, codes, List, [], ◌∷◌, Some, None}
use Rattle.toml.specs.Data.{Data, Members, array, integer, item, member, no_items, no_members, string, table}
use Rattle.nms_import.specs.declared.keys.Kind.TheVariants as kind
use Rattle.nms_import.specs.declared.keys.TheConstants.{ASKED, A_NUMBER, IN_NO_OTHER, IN_ONE_LIST}
use Rattle.nms_import.specs.declared.map_fault.Wrong.TheVariants as wrong
use Rattle.nms_import.specs.Drafts.{Doc, Name, plain}
use Rattle.nms_import.specs.Findings.{fault, faults_of}
use Rattle.nms_import.specs.Keys.{all_keys}
use Rattle.nms_import.specs.Readings.{kind_said}

-- [file] kind = "trades", and five columns, of which that of the price has this name; and more tables
abbrev pub trades : (price : List ℕ) → (more : Members) → Members
trades price more =
    member (codes "file") (table (member (codes "kind") (string (codes "trades")) no_members))
    (member (codes "column") (table (member (codes "time") (integer (pos 1)) (member (codes "participant") (integer (pos 2))
    (member (codes "symbol") (integer (pos 3)) (member price (integer (pos 4)) (member (codes "shares") (integer (pos 5)) no_members))))))
    more)

-- [flags] sweep = ["F"], nothing = ["@", "F"]
abbrev pub flags : Members
flags =
    member (codes "flags") (table (member (codes "nothing") (array (item (string (codes "@")) (item (string (codes "F")) no_items)))
    (member (codes "sweep") (array (item (string (codes "F")) no_items)) no_members))) no_members

-- a mapping of quotes by numbers of columns, whose offer has this name; and more columns
abbrev pub quotes : (offer : List ℕ) → (more : Members) → Members
quotes offer more =
    member (codes "column") (table (member (codes "time") (integer (pos 1)) (member (codes "participant") (integer (pos 2))
    (member (codes "symbol") (integer (pos 3)) (member (codes "bid") (integer (pos 4)) (member (codes "bid_size") (integer (pos 5))
    (member offer (integer (pos 6)) (member (codes "ask_size") (integer (pos 7)) more))))))))
    (member (codes "size") (table (member (codes "unit") (string (codes "shares")) no_members)) no_members)

-- the words for a side
abbrev pub words : (word : List ℕ) → Data
words word = array (item (string word) no_items)

-- a mapping of rows of one side by numbers of columns, with this word for an offer; and more columns
abbrev pub sides : (offer : List ℕ) → (more : Members) → Members
sides offer more =
    member (codes "file") (table (member (codes "kind") (string (codes "sides")) no_members))
    (member (codes "column") (table (member (codes "time") (integer (pos 1)) (member (codes "participant") (integer (pos 2))
    (member (codes "symbol") (integer (pos 3)) (member (codes "side") (integer (pos 4)) (member (codes "price") (integer (pos 5))
    (member (codes "size") (integer (pos 6)) more)))))))
    (member (codes "side") (table (member (codes "bid") (words (codes "B")) (member (codes "offer") (words offer) no_members)))
    (member (codes "size") (table (member (codes "unit") (string (codes "shares")) no_members)) no_members)))

-- a document in which prize is taken for price
abbrev pub renamed : Doc
renamed = record {
  keys = all_keys;
  kind = kind.Trades;
  members = trades (codes "prize") no_members;
  meant = record { table = codes "column"; key = codes "price"; written = codes "prize" } ∷ [];
}

-- what the definitions say of them
pub record FaultExamplesHold : Type 0 where
  pub a_mapping_without_fault : faults_of (plain kind.Trades (trades (codes "price") no_members)) ≡ []
  pub a_misspelt_key : faults_of (plain kind.Trades (trades (codes "prize") no_members))
      ≡ fault (codes "column") (codes "prize") None wrong.Unknown [] ∷ fault (codes "column") (codes "price") None wrong.Missing A_NUMBER.now ∷ []
  pub the_key_that_was_meant : faults_of renamed ≡ fault (codes "column") (codes "prize") None wrong.Unknown [] ∷ []
  pub ask_is_offer : faults_of (plain kind.Quotes (quotes (codes "ask") no_members)) ≡ []
  pub ask_and_offer : faults_of (plain kind.Quotes (quotes (codes "ask") (member (codes "offer") (integer (pos 8)) no_members)))
      ≡ fault (codes "column") (codes "ask") None wrong.BadValue ASKED.now ∷ []
  pub a_letter_in_two_lists : faults_of (plain kind.Trades (trades (codes "price") flags))
      ≡ fault (codes "flags") (codes "nothing") (Some 1) wrong.BadValue IN_NO_OTHER.now ∷ []
  pub sides_are_said : kind_said (sides (codes "A") no_members) ≡ kind.Sides
  pub rows_of_one_side : faults_of (plain kind.Sides (sides (codes "A") no_members)) ≡ []
  pub a_column_of_both_sides : faults_of (plain kind.Sides (sides (codes "A") (member (codes "bid") (integer (pos 7)) no_members)))
      ≡ fault (codes "column") (codes "bid") None wrong.Unknown [] ∷ []
  pub a_word_for_both_sides : faults_of (plain kind.Sides (sides (codes "B") no_members))
      ≡ fault (codes "side") (codes "offer") (Some 0) wrong.BadValue IN_ONE_LIST.now ∷ []

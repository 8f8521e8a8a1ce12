-- What the text of a setup reads as. This product's own rule.
use Rattle.std.specs.Prelude.{◌≡◌, ◌⊎◌, codes, ℕ, ℤ, pos, List, [], map, Result, Ok, Err, option_and_then, unwrap_or, unsigned_abs}
use Rattle.std.specs.Option.{option_map_or}
use Rattle.std.specs.Str.{IsUtf8}
use Rattle.toml.specs.Data.{Data, Members, no_members, get_member, as_str, as_integer, as_table}
use Rattle.toml.specs.Parse.{parse_document}
use Rattle.nms_quote.specs.Roster.{Name}
use Rattle.nms_quote.specs.declared.feed.Feed.{Feed}
use Rattle.nms_quote.specs.declared.feed.Feed.TheVariants as feed
use Rattle.nms_fees.specs.Settings.{Settings}
use Rattle.nms_fees.specs.Places.{caps_in, feed_named, feeds_in, rows_in, document_fault}
use Rattle.nms_fee_book.specs.declared.fee_schedule.FeeSchedule.{FeeSchedule}
use Rattle.nms_fees.specs.declared.setup_fault.SetupFault.{SetupFault}
use Rattle.nms_fees.specs.declared.setup_fault.SetupFault.TheVariants as fault

-- the text at a key
abbrev pub text_at : Name → Members → Name
text_at key table = unwrap_or (option_and_then as_str (get_member key table)) []

-- the number at a key
abbrev pub number_at : Name → Members → ℤ
number_at key table = unwrap_or (option_and_then as_integer (get_member key table)) (pos 0)

-- the size of the number at a key
abbrev pub count_at : Name → Members → ℕ
count_at key table = unsigned_abs (number_at key table)

-- the elements of the array at a key
abbrev pub rows_at : Name → Members → List Data
rows_at key document = unwrap_or (option_and_then rows_in (get_member key document)) []

abbrev pub table_of : Data → Members
table_of row = unwrap_or (as_table row) no_members

-- the feed that a text names, the first if it names none
abbrev pub feed_of_text : Name → Feed
feed_of_text text = unwrap_or (feed_named text) feed.A

-- a participant with its feed, and its fees
abbrev pub participant_of : Data → Name × Feed
participant_of row = (text_at (codes "name") (table_of row), feed_of_text (text_at (codes "feed") (table_of row)))

abbrev pub schedule_of : Data → FeeSchedule
schedule_of row = record { fee = number_at (codes "fee") (table_of row); rate = number_at (codes "rate") (table_of row) }

-- a symbol with its round lot
abbrev pub symbol_of : Data → Name × ℕ
symbol_of row = (text_at (codes "name") (table_of row), count_at (codes "lot") (table_of row))

-- what a document without a fault says
abbrev pub settings_of : Members → Settings
settings_of document = record {
  roster = record {
    parts = map participant_of (rows_at (codes "participant") document);
    syms =
        map symbol_of (rows_at (codes "symbol") document);
  };
  fees = record { caps = caps_in document; schedules = map schedule_of (rows_at (codes "participant") document) };
  tape_limit = count_at (codes "tape_limit") document;
  queue = count_at (codes "queue") document;
  desks = count_at (codes "desks") document;
  feeds = feeds_in document;
}

-- a document's fault of least number, or what it says
abbrev pub document_reading : Members → Result Settings SetupFault
document_reading document = option_map_or (λ found. Err found) (document_fault document) (Ok (settings_of document))

-- the setup that a text is, or why it is refused
abbrev pub reading : Name → Result Settings SetupFault
reading text = option_map_or document_reading (parse_document text) (Err fault.NotToml)

-- the bytes of a file are a text that says a setup
abbrev pub IsSetupOf : List ℕ → Settings → Type 0
IsSetupOf bytes settings = IsUtf8 bytes × (reading bytes ≡ Ok settings)

-- why the bytes of a file are no setup: the fault of the text that they are; bytes that are not UTF-8 are no TOML document
abbrev pub IsRefused : List ℕ → SetupFault → Type 0
IsRefused bytes why = (IsUtf8 bytes × (reading bytes ≡ Err why)) ⊎ ((why ≡ fault.NotToml) × (¬ (IsUtf8 bytes)))

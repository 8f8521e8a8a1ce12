-- What a mapping is for, by what its document says. This product's own rule.
use Rattle.std.specs.Prelude.{ℕ, codes, Bool, true, false, not, ◌&&◌, ◌||◌, List, is_some, if◌then◌else◌}
use Rattle.std.specs.Option.{option_map_or}
use Rattle.std.specs.Str.{bytes_eq}
use Rattle.toml.specs.Data.{Data, Members, as_str}
use Rattle.nms_import.specs.declared.keys.Kind.{Kind}
use Rattle.nms_import.specs.declared.keys.Kind.TheVariants as kind
use Rattle.nms_import.specs.Drafts.{plain, value_at}
use Rattle.nms_import.specs.Readings.{is_of_sides, kind_said}
use Rattle.nms_import_trades.specs.TradeMap.{says_trades}

-- whether a value is not the text `quotes`
abbrev pub is_other : Data → Bool
is_other value = not (option_map_or (λ text. bytes_eq text (codes "quotes")) (as_str value) false)

-- whether a document names a kind that is not that of quotes
abbrev pub has_other_kind : Members → Bool
has_other_kind document = option_map_or is_other (value_at (plain kind.Quotes document) (codes "file") (codes "kind")) false

-- whether a document has a column
abbrev pub has_column : (key : List ℕ) → Members → Bool
has_column key document = is_some (value_at (plain kind.Quotes document) (codes "column") key)

-- sides if it says so; trades if it says so, or has their price and another kind than quotes; national bests if it has one of their columns
abbrev pub kind_of : Members → Kind
kind_of document =
    if is_of_sides (kind_said document) then kind.Sides
    else (if says_trades document || (has_other_kind document && has_column (codes "price") document) then kind.Trades
    else (if has_column (codes "bid_participant") document || has_column (codes "offer_participant") document
    || has_column (codes "ask_participant") document then kind.Bests
    else kind.Quotes))

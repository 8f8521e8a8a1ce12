-- What a mapping of trades takes over of its document. This product's own rule.
use Rattle.std.specs.Prelude.{ℕ, ◌≡◌, ◌&&◌, codes, Bool, true, false, List, [], ◌∷◌, map, Option}
use Rattle.std.specs.Prelude.{option_and_then}
use Rattle.std.specs.List.{list_all, list_any}
use Rattle.std.specs.Option.{option_map_or}
use Rattle.std.specs.Str.{bytes_eq}
use Rattle.toml.specs.Data.{Members, as_str, as_table, get_member}
use Rattle.nms_import.specs.Drafts.{Doc}
use Rattle.nms_import.specs.Findings.{faults_of}
use Rattle.nms_import.specs.Forms.{is_delimiter}
use Rattle.nms_import.specs.Readings.{AreReadOf, is_within}
use Rattle.nms_import_trades.specs.TradeRow.{has_letter, is_claim}
use Rattle.nms_import_trades.specs.declared.claim.Claim.{Claim}
use Rattle.nms_import_trades.specs.declared.claim.Flag.{Flag}
use Rattle.nms_import_trades.specs.declared.claim.Flag.TheVariants as flag
use Rattle.nms_import_trades.specs.declared.trade_map.TradeMapping.{TradeMapping}
use Rattle.nms_import_trades.specs.declared.trade_map.TradeSources.{TradeSources}
use Rattle.nms_import_trades.specs.declared.trade_meanings.TradeMeanings.{TradeMeanings}

-- the text at a key of a table of a document
abbrev pub text_in : (table key : List ℕ) → Members → Option (List ℕ)
text_in table key document =
    option_and_then as_str (option_and_then (get_member key) (option_and_then as_table (get_member table document)))

-- the table file says kind = "trades"
abbrev pub says_trades : Members → Bool
says_trades document =
    option_map_or (λ kind. bytes_eq kind (codes "trades")) (text_in (codes "file") (codes "kind") document) false

-- all flags, in the order of the table flags
abbrev pub all_flags : List Flag
all_flags =
    flag.NotRegular ∷ flag.SinglePriced ∷ flag.Sweep ∷ flag.Swept ∷ flag.Benchmark ∷ flag.Stopped ∷ flag.Contingent ∷ flag.Exempt
    ∷ flag.OutsideHours ∷ flag.OutOfSequence ∷ []

-- each flag has its letters; no letter that claims nothing is one of them, and no letter of rows that are no trades is any of these
pub record AreClaims (claims : List Claim) (nothing no_trade : List ℕ) : Type 0 where
  pub flags : map (λ it. it.flag) claims ≡ all_flags
  pub apart : list_any (is_claim claims) nothing ≡ false
  pub unclaimed : list_any (is_claim claims) no_trade ≡ false
  pub unlisted : list_any (has_letter nothing) no_trade ≡ false

-- a column that has a number is one of the first 1,000
abbrev pub are_within : TradeSources → Bool
are_within sources =
    option_map_or is_within sources.id true
    && list_all is_within (sources.time ∷ sources.participant ∷ sources.symbol ∷ sources.price ∷ sources.shares ∷ sources.side
    ∷ sources.condition ∷ sources.exempt ∷ sources.skip ∷ [])

-- what the texts mean
pub record AreTradesOf (draft : Doc) (meanings : TradeMeanings) : Type 0 where
  pub common : AreReadOf draft meanings.common
  pub claims : AreClaims meanings.claims.items meanings.nothing.items meanings.no_trade.items

-- the mapping of a document that has no fault
pub record IsMappingOf (draft : Doc) (mapping : TradeMapping) : Type 0 where
  pub faultless : faults_of draft ≡ []
  pub delimiter : is_delimiter mapping.file.delimiter ≡ true
  pub within : are_within mapping.sources ≡ true
  pub meanings : AreTradesOf draft mapping.meanings

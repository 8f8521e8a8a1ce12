-- The data of a page: lists of texts, and tables of whole numbers, whose columns and units page/DATA.md says. This product's own
-- rule.
use Rattle.std.specs.Prelude.{ℕ, List, [], ◌∷◌, ◌++◌, codes}
use Rattle.nms_drawing.specs.Spelling.{table_text}
use Rattle.nms_drawing.specs.Texts.{texts_member}

-- what the page was made of, its symbols, participants, causes and ids of executions, and all other texts
pub record Lists : Type 0 where
  pub about : List (List ℕ)
  pub symbols : List (List ℕ)
  pub names : List (List ℕ)
  pub causes : List (List ℕ)
  pub ids : List (List ℕ)
  pub words : List (List ℕ)

-- the rows of each table
pub record Tables : Type 0 where
  pub days : List (List ℕ)
  pub lines : List (List ℕ)
  pub board : List (List ℕ)
  pub lots : List (List ℕ)
  pub executions : List (List ℕ)
  pub rows : List (List ℕ)
  pub aside : List (List ℕ)
  pub plans : List (List ℕ)
  pub legs : List (List ℕ)
  pub quotations : List (List ℕ)
  pub said : List (List ℕ)

unfoldable pub lists_text : Lists → List ℕ
lists_text lists =
    texts_member (codes "about") lists.about ++ texts_member (codes "symbols") lists.symbols ++ texts_member (codes "names") lists.names
    ++ texts_member (codes "causes") lists.causes ++ texts_member (codes "ids") lists.ids ++ texts_member (codes "words") lists.words

-- the names of the columns
abbrev pub day_columns : List (List ℕ)
day_columns = codes "first" ∷ codes "last" ∷ codes "timed" ∷ []

abbrev pub line_columns : List (List ℕ)
line_columns =
    codes "day" ∷ codes "version" ∷ codes "time" ∷ codes "bid_by" ∷ codes "bid" ∷ codes "bid_shares" ∷ codes "offer_by" ∷ codes "offer"
    ∷ codes "offer_shares" ∷ []

abbrev pub board_columns : List (List ℕ)
board_columns =
    codes "day" ∷ codes "version" ∷ codes "time" ∷ codes "by" ∷ codes "bid" ∷ codes "bid_shares" ∷ codes "bid_age" ∷ codes "offer"
    ∷ codes "offer_shares" ∷ codes "offer_age" ∷ codes "manual" ∷ []

abbrev pub lot_columns : List (List ℕ)
lot_columns = codes "day" ∷ codes "version" ∷ codes "time" ∷ codes "lot" ∷ []

abbrev pub execution_columns : List (List ℕ)
execution_columns =
    codes "day" ∷ codes "time" ∷ codes "version" ∷ codes "kind" ∷ codes "price" ∷ codes "shares" ∷ codes "side" ∷ codes "by"
    ∷ codes "record" ∷ codes "count" ∷ codes "worst" ∷ codes "through" ∷ codes "cause" ∷ []

abbrev pub row_columns : List (List ℕ)
row_columns =
    codes "execution" ∷ codes "offer" ∷ codes "by" ∷ codes "price" ∷ codes "shares" ∷ codes "age" ∷ codes "worse" ∷ codes "own"
    ∷ codes "flicker" ∷ []

abbrev pub aside_columns : List (List ℕ)
aside_columns = codes "refused" ∷ codes "other" ∷ []

abbrev pub plan_columns : List (List ℕ)
plan_columns =
    codes "day" ∷ codes "version" ∷ codes "time" ∷ codes "side" ∷ codes "shares" ∷ codes "limit" ∷ codes "filled" ∷ codes "name"
    ∷ codes "verdict" ∷ []

abbrev pub leg_columns : List (List ℕ)
leg_columns = codes "plan" ∷ codes "by" ∷ codes "price" ∷ codes "shares" ∷ []

abbrev pub quotation_columns : List (List ℕ)
quotation_columns =
    codes "plan" ∷ codes "by" ∷ codes "price" ∷ codes "shares" ∷ codes "manual" ∷ codes "sent" ∷ codes "over" ∷ codes "note" ∷ []

abbrev pub said_columns : List (List ℕ)
said_columns = codes "plan" ∷ codes "part" ∷ codes "text" ∷ []

unfoldable pub day_tables_text : Tables → List ℕ
day_tables_text tables =
    table_text (codes "days") day_columns tables.days ++ table_text (codes "lines") line_columns tables.lines
    ++ table_text (codes "board") board_columns tables.board ++ table_text (codes "lots") lot_columns tables.lots

unfoldable pub trade_tables_text : Tables → List ℕ
trade_tables_text tables =
    table_text (codes "executions") execution_columns tables.executions ++ table_text (codes "rows") row_columns tables.rows
    ++ table_text (codes "aside") aside_columns tables.aside

unfoldable pub plan_tables_text : Tables → List ℕ
plan_tables_text tables =
    table_text (codes "plans") plan_columns tables.plans ++ table_text (codes "legs") leg_columns tables.legs
    ++ table_text (codes "quotations") quotation_columns tables.quotations ++ table_text (codes "said") said_columns tables.said

-- all of the data as JSON
abbrev pub json_text : Lists → Tables → List ℕ
json_text lists tables =
    codes "{\"format\":1" ++ lists_text lists ++ day_tables_text tables ++ trade_tables_text tables ++ plan_tables_text tables ++ codes "}"

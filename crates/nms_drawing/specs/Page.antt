-- A page of a day: the text of each page, with a plain report and the data in it. The data is that of the changes, of the
-- executions with what is found about them, and of the plan. This product's own rule.
use Rattle.std.specs.Prelude.{ℕ, ◌≡◌, ◌==◌, ◌++◌, Bool, List, [], ◌∷◌, filter, length, map, replicate, Vec, vec_items, Option, if◌then◌else◌}
use Rattle.std.specs.List.{flat_map, range_with_len, slice_index_or}
use Rattle.std.specs.Io.KnownBytes.{Appends}
use Rattle.nms_quote.specs.Roster.{Listing, part_text, sizes_of, symbol_text}
use Rattle.nms_quote.specs.Tape.{Tape}
use Rattle.nms_quote.specs.declared.plan.Plan.{Plan}
use Rattle.nms_trades.specs.declared.execution.Execution.{Execution}
use Rattle.nms_trades.specs.declared.finding.Finding.{Finding}
use Rattle.nms_verdicts.specs.declared.plan_report.Said.{Said}
use Rattle.nms_drawing.specs.Data.{Lists, Tables, json_text}
use Rattle.nms_drawing.specs.Plans.{flag_cell, legs_of, plans_of, quotations_of}
use Rattle.nms_drawing.specs.Rows.{AreRows}
use Rattle.nms_drawing.specs.Texts.{data_text}
use Rattle.nms_drawing.specs.Trades.{execution_rows, ids_of, passed_rows, shown_of}
use Rattle.nms_drawing.specs.declared.page_text.TheConstants.{HEAD, MIDDLE, TAIL}
use Rattle.nms_drawing.specs.declared.rows.Window.{Window}
use Rattle.nms_drawing.specs.declared.rows.Rows.{Rows}

-- whether a row is of a day, its first number
abbrev pub is_of_day : (day : ℕ) → (row : List ℕ) → Bool
is_of_day day row = slice_index_or row 0 0 == day

-- rows in the order of their days; those of a day keep their order
abbrev pub by_day : (days : ℕ) → List (List ℕ) → List (List ℕ)
by_day days rows = flat_map (λ day. filter (is_of_day day) rows) (range_with_len 0 days)

-- the rows of a day's group
abbrev pub rows_of : {A : Type 0} → List (Vec (List ℕ) A) → (day : ℕ) → List (List ℕ)
rows_of groups day = slice_index_or (map vec_items groups) day []

-- a page is its own text, the report, its own text, the data, its own text
unfoldable pub page_text : (report json : List ℕ) → List ℕ
page_text report json = HEAD.now ++ report ++ MIDDLE.now ++ data_text json ++ TAIL.now

-- a text is a page with some report and this data
abbrev pub HasReport : (json text : List ℕ) → Type 0
HasReport json text = (report : List ℕ) × (text ≡ page_text report json)

-- a day: the versions that are shown, and whether the page counts times
abbrev pub day_row : Window → List ℕ
day_row window = window.from ∷ window.to ∷ flag_cell window.timed ∷ []

-- the names of the participants, after an empty text
abbrev pub part_names : Listing → List (List ℕ)
part_names roster = [] ∷ map (part_text roster) (range_with_len 0 (length roster.parts))

-- a page of changes, whose days are those of these symbols, with executions and what is found about them, and with a plan if
-- there is one
pub record IsPage (roster : Listing) (tape : Tape) (window : Window) (symbols : List ℕ) (traded : List Execution)
    (found : List (Option Finding)) (planned : Option (Plan × Said)) (text : List ℕ) : Type 0 where
  pub lists : Lists
  pub tables : Tables
  pub report : List ℕ
  pub whole : text ≡ page_text report (json_text lists tables)
  pub named : lists.symbols ≡ map (symbol_text roster) symbols
  pub parts : lists.names ≡ part_names roster
  pub days : tables.days ≡ replicate (length symbols) (day_row window)
  pub rows : Rows
  pub changes : AreRows window (sizes_of roster) tape window.from window.to rows
  pub lines : tables.lines ≡ by_day (length symbols) rows.best.items
  pub board : tables.board ≡ (if window.bests then [] else by_day (length symbols) rows.board.items)
  pub lots : tables.lots ≡ by_day (length symbols) rows.lots.items
  pub executions : tables.executions ≡ execution_rows window (shown_of window traded found)
  pub passed : tables.rows ≡ passed_rows (shown_of window traded found)
  pub ids : lists.ids ≡ ids_of (shown_of window traded found)
  pub plans : tables.plans ≡ plans_of window planned
  pub legs : tables.legs ≡ legs_of planned
  pub quotations : tables.quotations ≡ quotations_of planned

-- a page was written
pub record WritesPage (roster : Listing) (tape : Tape) (window : Window) (symbols : List ℕ) (traded : List Execution)
    (found : List (Option Finding)) (planned : Option (Plan × Said)) (old new : Option (List ℕ)) : Type 0 where
  pub text : List ℕ
  pub page : IsPage roster tape window symbols traded found planned text
  pub written : Appends old new text

-- Findings as columns: a line for each record of a file, under a line of their names. A field is empty if it is not known, or if there
-- is nothing that it could say. This product's own rule.
use Rattle.std.specs.Prelude.{ℕ, ℤ, ◌==◌, ◌&&◌, ◌++◌, Bool, List, [], ◌∷◌, codes, drop, not, option_map, take, Option, Some, None}
use Rattle.std.specs.Prelude.{if◌then◌else◌}
use Rattle.std.specs.Fmt.{decimal}
use Rattle.std.specs.List.{find}
use Rattle.nms_units.specs.Money.{money_text}
use Rattle.nms_units.specs.Price.{price_text}
use Rattle.nms_quote.specs.Roster.{Listing, part_text, symbol_text}
use Rattle.nms_quote.specs.declared.side_quote.Side.{Side}
use Rattle.nms_board.specs.declared.row.Row.{Row}
use Rattle.nms_lines.specs.Layout.{Record}
use Rattle.nms_lines.specs.Text.{text_of}
use Rattle.nms_times.specs.Clock.{time_text}
use Rattle.nms_trades.specs.Counts.{is_other, passes_some}
use Rattle.nms_trades.specs.Faults.{code_of}
use Rattle.nms_trades.specs.FinePrice.{fine_text}
use Rattle.nms_trades.specs.Lines.{causes_text}
use Rattle.nms_trades.specs.Quality.{place_word, quality_of}
use Rattle.nms_trades.specs.Sums.{all_flicker, difference, is_helped, sums_found}
use Rattle.nms_trades.specs.declared.execution.Deal.{Deal}
use Rattle.nms_trades.specs.declared.execution.Deal.TheVariants as deal
use Rattle.nms_trades.specs.declared.execution.Execution.{Execution}
use Rattle.nms_trades.specs.declared.execution_file.Refusal.{Refusal}
use Rattle.nms_trades.specs.declared.finding.Best.{Best}
use Rattle.nms_trades.specs.declared.finding.Finding.{Finding}
use Rattle.nms_trades.specs.declared.money_through.Sums.{Sums}
use Rattle.nms_trades.specs.declared.quality.Quality.{Quality}
use Rattle.nms_trades.specs.declared.standing.Standing.{Standing}
use Rattle.nms_trades.specs.declared.standing.Standing.TheVariants as standing

-- the names of the columns: of the record, of the finding, of the best quotations and of the execution's quality
abbrev pub column_names : Record
column_names =
    codes "record" ∷ codes "id" ∷ codes "time" ∷ codes "symbol" ∷ codes "side" ∷ codes "price" ∷ codes "shares" ∷ codes "venue"
    ∷ codes "version" ∷ codes "finding" ∷ codes "cause" ∷ codes "rows" ∷ codes "worst" ∷ codes "worst_venue" ∷ codes "passed_shares"
    ∷ codes "best_bid" ∷ codes "bid_shares" ∷ codes "best_offer" ∷ codes "offer_shares" ∷ codes "quoted_spread" ∷ codes "effective_spread"
    ∷ codes "quote_place" ∷ codes "improvement" ∷ []

-- the line of the names: opened only where it is written, since it is long
unfoldable pub names_text : List ℕ
names_text = text_of (column_names ∷ [])

-- a time as HH:MM:SS.nnnnnnnnn
abbrev pub clock_text : ℕ → List ℕ
clock_text t =
    take 2 (time_text t) ++ 58 ∷ take 2 (drop 2 (time_text t)) ++ 58 ∷ take 2 (drop 4 (time_text t)) ++ 46 ∷ drop 6 (time_text t)

abbrev pub time_field : Option ℕ → List ℕ
time_field None = []
time_field (Some time) = clock_text time

-- whether it bought or sold
abbrev pub deal_field : Option Deal → List ℕ
deal_field None = []
deal_field (Some deal.Bought) = codes "B"
deal_field (Some deal.Sold) = codes "S"

-- a participant
abbrev pub part_field : Listing → Option ℕ → List ℕ
part_field roster None = []
part_field roster (Some part) = part_text roster part

-- what the execution's own record says, after its number: its name and its time, and what was traded
abbrev pub name_fields : Execution → Record
name_fields execution = execution.name.items ∷ time_field execution.time ∷ []

abbrev pub trade_fields : Listing → Execution → Record
trade_fields roster execution =
    symbol_text roster execution.sym ∷ deal_field execution.deal ∷ fine_text execution.millionths ∷ decimal execution.shares
    ∷ part_field roster execution.part ∷ []

-- the word for its standing
abbrev pub finding_word : Standing → List ℕ
finding_word standing.Clean = codes "clean"
finding_word standing.Unquoted = codes "noquote"
finding_word standing.Perhaps = codes "perhaps"
finding_word standing.Through = codes "through"
finding_word standing.Other = codes "other"

-- the causes of one that traded through, or perhaps did
abbrev pub cause_field : Execution → Finding → Sums → List ℕ
cause_field execution finding sums =
    if passes_some finding.standing then causes_text execution.claims finding.crossed sums.helped (all_flicker sums) else []

-- whether a quotation is left, and its difference is that
abbrev pub is_worst : Execution → (worst : ℕ) → Side × Row → Bool
is_worst execution worst passed = not (is_helped execution passed.1) && difference passed.1 execution.millionths == worst

-- the participant of the first one of them
abbrev pub worst_by : Execution → (worst : ℕ) → List (Side × Row) → Option ℕ
worst_by execution worst passed = option_map (λ (one : Side × Row). one.1.part) (find (is_worst execution worst) passed)

-- a side's best quotation: its price and its displayed shares
abbrev pub best_fields : Option Row → Record
best_fields None = [] ∷ [] ∷ []
best_fields (Some row) = price_text row.price ∷ decimal row.size ∷ []

-- the best bid, then the best offer
abbrev pub bests_fields : Best → Record
bests_fields best = best_fields best.bid ++ best_fields best.offer

-- an improvement, if it is known
abbrev pub improvement_field : Option ℤ → List ℕ
improvement_field None = []
improvement_field (Some money) = money_text money

-- the quoted and the effective spread, where the price is, and the improvement
abbrev pub quality_fields : Option Quality → Record
quality_fields None = [] ∷ [] ∷ [] ∷ [] ∷ []
quality_fields (Some quality) =
    money_text quality.quoted ∷ money_text quality.effective ∷ place_word quality.place ∷ improvement_field quality.improvement ∷ []

-- the best quotations, and the quality of an execution next to them
abbrev pub quote_fields : Execution → Finding → Record
quote_fields execution finding = bests_fields finding.best ++ quality_fields (quality_of execution finding)

-- what was traded through: the causes, how many quotations are left, the greatest difference, whose it is, and the shares
abbrev pub through_fields : Listing → Execution → Finding → Sums → Record
through_fields roster execution finding sums =
    cause_field execution finding sums ∷ decimal sums.count ∷ fine_text sums.worst
    ∷ part_field roster (worst_by execution sums.worst finding.passed.items) ∷ decimal sums.shares ∷ []

-- what is found about an execution that is judged here
abbrev pub judged_fields : Listing → Execution → Finding → Record
judged_fields roster execution finding =
    decimal execution.version ∷ finding_word finding.standing ∷ through_fields roster execution finding (sums_found execution finding)
    ++ quote_fields execution finding

-- the fields of one that another shard judges: neither its version nor anything else about it is known here
abbrev pub other_fields : Record
other_fields = [] ∷ codes "other" ∷ [] ∷ [] ∷ [] ∷ [] ∷ [] ∷ [] ∷ [] ∷ [] ∷ [] ∷ [] ∷ [] ∷ [] ∷ [] ∷ []

-- what is found about an execution
abbrev pub found_fields : Listing → Execution → Finding → Record
found_fields roster execution finding = if is_other finding.standing then other_fields else judged_fields roster execution finding

-- what was traded, and what is found
abbrev pub later_columns : Listing → Execution → Finding → Record
later_columns roster execution finding = trade_fields roster execution ++ found_fields roster execution finding

-- the line of an execution
abbrev pub finding_row : Listing → Execution → Finding → Record
finding_row roster execution finding =
    decimal execution.number ∷ name_fields execution ++ later_columns roster execution finding

-- the line of a record that is refused: its number and the code
abbrev pub refusal_row : Refusal → Record
refusal_row refusal =
    decimal refusal.number ∷ [] ∷ [] ∷ [] ∷ [] ∷ [] ∷ [] ∷ [] ∷ [] ∷ codes "refused" ∷ code_of refusal.fault ∷ [] ∷ [] ∷ [] ∷ [] ∷ []
    ∷ [] ∷ [] ∷ [] ∷ [] ∷ [] ∷ [] ∷ [] ∷ []

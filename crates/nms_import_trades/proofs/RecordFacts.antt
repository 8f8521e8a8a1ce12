-- What is written of the rows so far and of one more.
use Rattle.std.proofs.Common.{ℕ, ◌≡◌, ◌+◌, List, [], ◌∷◌, ◌++◌, Option, Some, None, length, refl, sym, ap, subst, ◌∙◌}
use Rattle.std.proofs.Common.{append_assoc, arith, length-append}
use Rattle.std.specs.Prelude.{Result, Ok, Err, OnOk}
use Rattle.std.proofs.lemmas.List.{append-nil}
use Rattle.std.proofs.lemmas.List.Concat.{flat_map-append}
use Rattle.std.specs.Io.KnownBytes.{Appends}
use Rattle.csv.proofs.WriteFacts.{appends-more}
use Rattle.nms_quote.specs.Roster.{Listing}
use Rattle.nms_lines.specs.Layout.{Record}
use Rattle.nms_lines.specs.Text.{later_fields, record_text, text_of}
use Rattle.nms_lines.proofs.Offered.{join-append}
use Rattle.nms_import_trades.specs.declared.trade.Trade.{Trade}
use Rattle.nms_import_trades.specs.declared.trade_columns.TradeColumns.{TradeColumns}
use Rattle.nms_import_trades.specs.declared.trade_meanings.TradeMeanings.{TradeMeanings}
use Rattle.nms_import_trades.specs.Executions.{day_from, execution_record, executions_text, record_in, records_from}
use Rattle.nms_import_trades.specs.TradeRow.{day_after, made_on}

-- the records of the rows and of one more
records_more : (columns : TradeColumns) (mapping : TradeMeanings) (roster : Listing) (day : Option ℕ) (number : ℕ) (rows : List Record)
    (row : Record) → records_from columns mapping roster day number (rows ++ row ∷ [])
    ≡ records_from columns mapping roster day number rows
    ++ records_from columns mapping roster (day_from columns mapping roster day rows) (number + length rows) (row ∷ [])
records_more columns mapping roster day number [] row =
    let same : number + 0 ≡ number = omega arith in
    sym (ap (λ n. records_from columns mapping roster day n (row ∷ [])) same)
records_more columns mapping roster day number (first ∷ rows) row =
    let next : number + 1 + length rows ≡ number + length (first ∷ rows) = omega arith in
    let one = record_in columns mapping roster number first (made_on day columns mapping roster first) in
    let after = day_after day (made_on day columns mapping roster first) in
    let last = day_from columns mapping roster after rows in
    let more = records_from columns mapping roster after (number + 1) rows in
    ap (λ (rest : List Record). one ++ rest) (records_more columns mapping roster after (number + 1) rows row)
    ∙ sym (append_assoc one more (records_from columns mapping roster last (number + 1 + length rows) (row ∷ [])))
    ∙ ap (λ n. (one ++ more) ++ records_from columns mapping roster last n (row ∷ [])) next

-- their text
text_more : (columns : TradeColumns) (mapping : TradeMeanings) (roster : Listing) (day : Option ℕ) (number : ℕ) (rows : List Record)
    (row : Record) → executions_text columns mapping roster day number rows
    ++ executions_text columns mapping roster (day_from columns mapping roster day rows) (number + length rows) (row ∷ [])
    ≡ executions_text columns mapping roster day number (rows ++ row ∷ [])
text_more columns mapping roster day number rows row =
    sym (ap text_of (records_more columns mapping roster day number rows row)
    ∙ flat_map-append record_text (records_from columns mapping roster day number rows)
    (records_from columns mapping roster (day_from columns mapping roster day rows) (number + length rows) (row ∷ [])))

-- one row more was written
pub written_on : (columns : TradeColumns) (mapping : TradeMeanings) (roster : Listing) (day last : Option ℕ) (number next : ℕ)
    (rows : List Record) (row : Record) (old now new : Option (List ℕ)) → last ≡ day_from columns mapping roster day rows
    → next ≡ number + length rows → Appends old now (executions_text columns mapping roster day number rows)
    → Appends now new (executions_text columns mapping roster last next (row ∷ []))
    → Appends old new (executions_text columns mapping roster day number (rows ++ row ∷ []))
written_on columns mapping roster day last number next rows row old now new on is first then =
    subst (Appends old new) (text_more columns mapping roster day number rows row)
    (appends-more old now new (executions_text columns mapping roster day number rows)
    (executions_text columns mapping roster (day_from columns mapping roster day rows) (number + length rows) (row ∷ [])) first
    (subst (λ (from : Option ℕ). Appends now new (executions_text columns mapping roster from (number + length rows) (row ∷ []))) on
    (subst (λ n. Appends now new (executions_text columns mapping roster last n (row ∷ []))) is then)))

-- and counted
pub counted_on : (columns : TradeColumns) (mapping : TradeMeanings) (roster : Listing) (day last : Option ℕ) (number next : ℕ)
    (rows : List Record) (row : Record) → last ≡ day_from columns mapping roster day rows → next ≡ number + length rows
    → length (records_from columns mapping roster day number (rows ++ row ∷ []))
    ≡ length (records_from columns mapping roster day number rows)
    + length (records_from columns mapping roster last next (row ∷ []))
counted_on columns mapping roster day last number next rows row on is =
    ap length (records_more columns mapping roster day number rows row)
    ∙ length-append (records_from columns mapping roster day number rows)
    (records_from columns mapping roster (day_from columns mapping roster day rows) (number + length rows) (row ∷ []))
    ∙ ap (λ n. length (records_from columns mapping roster day number rows)
    + length (records_from columns mapping roster (day_from columns mapping roster day rows) n (row ∷ []))) (sym is)
    ∙ ap (λ (from : Option ℕ). length (records_from columns mapping roster day number rows)
    + length (records_from columns mapping roster from next (row ∷ []))) (sym on)

-- the day after it
pub day_on : (columns : TradeColumns) (mapping : TradeMeanings) (roster : Listing) (day : Option ℕ) (rows : List Record) (row : Record)
    → day_after (day_from columns mapping roster day rows) (made_on (day_from columns mapping roster day rows) columns mapping roster row)
    ≡ day_from columns mapping roster day (rows ++ row ∷ [])
day_on columns mapping roster day [] row = refl
day_on columns mapping roster day (first ∷ rows) row =
    day_on columns mapping roster (day_after day (made_on day columns mapping roster first)) rows row

-- nothing was written
pub none_written : (old : Option (List ℕ)) → Appends old old []
none_written None = tt
none_written (Some x) = sym (append-nil x)

-- the record of one row was written
pub one_written : (columns : TradeColumns) (mapping : TradeMeanings) (roster : Listing) (day : Option ℕ) (number : ℕ) (row : Record)
    (trade : Trade) → Ok trade ≡ made_on day columns mapping roster row → (old new : Option (List ℕ))
    → Appends old new (text_of (execution_record columns mapping roster number row trade ∷ []))
    → Appends old new (executions_text columns mapping roster day number (row ∷ []))
one_written columns mapping roster day number row trade is old new written = rw (sym is) written

-- what follows from the fact on the way out, follows on the way out
pub on_ok : {A E : Type 0} {P Q : Type 0} (r : Result A E) → (P → Q) → OnOk r P → OnOk r Q
on_ok (Ok x) f h = f h
on_ok (Err e) f h = tt

-- one more field before those that follow, each after a comma, and a line feed
pub field_on : (old : List ℕ) {now new : List ℕ} (field : List ℕ) (fields : Record) → now ≡ old ++ 44 ∷ field
    → new ≡ now ++ (later_fields fields ++ 10 ∷ []) → new ≡ old ++ (later_fields (field ∷ fields) ++ 10 ∷ [])
field_on old field fields first next =
    next ∙ ap (λ (text : List ℕ). text ++ (later_fields fields ++ 10 ∷ [])) first
    ∙ append_assoc old (44 ∷ field) (later_fields fields ++ 10 ∷ [])
    ∙ ap (λ (text : List ℕ). old ++ text) (sym (append_assoc (44 ∷ field) (later_fields fields) (10 ∷ [])))

-- the text of a record, in parts
record_parts : (first : List ℕ) (fields : Record) → text_of ((first ∷ fields) ∷ []) ≡ first ++ (later_fields fields ++ 10 ∷ [])
record_parts first fields =
    append-nil (record_text (first ∷ fields))
    ∙ ap (λ (text : List ℕ). text ++ 10 ∷ []) (join-append first [] fields)
    ∙ append_assoc first (later_fields fields) (10 ∷ [])

-- the first field before them
pub record_on : (old : List ℕ) {now new : List ℕ} (first : List ℕ) (fields : Record) → now ≡ old ++ first
    → new ≡ now ++ (later_fields fields ++ 10 ∷ []) → new ≡ old ++ text_of ((first ∷ fields) ∷ [])
record_on old first fields begun next =
    next ∙ ap (λ (text : List ℕ). text ++ (later_fields fields ++ 10 ∷ [])) begun
    ∙ append_assoc old first (later_fields fields ++ 10 ∷ [])
    ∙ ap (λ (text : List ℕ). old ++ text) (sym (record_parts first fields))

-- `append_execution`: the record of an execution, field by field, by `field_on` and `record_on`.
use Rattle.std.proofs.Common.{List, ℕ, [], ◌∷◌}
use Rattle.std.specs.Prelude.{codes}
use Rattle.std.specs.Fmt.{decimal}
use Rattle.csv.specs.Records.{fields_of}
use Rattle.nms_quote.specs.Roster.{symbol_text}
use Rattle.nms_import.specs.Imported.{fifteen_digits}
use Rattle.nms_import.specs.Mapping.{column_text}
use Rattle.nms_trades.specs.FinePrice.{fine_text}
use Rattle.nms_import_trades.specs.Executions.{deal_text, flags_text, venue_text}
use Rattle.nms_import_trades.specs.TradeRow.{id_text}
use Rattle.nms_import_trades.proofs.RecordFacts.{field_on, on_ok, record_on}
use Rattle.nms_import_trades.proofs.execution_writing.append_execution.Goals as goal

pub returns : goal.returns
returns c =
    let row = fields_of c.args.row.now in
    let trade = c.args.trade.now in
    let id : List ℕ = id_text c.args.columns.now.id c.args.number row in
    let symbol : List ℕ = symbol_text c.args.roster.now trade.sym in
    let price : List ℕ = fine_text trade.millionths in
    let shares : List ℕ = decimal trade.shares in
    let dealt : List ℕ = deal_text trade.deal in
    let timed : List ℕ = 64 ∷ fifteen_digits trade.time in
    let venue : List ℕ = venue_text c.args.roster.now trade.part in
    let flags : List ℕ =
    flags_text c.args.meanings.now.claims.items (column_text c.args.columns.now.condition row) trade.marked in
    on_ok c.end_record.result (λ last.
    record_on c.args.out.now.items (codes "D") (id ∷ symbol ∷ price ∷ shares ∷ dealt ∷ timed ∷ venue ∷ flags ∷ []) c.in_ok-push_kind.ensures
    (field_on c.push_kind.new.out.items id (symbol ∷ price ∷ shares ∷ dealt ∷ timed ∷ venue ∷ flags ∷ []) c.in_ok-push_id.ensures
    (field_on c.push_id.new.out.items symbol (price ∷ shares ∷ dealt ∷ timed ∷ venue ∷ flags ∷ []) c.in_ok-push_sym.ensures
    (field_on c.push_sym.new.out.items price (shares ∷ dealt ∷ timed ∷ venue ∷ flags ∷ []) c.in_ok-push_millionths.ensures
    (field_on c.push_millionths.new.out.items shares (dealt ∷ timed ∷ venue ∷ flags ∷ []) c.in_ok-push_shares.ensures
    (field_on c.push_shares.new.out.items dealt (timed ∷ venue ∷ flags ∷ []) c.in_ok-push_deal.ensures
    (field_on c.push_deal.new.out.items timed (venue ∷ flags ∷ []) c.in_ok-push_when.ensures
    (field_on c.push_when.new.out.items venue (flags ∷ []) c.in_ok-push_venue.ensures
    (field_on c.push_venue.new.out.items flags [] c.in_ok-push_flags.ensures last))))))))) c.end_record.ensures

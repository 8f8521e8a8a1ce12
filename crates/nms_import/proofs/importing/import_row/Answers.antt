-- `import_row`: clause `kept`, by `kept_stays` and what the row was read as.
use Rattle.std.proofs.Common.{ℕ, ◌≡◌, ◌∙◌, None, Ok, Err, OnOk, ap, subst, sym}
use Rattle.csv.specs.Records.{fields_of}
use Rattle.nms_import.specs.Imported.{kept_at, kept_left, kept_or, side_said}
use Rattle.nms_import.specs.Mapping.{entry_of, left_by}
use Rattle.nms_import.specs.SideRows.{IsKept, Kept, kept_in}
use Rattle.nms_import.proofs.KeptFacts.{kept_read_as, kept_stays}
use Rattle.nms_import.proofs.importing.import_row.Goals as goal

pub returns-in-None-clause-kept : goal.returns-in-None-clause-kept
returns-in-None-clause-kept g c =
    let columns = c.args.columns.now in
    let mapping = c.args.meanings.now in
    let roster = c.args.roster.now in
    let row = fields_of c.args.work.now.row in
    let last = c.args.notes.now.time in
    let shown : Kept = kept_in c.args.work.now.kept.all in
    let is_read : entry_of columns mapping roster row ≡ Ok c.in-Ok.entry = sym c.in_ok-entry.ensures.entry ∙ c.in-Ok.is in
    let is_said : side_said columns mapping row c.in-Ok.entry ≡ None = sym c.side_said.ensures.said ∙ c.in-None.is in
    kept_stays c.give_entry.result c.args.work.now.kept c.give_entry.new.work.kept (kept_at columns mapping roster last shown row)
    c.give_entry.ensures.kept
    (λ part symbol. ap (λ (kept : Kept). kept part symbol)
    (sym (kept_read_as columns mapping roster last shown row c.in-Ok.entry None is_read is_said)))

pub returns-in-Err-clause-kept : goal.returns-in-Err-clause-kept
returns-in-Err-clause-kept g c =
    let columns = c.args.columns.now in
    let mapping = c.args.meanings.now in
    let roster = c.args.roster.now in
    let row = fields_of c.args.work.now.row in
    let last = c.args.notes.now.time in
    let shown : Kept = kept_in c.args.work.now.kept.all in
    let is_read : entry_of columns mapping roster row ≡ Err c.in-Err.cause = sym c.in_ok-entry.ensures.entry ∙ c.in-Err.is in
    let same : kept_left mapping.sides shown (left_by columns mapping roster c.note_cause.new.notes.time row c.in-Err.cause)
    ≡ kept_at columns mapping roster last shown row =
    ap (λ (t : ℕ). kept_left mapping.sides shown (left_by columns mapping roster t row c.in-Err.cause)) c.note_cause.ensures.time
    ∙ sym (ap (kept_or columns mapping roster last shown row) is_read) in
    subst (λ (kept : Kept). OnOk c.give_left.result (IsKept c.give_left.new.work.kept kept)) same c.give_left.ensures.kept

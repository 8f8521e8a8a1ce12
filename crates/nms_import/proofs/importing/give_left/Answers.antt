-- `give_left`: clause `kept`, by `kept_stays`.
use Rattle.std.proofs.Common.{ℕ, ◌≡◌, ◌∙◌, Option, Some, ap}
use Rattle.csv.specs.Records.{fields_of}
use Rattle.nms_import.specs.declared.entry.Entry.{Entry}
use Rattle.nms_import.specs.Imported.{kept_left}
use Rattle.nms_import.specs.Mapping.{left_by}
use Rattle.nms_import.specs.SideRows.{kept_in}
use Rattle.nms_import.proofs.KeptFacts.{kept_stays, left_is}
use Rattle.nms_import.proofs.importing.give_left.Goals as goal

pub returns-in-Some-clause-kept : goal.returns-in-Some-clause-kept
returns-in-Some-clause-kept g c =
    let mapping = c.args.meanings.now in
    let shown = kept_in c.args.work.now.kept.all in
    let left : Option Entry =
    left_by c.args.columns.now mapping c.args.roster.now c.args.notes.now.time (fields_of c.args.work.now.row) c.args.cause in
    let is_left : Some c.in-Some.entry ≡ left =
    left_is c.in-Some.entry c.in_ok-entry.field-0
    (λ (t : ℕ). left_by c.args.columns.now mapping c.args.roster.now t (fields_of c.args.work.now.row) c.args.cause)
    c.time-last.result c.args.notes.now.time c.in-Some.is c.in_ok-entry.ensures.left c.time-last.ensures in
    kept_stays c.give_entry.result c.withdraw_kept.new.kept c.give_entry.new.work.kept (kept_left mapping.sides shown left)
    c.give_entry.ensures.kept
    (λ part symbol. c.withdraw_kept.ensures.kept part symbol
    ∙ ap (λ (it : Option Entry). kept_left mapping.sides shown it part symbol) is_left)

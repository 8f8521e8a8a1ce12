-- `import_side`: clause `kept`, by `kept_stays`.
use Rattle.std.proofs.Common.{◌∙◌, ap}
use Rattle.nms_import.specs.declared.side_rows.Sides.{Sides}
use Rattle.nms_import.specs.SideRows.{kept_after, kept_in, put, step_of}
use Rattle.nms_import.proofs.KeptFacts.{kept_stays}
use Rattle.nms_import.proofs.importing.import_side.Goals as goal

pub returns-in-Some-clause-kept : goal.returns-in-Some-clause-kept
returns-in-Some-clause-kept g c =
    let mapping = c.args.meanings.now in
    let row = c.args.row.now in
    let shown = kept_in c.args.work.now.kept.all in
    kept_stays c.give_entry.result c.put.new.self c.give_entry.new.work.kept (kept_after mapping.half mapping.withdraws shown row)
    c.give_entry.ensures.kept
    (λ part symbol. c.put.ensures.put c.requires.room part symbol
    ∙ ap (λ (sides : Sides). put shown row.part row.sym sides part symbol)
    (c.step_of-step.ensures.sides
    ∙ ap (λ (sides : Sides). (step_of mapping.half mapping.withdraws sides row).sides) c.get-shown.ensures))

-- `repeats`: its result, by the names before a name, from `NameLemmas`.
use Rattle.std.proofs.Common.{arith, sym, ap, ◌∙◌}
use Rattle.std.proofs.lemmas.Grind.{common_steps}
use Rattle.nms_fees.proofs.NameLemmas.{repeated, learned, names_of-unnamed, texts}
use Rattle.nms_fees.specs.Places.{has_repeat}
use Rattle.nms_fees.proofs.repeat.repeats.Goals as goal
use Rattle.nms_fees.proofs.repeat.repeats.Goals.{in-Some+in-Ok+else-not-is_new, in_default}

pub returns-then-not-is_new-clause-found : goal.returns-then-not-is_new-clause-found
returns-then-not-is_new-clause-found c =
    sym (repeated c.args.rows.now c.loop-row.row-index c.row-item.result c.loop-row-test.true c.row-item.is c.in-Some.name
    c.loop-row.seen.keys (sym c.in-Some.ensures) c.loop-row.invariant.seen c.in-Ok.is_new c.in-Ok.ensures.added c.if-not-is_new.true)

pub loop-row-preserved : goal.loop-row-preserved
loop-row-preserved c =
    elim c.match-name_in.branch [
      | in-Some+in-Ok+else-not-is_new w ↦
          let now = learned c.args.rows.now c.loop-row.row-index c.row-item.result c.loop-row-test.true c.row-item.is w.in-Some.name
          c.loop-row.seen.keys (sym w.in-Some.ensures) c.loop-row.invariant.seen w.insert_full.new.self.keys w.in-Ok.is_new
          w.in-Ok.ensures.added w.if-not-is_new.false c.loop-row.invariant.once w.in-Ok.ensures.keys in
          record { seen = ap (λ set. texts set.keys) w.seen-is ∙ now.0; once = now.1 }
      | in_default w ↦
          let same = names_of-unnamed c.args.rows.now c.loop-row.row-index c.row-item.result c.loop-row-test.true c.row-item.is
          (sym w.in_default.ensures) in
          record {
            seen = ap (λ set. texts set.keys) w.seen-is ∙ c.loop-row.invariant.seen ∙ sym same;
            once = ap has_repeat same
                ∙ c.loop-row.invariant.once;
          }
    ]

-- ---- goals that `grind` closes; the search that is tried before it takes longer

pub returns-clause-found : goal.returns-clause-found
returns-clause-found c = grind (arith, common_steps)

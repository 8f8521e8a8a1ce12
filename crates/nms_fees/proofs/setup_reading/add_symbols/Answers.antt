-- `add_symbols`: no symbol is refused (`unrefused`), and each row is sound (`row_sound`).
use Rattle.std.proofs.Common.{arith, codes}
use Rattle.std.proofs.lemmas.Grind.{common_steps}
use Rattle.nms_fees.specs.declared.section.Section.TheVariants as section
use Rattle.nms_fees.specs.Setup.{count_at, table_of}
use Rattle.nms_fees.proofs.SoundLemmas.{row_sound, unrefused}
use Rattle.nms_fees.proofs.setup_reading.add_symbols.Goals as goal

pub add_symbol-requires-clause-unrefused : goal.add_symbol-requires-clause-unrefused
add_symbol-requires-clause-unrefused c =
    unrefused c.requires.sound.0 section.Symbol (λ row. count_at (codes "lot")
    (table_of row)) c.args.rows.now c.loop-row.row-index c.row-item.result c.loop-row.roster.syms c.requires.sound.1
    c.loop-row-test.true c.row-item.is c.loop-row.invariant.syms

pub add_symbol-requires-clause-sound : goal.add_symbol-requires-clause-sound
add_symbol-requires-clause-sound c = (
  c.requires.sound.0,
  row_sound c.requires.sound.0 section.Symbol c.args.rows.now c.loop-row.row-index c.row-item.result c.requires.sound.1
      c.loop-row-test.true c.row-item.is,
)

-- ---- goals that `grind` closes; the search that is tried before it takes longer

pub loop-row-preserved : goal.loop-row-preserved
loop-row-preserved c = grind (arith, common_steps)

pub returns-clause-syms : goal.returns-clause-syms
returns-clause-syms c = grind (arith, common_steps)

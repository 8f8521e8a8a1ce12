-- `add_participants`: no participant is refused, by `unrefused`.
use Rattle.std.proofs.Common.{arith, codes}
use Rattle.std.proofs.lemmas.Grind.{common_steps}
use Rattle.nms_fees.specs.declared.section.Section.TheVariants as section
use Rattle.nms_fees.specs.Setup.{text_at, table_of, feed_of_text}
use Rattle.nms_fees.proofs.SoundLemmas.{unrefused}
use Rattle.nms_fees.proofs.setup_reading.add_participants.Goals as goal

pub add_participant-requires : goal.add_participant-requires
add_participant-requires c =
    unrefused c.requires.sound.0 section.Participant
    (λ row. feed_of_text (text_at (codes "feed")
    (table_of row))) c.args.rows.now c.loop-row.row-index c.row-item.result c.loop-row.roster.parts c.requires.sound.1
    c.loop-row-test.true c.row-item.is c.loop-row.invariant.parts

-- ---- goals that `grind` closes; the search that is tried before it takes longer

pub loop-row-preserved : goal.loop-row-preserved
loop-row-preserved c = grind (arith, common_steps)

pub returns-clause-parts : goal.returns-clause-parts
returns-clause-parts c = grind (arith, common_steps)

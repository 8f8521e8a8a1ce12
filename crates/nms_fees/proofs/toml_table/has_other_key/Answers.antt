-- `has_other_key`: its result, from the keys of the table, by `TableLemmas`.
use Rattle.std.proofs.Common.{arith, not}
use Rattle.std.proofs.lemmas.Grind.{common_steps}
use Rattle.nms_fees.proofs.TableLemmas.{any_key-view}
use Rattle.nms_fees.specs.Places.{is_known}
use Rattle.nms_fees.proofs.toml_table.has_other_key.Goals as goal

pub loop-key-init : goal.loop-key-init
loop-key-init c =
    let all_keys = any_key-view (λ key. not (is_known c.args.level key)) c.args.table.now.entries in
    cc

-- ---- goals that `grind` closes; the search that is tried before it takes longer

pub loop-key-preserved : goal.loop-key-preserved
loop-key-preserved c = grind (arith, common_steps)

pub returns-then-not-is_known : goal.returns-then-not-is_known
returns-then-not-is_known c = grind (arith, common_steps)

pub returns : goal.returns
returns c = grind (arith, common_steps)

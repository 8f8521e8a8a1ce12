-- `write_table`: one line more.
use Rattle.std.proofs.Common.{refl}
use Rattle.std.proofs.lemmas.List.Sums.{AllPass-from_list_all}
use Rattle.nms_show.specs.Plain.{is_plain}
use Rattle.nms_show.specs.Safe.{IsSafe, nothing}
use Rattle.nms_show.proofs.Offered.{adds_none, safe_part, safe_then, writes_err}
use Rattle.nms_compare.proofs.TextFacts.{sum_more}
use Rattle.nms_compare.proofs.counts.write_table.Goals as goal

pub loop-row-init : goal.loop-row-init
loop-row-init g c = record { safe = adds_none IsSafe (g.W.Write.contents c.args.out.now) nothing; sum = refl }

pub write_row-requires : goal.write_row-requires
write_row-requires g c = record {
  own = AllPass-from_list_all (λ row. is_plain row.1.now) c.args.table.now c.requires.own c.loop-row.row-index _ c.loop-row-test.true;
}

pub returns-in_err-rows-clause-safe : goal.returns-in_err-rows-clause-safe
returns-in_err-rows-clause-safe g c =
    writes_err IsSafe _ _ c.from_residual.result c.from_residual.ensures.0
    (safe_part _ _ _ c.loop-row.invariant.safe c.in_err-rows.ensures.safe)

pub loop-row-preserved : goal.loop-row-preserved
loop-row-preserved g c = record {
  safe = safe_then _ _ _ c.loop-row.invariant.safe c.in_ok-rows.ensures.safe;
  sum = sum_more (λ row. row.0) c.args.table.now c.loop-row.row-index _ _ _ c.loop-row-test.true c.loop-row.invariant.sum
      c.in_ok-rows.ensures.sum;
}

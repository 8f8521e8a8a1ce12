-- `write_counts`: one line more.
use Rattle.std.proofs.lemmas.List.Sums.{AllPass-from_list_all}
use Rattle.nms_show.specs.Plain.{is_plain}
use Rattle.nms_show.specs.Safe.{IsSafe, nothing}
use Rattle.nms_show.proofs.Offered.{adds_none, safe_part, safe_then, writes_err}
use Rattle.nms_import.proofs.telling.write_counts.Goals as goal

pub loop-count-init : goal.loop-count-init
loop-count-init g c = λ own. adds_none IsSafe (g.W.Write.contents c.args.out.now) nothing

pub returns-in_err-write_count : goal.returns-in_err-write_count
returns-in_err-write_count g c = λ own.
    writes_err IsSafe _ _ c.from_residual.result c.from_residual.ensures.0
    (safe_part _ _ _ (c.loop-count.invariant own)
    (c.in_err-write_count.ensures (AllPass-from_list_all (λ count. is_plain count.1.now) c.args.counts.now own c.loop-count.count-index _
    c.loop-count-test.true)))

pub loop-count-preserved : goal.loop-count-preserved
loop-count-preserved g c = λ own.
    safe_then _ _ _ (c.loop-count.invariant own)
    (c.in_ok-write_count.ensures (AllPass-from_list_all (λ count. is_plain count.1.now) c.args.counts.now own c.loop-count.count-index _
    c.loop-count-test.true))

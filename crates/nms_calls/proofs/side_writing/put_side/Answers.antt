-- `put_side`: all 32 places are written, and the side has no more rows.
use Rattle.std.proofs.Common.{◌≤◌, length, arith}
use Rattle.nms_board.specs.Ranking.{ranked_at}
use Rattle.nms_board.specs.Shown.{rows_held}
use Rattle.nms_calls.specs.RowNumbers.{IsRowAt, row_numbers}
use Rattle.nms_calls.proofs.SideLemmas.{rows-few}
use Rattle.nms_calls.proofs.side_writing.put_side.Goals as goal

pub returns : goal.returns
returns c =
    let narrow : c.args.board.now.sizes.parts ≤ 32 = omega (arith, c.parts-parts.ensures.count, c.parts-parts.ensures.within) in
    let few : length (rows_held c.args.board.now c.args.sym c.args.side) ≤ 32 = rows-few c.args.board.now c.args.sym c.args.side narrow in
    record {
      total_of = c.total-out.ensures.total;
      count_of = omega (arith, few, c.loop-place.invariant.1, c.loop-place-test.false);
      places = λ place within.
          let at : IsRowAt c.loop-place.out place (row_numbers (ranked_at c.args.side (rows_held c.args.board.now c.args.sym c.args.side)
          place)) =
          c.loop-place.invariant.2 place (omega (arith, within, c.loop-place-test.false)) in
          record { price = at.price; receipt = at.receipt; size = at.size; part = at.part; is_protected = at.is_protected };
    }

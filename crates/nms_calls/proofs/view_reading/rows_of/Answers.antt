-- `rows_of`: clause `all` at a place whose row is refused, by that of `row_of`.
use Rattle.std.proofs.Common.{◌<◌, get_or, length, arith}
use Rattle.nms_calls.proofs.ViewLemmas.{no_row}
use Rattle.nms_calls.proofs.view_reading.rows_of.Goals as goal

pub returns-in_default-clause-all : goal.returns-in_default-clause-all
returns-in_default-clause-all c = λ rows are.
    let place = c.loop-place.place in
    let within : place < length rows = omega (arith, are.count, c.loop-place-test.true) in
    c.in_default.ensures.all (get_or rows place no_row) (are.each place no_row within) (are.placed place no_row within)

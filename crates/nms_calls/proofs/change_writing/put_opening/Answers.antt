-- `put_opening`: each place's change is said, so all are on the board's roster.
use Rattle.std.proofs.Common.{List, refl, arith, rules}
use Rattle.nms_quote.specs.declared.change.Change.{Change}
use Rattle.nms_opening.specs.Opening.{OpensSymbol}
use Rattle.nms_calls.proofs.ChangeLemmas.{said-all}
use Rattle.nms_calls.proofs.change_writing.put_opening.Goals as goal

pub returns : goal.returns
returns c =
    let board = c.args.board.now in
    let changes : List Change = c.as_slice-changes.result.now in
    let opens : OpensSymbol board c.args.sym changes = search rules in
    record {
      changes = changes;
      opens = opens;
      count_of = search rules;
      spare_of = refl;
      places = c.put_changes.ensures.numbers;
      said = said-all board.sizes changes
          (λ place within. c.put_changes.ensures.said place (omega (arith, within, opens.few))) opens.held;
    }

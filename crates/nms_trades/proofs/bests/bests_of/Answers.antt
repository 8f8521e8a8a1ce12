-- `bests_of`: one change more, by `bests_step`.
use Rattle.std.proofs.Common.{ℕ, ◌≡◌, ◌∙◌, ap, arith, false, length, subst, sym, true}
use Rattle.std.specs.Prelude.{is_err}
use Rattle.std.proofs.lemmas.List.{length-map}
use Rattle.nms_quote.specs.Roster.{Sizes, holds}
use Rattle.nms_board.specs.Cells.{Board}
use Rattle.nms_board.specs.Shown.{rows_held}
use Rattle.nms_stream.specs.Tapes.{sizes_in}
use Rattle.nms_trades.specs.Bests.{AreBests}
use Rattle.nms_trades.proofs.BestFacts.{bests_first}
use Rattle.nms_trades.proofs.BestSteps.{bests_step}
use Rattle.nms_trades.proofs.OkFacts.{ok_then}
use Rattle.nms_trades.proofs.bests.bests_of.Goals as goal

pub loop-change-init : goal.loop-change-init
loop-change-init c =
    let tape = c.args.tape.now in
    let bests = c.in-Ok.bests.items in
    let count : length bests ≡ length (sizes_in tape).lots =
    c.in-Ok.ensures.count ∙ c.syms.ensures.count ∙ sym (length-map tape.roster.now.syms (λ entry. entry.1)) in
    record {
      tape = c.in_ok-replay.ensures.tape;
      count = count;
      bests = subst (λ (n : ℕ). AreBests (sizes_in tape) tape.changes.items n bests) (sym c.in_ok-replay.ensures.first)
          (bests_first (sizes_in tape) tape.changes.items bests
          (λ place below. c.in-Ok.ensures.nothing place (omega (arith, below, count, c.in-Ok.ensures.count))));
    }

pub loop-change-preserved : goal.loop-change-preserved
loop-change-preserved c =
    let sizes = sizes_in c.args.tape.now in
    let had = c.loop-change.invariant in
    let step = rw had.tape at c.in-Some.ensures.step in
    let fine : is_err c.note_change.result ≡ false = sym c.is_err.ensures.value ∙ c.if-is_err.false in
    let was = c.loop-change.replay.board in
    record {
      tape = rw c.step.ensures.tape had.tape;
      count = ok_then c.note_change.result _ fine c.note_change.ensures.count ∙ had.count;
      bests = ok_then c.note_change.result _ fine
          (bests_step c.note_change.result sizes c.args.tape.now.changes.items was c.step.new.self.board c.in-Some.change
          c.loop-change.bests.items c.note_change.new.bests.items step had.count c.note_change.ensures.concerned
          c.note_change.ensures.others
          (λ s side kept. ap (λ (b : Board). rows_held b s side) step.moved
          ∙ c.other_symbols_stay.ensures was c.in-Some.change s side step.before.stands.narrow
          (subst (λ (z : Sizes). holds z c.in-Some.change ≡ true) (sym step.before.same) step.held) kept) had.bests);
    }

pub loop-change-smaller : goal.loop-change-smaller
loop-change-smaller c =
    let step = rw c.loop-change.invariant.tape at c.in-Some.ensures.step in
    omega (arith, step.below, step.more)

pub note_change-requires-clause-count : goal.note_change-requires-clause-count
note_change-requires-clause-count c =
    let step = rw c.loop-change.invariant.tape at c.in-Some.ensures.step in
    c.loop-change.invariant.count ∙ ap (λ (z : Sizes). length z.lots) (sym step.at.same)

pub returns : goal.returns
returns c =
    let tape = c.args.tape.now in
    subst (λ (n : ℕ). AreBests (sizes_in tape) tape.changes.items n c.loop-change.bests.items)
    (rw c.loop-change.invariant.tape at c.in_default-step.ensures.step) c.loop-change.invariant.bests

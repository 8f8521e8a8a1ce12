-- `parts_of`: one change more, by `parts_step`.
use Rattle.std.proofs.Common.{ℕ, ◌≡◌, ◌*◌, ◌∙◌, ap, arith, false, length, subst, sym}
use Rattle.std.specs.Prelude.{is_err}
use Rattle.std.proofs.lemmas.List.{length-map}
use Rattle.nms_quote.specs.Roster.{Sizes}
use Rattle.nms_board.specs.declared.TheConstants.{MOST_ROWS}
use Rattle.nms_stream.specs.Tapes.{sizes_in}
use Rattle.nms_trades.specs.Parts.{AreParts}
use Rattle.nms_trades.proofs.BestSteps.{parts_step}
use Rattle.nms_trades.proofs.OkFacts.{ok_then}
use Rattle.nms_trades.proofs.PartFacts.{parts_first}
use Rattle.nms_trades.proofs.parts.parts_of.Goals as goal

pub loop-change-init : goal.loop-change-init
loop-change-init c =
    let tape = c.args.tape.now in
    let tracks = c.in-Ok.tracks.items in
    let syms : c.syms.result ≡ length (sizes_in tape).lots =
    c.syms.ensures.count ∙ sym (length-map tape.roster.now.syms (λ entry. entry.1)) in
    let count : length tracks ≡ MOST_ROWS * length (sizes_in tape).lots = c.in-Ok.ensures.count ∙ ap (λ n. MOST_ROWS * n) syms in
    record {
      tape = c.in_ok-replay.ensures.tape;
      count = count;
      parts = subst (λ (n : ℕ). AreParts (sizes_in tape) tape.changes.items n tracks) (sym c.in_ok-replay.ensures.first)
          (parts_first (sizes_in tape) tape.changes.items tracks
          (λ place below. c.in-Ok.ensures.nothing place (omega (arith, below, count, c.in-Ok.ensures.count)))
          c.in_ok-replay.ensures.narrow);
    }

pub loop-change-preserved : goal.loop-change-preserved
loop-change-preserved c =
    let had = c.loop-change.invariant in
    let step = rw had.tape at c.in-Some.ensures.step in
    let fine : is_err c.note_change.result ≡ false = sym c.is_err.ensures.value ∙ c.if-is_err.false in
    record {
      tape = rw c.step.ensures.tape had.tape;
      count = ok_then c.note_change.result _ fine c.note_change.ensures.count ∙ had.count;
      parts = ok_then c.note_change.result _ fine
          (parts_step c.note_change.result (sizes_in c.args.tape.now) c.args.tape.now.changes.items c.loop-change.replay.board
          c.step.new.self.board c.in-Some.change c.loop-change.tracks.items c.note_change.new.tracks.items step
          (rw step.at.same at c.note_change.ensures.touched) (rw step.at.same at c.note_change.ensures.others) had.parts);
    }

pub loop-change-smaller : goal.loop-change-smaller
loop-change-smaller c =
    let step = rw c.loop-change.invariant.tape at c.in-Some.ensures.step in
    omega (arith, step.below, step.more)

pub note_change-requires-clause-count : goal.note_change-requires-clause-count
note_change-requires-clause-count c =
    let step = rw c.loop-change.invariant.tape at c.in-Some.ensures.step in
    c.loop-change.invariant.count ∙ ap (λ (z : Sizes). MOST_ROWS * length z.lots) (sym step.at.same)

pub returns : goal.returns
returns c =
    let tape = c.args.tape.now in
    record {
      narrow = c.in_ok-replay.ensures.narrow;
      count = c.loop-change.invariant.count;
      parts = subst (λ (n : ℕ). AreParts (sizes_in tape) tape.changes.items n c.loop-change.tracks.items)
          (rw c.loop-change.invariant.tape at c.in_default-step.ensures.step) c.loop-change.invariant.parts;
    }

-- `stream_along`: clauses `written` and `cut` and the turns of its loop, by `told_on`, `told_all`, `sends_more`,
-- `part_behind` and `part_of_stream`.
use Rattle.std.proofs.Common.{◌≡◌, ◌+◌, ◌++◌, ◌∷◌, [], List, ℕ, take, ap, sym, subst, ◌∙◌, arith}
use Rattle.std.specs.Io.KnownBytes.{Appends}
use Rattle.std.proofs.lemmas.List.{take_more}
use Rattle.std.proofs.lemmas.Result.{on_err_weaker, on_ok_weaker}
use Rattle.nms_quote.specs.declared.change.Change.{Change}
use Rattle.nms_lines.specs.Text.{text_of}
use Rattle.nms_stream.specs.Following.{Follows}
use Rattle.nms_stream.specs.Pieces.{Sends}
use Rattle.nms_stream.specs.Stream.{lines_between}
use Rattle.nms_stream.specs.Tapes.{sizes_in}
use Rattle.nms_lines.specs.Written.{AppendsPart}
use Rattle.nms_stream.proofs.PieceFacts.{anyway_failed, last_part, last_sent, part_behind, part_of_stream, sends_more, told_all, told_on}
use Rattle.nms_stream.proofs.PieceFacts.{told_to}
use Rattle.nms_stream.proofs.streaming.stream_along.Goals as goal

pub loop-change-preserved : goal.loop-change-preserved
loop-change-preserved g c =
    let had = c.loop-change.invariant in
    let roster = c.args.tape.now.roster.now in
    let tape = c.args.tape.now.changes.items in
    let count = c.loop-change.change-index in
    let change : Change = c.change-item.result in
    let all = c.deref-change-items.ensures.value in
    let below = rw all at c.loop-change-test.true in
    let next : take (count + 1) tape ≡ take count tape ++ change ∷ [] =
    take_more tape count change below ∙ ap (λ (x : Change). take count tape ++ x ∷ []) (sym (rw all at c.change-item.is)) in
    let lines : List ℕ = text_of (lines_between roster c.args.asked.now (take count tape) (take count tape ++ change ∷ [])) in
    record {
      of = c.in_ok-advance.ensures.of;
      follows = subst (Follows (sizes_in c.args.tape.now) c.args.asked.now c.advance.new.follower) (sym next)
          (c.in_ok-advance.ensures.follows (take count tape) had.follows);
      sends = subst (λ (t : List ℕ). Sends (g.W.Write.contents c.args.writer.now) (g.W.Write.contents c.advance.new.writer) [] t
          c.advance.new.out.items) (told_on roster c.args.asked.now tape count change next)
          (sends_more (g.W.Write.contents c.args.writer.now) (g.W.Write.contents c.loop-change.writer)
          (g.W.Write.contents c.advance.new.writer) [] (told_to roster c.args.asked.now tape count) c.loop-change.out.items lines
          c.advance.new.out.items had.sends (c.in_ok-advance.ensures.sends (take count tape) had.follows));
    }

pub returns-in_err-advance-clause-cut : goal.returns-in_err-advance-clause-cut
returns-in_err-advance-clause-cut g c =
    let had = c.loop-change.invariant in
    let roster = c.args.tape.now.roster.now in
    let tape = c.args.tape.now.changes.items in
    let count = c.loop-change.change-index in
    let change : Change = c.change-item.result in
    let all = c.deref-change-items.ensures.value in
    let below = rw all at c.loop-change-test.true in
    let next : take (count + 1) tape ≡ take count tape ++ change ∷ [] =
    take_more tape count change below ∙ ap (λ (x : Change). take count tape ++ x ∷ []) (sym (rw all at c.change-item.is)) in
    let lines : List ℕ = text_of (lines_between roster c.args.asked.now (take count tape) (take count tape ++ change ∷ [])) in
    anyway_failed c.from_residual.result
    (part_of_stream (g.W.Write.contents c.args.writer.now) (g.W.Write.contents c.advance.new.writer) roster c.args.asked.now tape
    (count + 1) (omega (arith, below))
    (subst (AppendsPart (g.W.Write.contents c.args.writer.now) (g.W.Write.contents c.advance.new.writer))
    (told_on roster c.args.asked.now tape count change next)
    (part_behind (g.W.Write.contents c.args.writer.now) (g.W.Write.contents c.loop-change.writer) (g.W.Write.contents c.advance.new.writer)
    [] (told_to roster c.args.asked.now tape count) c.loop-change.out.items lines had.sends
    (c.in_err-advance.ensures.cut (take count tape) had.follows))))

pub returns-clause-written : goal.returns-clause-written
returns-clause-written g c =
    let tape = c.args.tape.now in
    let all = c.deref-change-items.ensures.value in
    on_ok_weaker c.send.result
    (λ sent. subst (Appends (g.W.Write.contents c.args.writer.now) (g.W.Write.contents c.send.new.writer))
    (told_all tape.roster.now c.args.asked.now tape.changes.items c.loop-change.change-index
    (rw all at c.loop-change.auto.change-index-end) (rw all at c.loop-change-test.false))
    (last_sent (g.W.Write.contents c.args.writer.now) (g.W.Write.contents c.loop-change.writer) (g.W.Write.contents c.send.new.writer)
    (told_to tape.roster.now c.args.asked.now tape.changes.items c.loop-change.change-index) c.loop-change.out.items
    c.loop-change.invariant.sends sent))
    c.send.ensures.sent

pub returns-clause-cut : goal.returns-clause-cut
returns-clause-cut g c =
    let tape = c.args.tape.now in
    let all = c.deref-change-items.ensures.value in
    on_err_weaker c.send.result
    (λ cut. part_of_stream (g.W.Write.contents c.args.writer.now) (g.W.Write.contents c.send.new.writer) tape.roster.now
    c.args.asked.now tape.changes.items c.loop-change.change-index (rw all at c.loop-change.auto.change-index-end)
    (last_part (g.W.Write.contents c.args.writer.now) (g.W.Write.contents c.loop-change.writer) (g.W.Write.contents c.send.new.writer)
    (told_to tape.roster.now c.args.asked.now tape.changes.items c.loop-change.change-index) c.loop-change.out.items
    c.loop-change.invariant.sends cut))
    c.send.ensures.cut

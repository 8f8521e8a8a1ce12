-- `answer_records`: clauses `answered`, `stopped` and `cut` and the turns of its loop, by `answers_all`,
-- `answers_beginning` and `comes_first`.
use Rattle.std.proofs.Common.{Bool, true, false, cond, refl, sym, arith, ◌≡◌, ◌≢◌, ◌≤◌, lit≤, ◌∙◌}
use Rattle.std.proofs.lemmas.Grind.{common_steps}
use Rattle.nms_scripts.specs.declared.TheConstants.{MOST_RECORDS}
use Rattle.nms_scripts.specs.declared.script.Progress.TheVariants as progress
use mir.Val.{bool_byte}
use Rattle.nms_scripts.proofs.ProgressFacts.{answers_all, answers_beginning, comes_first}
use Rattle.nms_scripts.proofs.script.answer_records.Goals as goal

pub loop-done-init : goal.loop-done-init
loop-done-init g c = record {
  come = λ bytes reads. comes_first g.R.Read.remaining c.args.setup.now bytes c.args.reader.now c.args.script.now.flow
      (g.W.Write.contents c.args.writer.now) reads c.requires.room c.requires.stands;
  room = c.requires.room;
  few = lit≤ tt;
  within = lit≤ tt;
}

pub returns-in-Ok-Ended-clause-answered : goal.returns-in-Ok-Ended-clause-answered
returns-in-Ok-Ended-clause-answered g c bytes reads =
    let came = c.in-Ok-Ended.ensures.came bytes (g.W.Write.contents c.args.writer.now) c.loop-done.refused
    (c.loop-done.invariant.come bytes reads) in
    let ended = rw c.in-Ok-Ended.field-0-is at came in
    answers_all c.args.setup.now bytes c.advance.new.script.flow (g.W.Write.contents c.args.writer.now)
    (g.W.Write.contents c.advance.new.writer) c.loop-done.done c.loop-done.refused c.counts.result ended.0 ended.1
    c.loop-done.invariant.within c.counts.ensures

pub returns-in-Err-clause-stopped : goal.returns-in-Err-clause-stopped
returns-in-Err-clause-stopped g c bytes reads not_write =
    let came = c.in-Err.ensures.came bytes (g.W.Write.contents c.args.writer.now) c.loop-done.refused
    (c.loop-done.invariant.come bytes reads) in
    answers_beginning c.args.setup.now bytes (g.W.Write.contents c.args.writer.now) (g.W.Write.contents c.advance.new.writer)
    c.loop-done.done c.loop-done.refused c.in-Err.fault (came.stopped not_write)

pub returns-in-Err-clause-cut : goal.returns-in-Err-clause-cut
returns-in-Err-clause-cut g c bytes reads =
    (c.in-Err.ensures.came bytes (g.W.Write.contents c.args.writer.now) c.loop-done.refused (c.loop-done.invariant.come bytes reads)).cut

byte_of : (b : Bool) → bool_byte b ≡ cond b 1 0
byte_of true = refl
byte_of false = refl

at_most_one : (b : Bool) → cond b 1 0 ≤ 1
at_most_one true = lit≤ tt
at_most_one false = lit≤ tt

answered_not_ended : (more : Bool) → progress.Answered more ≡ progress.Ended → ⊥
answered_not_ended more e = cc

pub loop-done-preserved : goal.loop-done-preserved
loop-done-preserved g c =
    let more : c.from-refused.result ≡ cond c.in-Ok-Answered.more 1 0 = c.from-refused.ensures ∙ byte_of c.in-Ok-Answered.more in
    let answered : c.in-Ok-Answered.field-0 ≡ progress.Answered c.in-Ok-Answered.more = c.in-Ok-Answered.field-0-is in
    let not_last : c.loop-done.done ≢ MOST_RECORDS =
    λ e. answered_not_ended c.in-Ok-Answered.more (sym answered ∙ c.in-Ok-Answered.ensures.most e) in
    record {
      come = λ bytes reads.
          let came = c.in-Ok-Answered.ensures.came bytes (g.W.Write.contents c.args.writer.now) c.loop-done.refused
          (c.loop-done.invariant.come bytes reads) in
          rw more (rw answered at came);
      room = c.in-Ok-Answered.ensures.room;
      few = omega (arith, more, at_most_one c.in-Ok-Answered.more, c.loop-done.invariant.few);
      within = omega (arith, not_last, c.loop-done.invariant.within);
    }

-- ---- goals that `grind` closes; the search that is tried before it takes longer

pub overflow_add-refused : goal.overflow_add-refused
overflow_add-refused g c = grind (arith, common_steps)

-- `answer_records`: its clauses and the turns of its loop, by `answers_all`, `comes_first` and `keeps_on`.
use Rattle.std.proofs.Common.{Bool, true, false, cond, refl, sym, arith, ◌≡◌, ◌≢◌, ◌≤◌, lit≤, ◌∙◌}
use mir.Val.{bool_byte}
use Rattle.nms_answers.specs.declared.TheConstants.{MOST_REQUESTS}
use Rattle.nms_answers.specs.declared.request_stream.Progress.TheVariants as progress
use Rattle.nms_answers.proofs.EpochFacts.{stays_itself, stays_on}
use Rattle.nms_answers.proofs.ProgressFacts.{answers_all, comes_first}
use Rattle.nms_answers.proofs.request_stream.answer_records.Goals as goal

pub loop-done-init : goal.loop-done-init
loop-done-init g c = record {
  come = λ bytes reads. comes_first g.R.Read.remaining c.args.setup.now bytes c.args.reader.now c.args.desk.now
      (g.W.Write.contents c.args.answers.now) reads;
  knows = stays_itself c.args.desk.now;
  sizes = c.requires.sizes;
  few = lit≤ tt;
  within = lit≤ tt;
}

pub returns-in-Ok-Ended-clause-answered : goal.returns-in-Ok-Ended-clause-answered
returns-in-Ok-Ended-clause-answered g c bytes reads =
    let came = c.in-Ok-Ended.ensures.came bytes (g.W.Write.contents c.args.answers.now) c.args.desk.now c.loop-done.refused
    (c.loop-done.invariant.come bytes reads) in
    let ended = rw c.in-Ok-Ended.field-0-is at came in
    answers_all c.args.setup.now bytes c.args.desk.now c.advance.new.desk (g.W.Write.contents c.args.answers.now)
    (g.W.Write.contents c.advance.new.answers) c.loop-done.done c.loop-done.refused _ ended.0 ended.1 ended.2 ended.3 ended.4 refl

pub returns-in-Ok-Ended-clause-knows : goal.returns-in-Ok-Ended-clause-knows
returns-in-Ok-Ended-clause-knows g c =
    stays_on c.args.desk.now c.loop-done.desk c.advance.new.desk c.loop-done.invariant.knows c.advance.ensures.knows

pub returns-in-Err-clause-stopped : goal.returns-in-Err-clause-stopped
returns-in-Err-clause-stopped g c bytes reads =
    (c.in-Err.ensures.came bytes (g.W.Write.contents c.args.answers.now) c.args.desk.now c.loop-done.refused
    (c.loop-done.invariant.come bytes reads)).stopped

pub returns-in-Err-clause-cut : goal.returns-in-Err-clause-cut
returns-in-Err-clause-cut g c bytes reads =
    (c.in-Err.ensures.came bytes (g.W.Write.contents c.args.answers.now) c.args.desk.now c.loop-done.refused
    (c.loop-done.invariant.come bytes reads)).cut

pub returns-in-Err-clause-knows : goal.returns-in-Err-clause-knows
returns-in-Err-clause-knows g c =
    stays_on c.args.desk.now c.loop-done.desk c.advance.new.desk c.loop-done.invariant.knows c.advance.ensures.knows

byte_of : (b : Bool) → bool_byte b ≡ cond b 1 0
byte_of true = refl
byte_of false = refl

at_most_one : (b : Bool) → cond b 1 0 ≤ 1
at_most_one true = lit≤ tt
at_most_one false = lit≤ tt

answered_not_ended : (more : Bool) → progress.Answered more ≡ progress.Ended → ⊥
answered_not_ended more e = cc

pub loop-done-preserved : goal.loop-done-preserved
loop-done-preserved g c =
    let more : c.from-refused.result ≡ cond c.in-Ok-Answered.more 1 0 = c.from-refused.ensures ∙ byte_of c.in-Ok-Answered.more in
    let answered : c.in-Ok-Answered.field-0 ≡ progress.Answered c.in-Ok-Answered.more = c.in-Ok-Answered.field-0-is in
    let not_last : c.loop-done.done ≢ MOST_REQUESTS =
    λ e. answered_not_ended c.in-Ok-Answered.more (sym answered ∙ c.in-Ok-Answered.ensures.most e) in
    record {
      come = λ bytes reads.
          let came = c.in-Ok-Answered.ensures.came bytes (g.W.Write.contents c.args.answers.now) c.args.desk.now c.loop-done.refused
          (c.loop-done.invariant.come bytes reads) in
          rw more (rw answered at came);
      knows = stays_on c.args.desk.now c.loop-done.desk c.advance.new.desk c.loop-done.invariant.knows c.advance.ensures.knows;
      sizes = c.advance.ensures.sizes;
      few = omega (arith, more, at_most_one c.in-Ok-Answered.more, c.loop-done.invariant.few);
      within = omega (arith, not_last, c.loop-done.invariant.within);
    }

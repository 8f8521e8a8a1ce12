-- `tally_of`: one answer more was counted, by `counted`.
use Rattle.std.proofs.Common.{ℕ, ◌≡◌, ◌+◌, ◌<◌, ◌∙◌, Bool, List, Option, ap, filter, get_or, if◌then◌else◌, length, sym, take}
use Rattle.std.proofs.lemmas.List.Filters.{length-filter_more}
use Rattle.nms_trades.specs.Counts.{is_judged, is_noquote, is_other, is_perhaps, is_through, stands}
use Rattle.nms_trades.specs.declared.finding.Finding.{Finding}
use Rattle.nms_trades.proofs.table.tally_of.Goals as goal

-- one answer more that passes a test is one more of them
counted : (test : Option Finding → Bool) (findings : List (Option Finding)) (at : ℕ) (answer : Option Finding) (was now : ℕ)
    → at < length findings → answer ≡ get_or findings at answer → was ≡ length (filter test (take at findings))
    → now ≡ was + (if test answer then 1 else 0) → now ≡ length (filter test (take (at + 1) findings))
counted test findings at answer was now below is had next =
    next ∙ ap (λ n. n + (if test answer then 1 else 0)) had
    ∙ ap (λ (it : Option Finding). length (filter test (take at findings)) + (if test it then 1 else 0)) is
    ∙ sym (length-filter_more test findings at answer below)

pub loop-answer-preserved : goal.loop-answer-preserved
loop-answer-preserved c =
    let had = c.loop-answer.invariant in
    let findings = c.args.findings.now in
    let at = c.loop-answer.answer-index in
    let answer = c.answer-item.result in
    let was = c.loop-answer.tally in
    let now = c.count_one.new.tally in
    let below = c.loop-answer-test.true in
    let is = c.answer-item.is in
    let more = c.in-Some.ensures in
    record {
      place = ap (λ n. n + 1) had.place;
      others = counted (stands is_other) findings at answer was.others now.others below is had.others more.others;
      executions = counted (stands is_judged) findings at answer was.all.executions now.all.executions below is had.executions
          more.executions;
      unquoted = counted (stands is_noquote) findings at answer was.all.unquoted now.all.unquoted below is had.unquoted more.unquoted;
      perhaps = counted (stands is_perhaps) findings at answer was.all.perhaps.executions now.all.perhaps.executions below is had.perhaps
          more.perhaps;
      through = counted (stands is_through) findings at answer was.all.through.executions now.all.through.executions below is had.through
          more.through;
    }

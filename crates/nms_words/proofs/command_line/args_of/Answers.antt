-- `args_of`: the turns of its loop, by `mapped_next` and `all_next`.
use Rattle.std.proofs.Common.{arith, ◌≡◌, false}
use Rattle.std.proofs.lemmas.Grind.{common_steps}
use Rattle.clap.specs.Words.{rule_of}
use Rattle.clap.specs.declared.builder.arg.Arg.{Arg}
use Rattle.nms_words.specs.WordTable.{rule_for}
use Rattle.nms_words.proofs.Turns.{all_next, mapped_next}
use Rattle.nms_words.proofs.command_line.args_of.Goals as goal

pub loop-word-preserved : goal.loop-word-preserved
loop-word-preserved c = record {
  rules = mapped_next rule_of rule_for c.loop-word.args.items c.push.new.self.items c.arg_of.result c.args.words.now c.loop-word.word-index _
      c.loop-word-test.true c.in_ok-push.ensures.items c.arg_of.ensures.rule c.loop-word.invariant.rules;
  local = all_next (λ (arg : Arg). arg.global ≡ false) c.loop-word.args.items c.push.new.self.items c.arg_of.result
      c.in_ok-push.ensures.items c.loop-word.invariant.local c.arg_of.ensures.local;
}

-- ---- goals that `grind` closes; the search that is tried before it takes longer

pub returns-clause-rules : goal.returns-clause-rules
returns-clause-rules c = grind (arith, common_steps)

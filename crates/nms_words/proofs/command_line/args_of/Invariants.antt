-- `args_of`: what holds in each turn of its loop.
use Rattle.std.proofs.Common.{◌≡◌, ◌++◌, false, map, drop}
use Rattle.std.specs.Prelude.{All}
use Rattle.clap.specs.Words.{rule_of}
use Rattle.nms_words.specs.WordTable.{rule_for}
use Rattle.nms_words.proofs.command_line.args_of.Given as goal

abbrev pub invariant-loop-word : goal.invariant-loop-word
invariant-loop-word l = record {
  rules : map rule_of l.args.items ++ map rule_for (drop l.word-index l.words) ≡ map rule_for l.words;
  local : All (λ arg. arg.global ≡ false) l.args.items;
}

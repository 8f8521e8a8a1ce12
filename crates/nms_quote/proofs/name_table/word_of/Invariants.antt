-- `word_of`: what holds in each turn of its loop: `digits`, `value` and `small`.
use Rattle.std.proofs.Common.{◌≡◌, ◌<◌, ◌^◌, true, take, drop}
use Rattle.std.specs.List.{list_all}
use Rattle.nms_quote.specs.Names.{number_after, is_digit}
use Rattle.nms_quote.proofs.name_table.word_of.Given as goal

-- the bytes so far are digits; the rest of them after the number makes the result
abbrev pub invariant-loop-c : goal.invariant-loop-c
invariant-loop-c l = record {
  digits : list_all is_digit (take l.c-index l.text) ≡ true;
  value : number_after l.word (drop l.c-index l.text) ≡ number_after 0 l.text;
  small : l.word < 256 ^ l.c-index;
}

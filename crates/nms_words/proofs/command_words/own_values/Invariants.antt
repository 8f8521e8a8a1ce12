-- What was read so far, and what is left to read, for the clause of `own_values`.
use Rattle.std.proofs.Common.{◌≡◌, ◌++◌, map, drop}
use Rattle.std.specs.List.{filter_map}
use Rattle.std.specs.String.{string_bytes}
use Rattle.clap.specs.Words.{found_of, rows_of}
use Rattle.nms_words.specs.WordTable.{own_value}
use Rattle.nms_words.proofs.command_words.own_values.Given as goal

abbrev pub invariant-loop-word : goal.invariant-loop-word
invariant-loop-word l =
    map string_bytes l.values.items ++ filter_map (own_value (rows_of (found_of l.matches))) (drop l.word-index l.words)
    ≡ filter_map (own_value (rows_of (found_of l.matches))) l.words

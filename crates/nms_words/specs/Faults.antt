-- The exit status of a program that a fault of its words ends: 2 for words, 5 for memory. This product's own rule.
use Rattle.std.specs.Prelude.{ℕ}
use Rattle.nms_words.specs.declared.words_fault.WordsFault.{WordsFault}
use Rattle.nms_words.specs.declared.words_fault.WordsFault.TheVariants as fault

abbrev pub status_of : WordsFault → ℕ
status_of (fault.Parser text help) = 2
status_of fault.NoMemory = 5

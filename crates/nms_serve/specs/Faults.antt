-- The exit status of a program that a fault of its words ends: 2 for words, 5 for memory. This product's own rule.
use Rattle.std.specs.Prelude.{ℕ}
use Rattle.nms_serve.specs.declared.words.words_fault.WordsFault.{WordsFault}
use Rattle.nms_serve.specs.declared.words.words_fault.WordsFault.TheVariants.{NoMemory}

abbrev pub status_of : WordsFault → ℕ
status_of NoMemory = 5
status_of _ = 2

-- A command line with one more option.
use Rattle.std.proofs.Common.{◌≡◌, ◌<◌, ◌+◌, ℕ, List, length, map, drop, fold, slice_index_or, refl, add-one, drop-cons}
use Rattle.clap.specs.Words.{App, with_rule}
use Rattle.nms_serve.specs.Options.{option_rule}
use Rattle.nms_serve.specs.declared.words.option_word.OptionWord.{OptionWord}

-- what is left of the options takes the next one first
pub next_option : (app : App) (options : List OptionWord) (i : ℕ) (option : OptionWord) → i < length options
    → fold with_rule app (map option_rule (drop i options))
    ≡ fold with_rule (with_rule app (option_rule (slice_index_or options i option))) (map option_rule (drop (i + 1) options))
next_option app options i option within = rw (add-one, drop-cons options i option within) refl

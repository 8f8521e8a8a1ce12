-- A text without the ASCII white space at its start and at its end.
use Rattle.std.specs.Prelude.{ℕ, ◌-◌, List, drop, length, take}
use Rattle.std.specs.List.{prefix_len, suffix_len}
use Rattle.std.specs.Char.{is_ascii_whitespace}

-- without the white space at its start
abbrev pub trim_start : List ℕ → List ℕ
trim_start text = drop (prefix_len is_ascii_whitespace text) text

-- without the white space at its end
abbrev pub trim_end : List ℕ → List ℕ
trim_end text = take (length text - suffix_len is_ascii_whitespace text) text

-- without either
abbrev pub trim : List ℕ → List ℕ
trim text = trim_end (trim_start text)

-- What std says of a trim fixes its result.
use Rattle.std.proofs.Common.{ℕ, List, ◌≡◌, ◌∙◌, ◌-◌, ◌≤◌, ap, arith, drop, length, sym, take}
use Rattle.std.proofs.lemmas.List.Sums.{prefix_len_is, suffix_len_is}
use Rattle.std.specs.Char.{is_ascii_whitespace}
use Rattle.std.specs.List.{suffix_len}
use Rattle.std.specs.Str.{IsTrimAsciiEnd, IsTrimAsciiStart}
use Rattle.nms_explain_toml.specs.Blanks.{trim_end, trim_start}

pub trim_start_is : (text result : List ℕ) → IsTrimAsciiStart text result → result ≡ trim_start text
trim_start_is text result is =
    let within : is.0 ≤ length text = omega (arith, is.2) in
    is.1 ∙ ap (λ n. drop n text) (sym (prefix_len_is is_ascii_whitespace text is.0 0 within is.3 is.4))

pub trim_end_is : (text result : List ℕ) → IsTrimAsciiEnd text result → result ≡ trim_end text
trim_end_is text result is =
    let left : suffix_len is_ascii_whitespace text ≡ length text - is.0 = suffix_len_is is_ascii_whitespace text is.0 0 is.3 is.4 is.5 in
    let kept : is.0 ≡ length text - suffix_len is_ascii_whitespace text = omega (arith, left, is.3) in
    is.1 ∙ ap (λ n. take n text) kept

-- A front of a line: how many bytes it has, and that it is in the text at the beginning of the line.
use Rattle.std.proofs.Common.{ℕ, List, Bool, ◌≡◌, ◌∙◌, ◌+◌, ◌-◌, ◌≤◌, ap, arith, drop, length, not, subst, take}
use Rattle.std.proofs.lemmas.List.{length-take, take-take}
use Rattle.std.proofs.lemmas.List.Folds.{length-prefix_len}
use Rattle.std.specs.Char.{is_ascii_whitespace}
use Rattle.std.specs.List.{prefix_len, suffix_len}
use Rattle.std.specs.Prelude.{count_by, slice_range}
use Rattle.nms_explain_toml.specs.Blanks.{trim_end}
use Rattle.nms_explain_toml.specs.Marking.{begins_character, column_at, is_feed, line_from}

pub take_front : (p : ℕ → Bool) (rest : List ℕ) (n : ℕ) → n ≡ length (take (prefix_len p rest) rest)
    → take n rest ≡ take (prefix_len p rest) rest
take_front p rest n is = ap (λ m. take m rest) (is ∙ length-prefix_len p rest)

front_is : (rest line : List ℕ) (a b k : ℕ) → line ≡ take a (take b rest) → k ≤ length line → take k line ≡ take k rest
front_is rest line a b k is within =
    let short : k ≤ length (take a (take b rest)) = subst (λ l. k ≤ length l) is within in
    let first : k ≤ a = omega (arith, length-take a (take b rest)) in
    let second : k ≤ b = omega (arith, length-take a (take b rest), length-take b rest) in
    ap (take k) is ∙ (take-take k a (take b rest) first ∙ take-take k b rest second)

-- the columns before a place of a line are the characters of the text from the line's start on
pub column_is : (text line : List ℕ) (begin start at : ℕ) → line ≡ trim_end (line_from text begin) → begin + at ≡ start
    → at ≤ length line → column_at line at ≡ 1 + count_by begins_character (slice_range text begin start)
column_is text line begin start at is so within =
    let front : take at line ≡ take at (drop begin text) = front_is (drop begin text) line
    (length (line_from text begin) - suffix_len is_ascii_whitespace (line_from text begin))
    (prefix_len (λ byte. not (is_feed byte)) (drop begin text)) at is within in
    let long : at ≡ start - begin = omega arith in
    ap (λ bytes. 1 + count_by begins_character bytes) (front ∙ ap (λ n. take n (drop begin text)) long)

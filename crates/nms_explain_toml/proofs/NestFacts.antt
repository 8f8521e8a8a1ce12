-- The step of a walk over a line: the first byte of what is left, then the bytes after it.
use Rattle.std.proofs.Common.{ℕ, List, ◌≡◌, ◌∙◌, ◌+◌, ◌-◌, ◌<◌, ◌≤◌, add-one}
use Rattle.std.proofs.Common.{ap, arith, drop, drop-cons, length, length-drop, refl, sym, take}
use Rattle.std.proofs.lemmas.List.{take_all}
use Rattle.nms_explain_toml.specs.declared.nest.Nest.{Nest}
use Rattle.nms_explain_toml.specs.Nesting.{after_byte, after_bytes}

-- the rest of a line, as a slice of it
pub rest_is : (line : List ℕ) (place : ℕ) → take (length line - place) (drop place line) ≡ drop place line
rest_is line place =
    let within : length (drop place line) ≤ length line - place = omega (arith, length-drop place line) in
    take_all (length line - place) (drop place line) within

pub after_step : (nest : Nest) (line : List ℕ) (place : ℕ) → place < length line
    → after_bytes nest (drop place line) ≡ after_bytes (after_byte nest (drop place line)) (drop (place + 1) line)
after_step nest line place within = rw (add-one, drop-cons line place 0) refl

pub after_more : (nest next whole : Nest) (line : List ℕ) (place : ℕ) → place < length line
    → next ≡ after_byte nest (take (length line - place) (drop place line)) → after_bytes nest (drop place line) ≡ whole
    → after_bytes next (drop (place + 1) line) ≡ whole
after_more nest next whole line place within is so =
    ap (λ n. after_bytes n (drop (place + 1) line)) (is ∙ ap (after_byte nest) (rest_is line place))
    ∙ (sym (after_step nest line place within) ∙ so)

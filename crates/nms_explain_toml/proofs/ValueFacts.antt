-- The step of a walk over a value: a byte at which it does not end, then what is left of it.
use Rattle.std.proofs.Common.{ℕ, List, false, ◌≡◌, ◌∙◌, ◌∷◌, ◌&&◌, ◌+◌, ◌-◌}
use Rattle.std.proofs.Common.{◌<◌, add-one, ap, arith, drop, drop-cons, get_or, length, suc, take}
use Rattle.std.specs.Prelude.{if◌then◌else◌}
use Rattle.nms_explain_toml.specs.declared.nest.Nest.{Nest}
use Rattle.nms_explain_toml.specs.Lines.{ends_value, is_free, value_length}
use Rattle.nms_explain_toml.specs.Nesting.{after_byte}
use Rattle.nms_explain_toml.proofs.NestFacts.{rest_is}

value_cons : (nest : Nest) (byte : ℕ) (rest : List ℕ) → (is_free nest && ends_value byte) ≡ false
    → value_length nest (byte ∷ rest) ≡ 1 + value_length (after_byte nest (byte ∷ rest)) rest
value_cons nest byte rest goes = ap (λ ends. if ends then 0 else 1 + value_length (after_byte nest (byte ∷ rest)) rest) goes

value_step : (nest : Nest) (rest : List ℕ) (place : ℕ) → place < length rest
    → (is_free nest && ends_value (get_or rest place 0)) ≡ false
    → value_length nest (drop place rest) ≡ 1 + value_length (after_byte nest (drop place rest)) (drop (place + 1) rest)
value_step nest rest place within goes =
    rw (add-one, drop-cons rest place 0) (value_cons nest (get_or rest place 0) (drop (suc place) rest) goes)

pub value_more : (nest next : Nest) (rest : List ℕ) (place whole : ℕ) → place < length rest
    → next ≡ after_byte nest (take (length rest - place) (drop place rest))
    → (is_free nest && ends_value (get_or rest place 0)) ≡ false
    → place + value_length nest (drop place rest) ≡ whole
    → (place + 1) + value_length next (drop (place + 1) rest) ≡ whole
value_more nest next rest place whole within is goes so =
    let same : value_length next (drop (place + 1) rest)
    ≡ value_length (after_byte nest (drop place rest)) (drop (place + 1) rest) =
    ap (λ n. value_length n (drop (place + 1) rest)) (is ∙ ap (after_byte nest) (rest_is rest place)) in
    let step : value_length nest (drop place rest)
    ≡ 1 + value_length (after_byte nest (drop place rest)) (drop (place + 1) rest) =
    value_step nest rest place within goes in
    omega arith

-- What a desk knows from one look to the next.
use Rattle.std.proofs.Common.{◌≡◌, ◌++◌, List, [], ◌∷◌, ap, sym, ◌∙◌, append_assoc}
use Rattle.nms_quote.specs.Tape.{Tape}
use Rattle.nms_versions.specs.Taped.{Knowing}
use Rattle.nms_answers.specs.Told.{KeepsKnown, Looks}

-- a desk that did not look
pub keeps_itself : (old new : Knowing) → new ≡ old → KeepsKnown old new
keeps_itself old new same = record {
  opening = ap (λ (k : Knowing). k.opening) same;
  sizes = ap (λ (k : Knowing). k.sizes) same;
  known = ([], ap (λ (k : Knowing). k.known) same);
}

-- a desk that looked once
pub keeps_looking : (old new : Knowing) (version : Tape) → Looks old new version → KeepsKnown old new
keeps_looking old new version looks = record {
  opening = ap (λ (k : Knowing). k.opening) looks.1;
  sizes = ap (λ (k : Knowing). k.sizes) looks.1;
  known = (version ∷ [], ap (λ (k : Knowing). k.known) looks.1);
}

-- and one that went on
pub keeps_on : (first old new : Knowing) → KeepsKnown first old → KeepsKnown old new → KeepsKnown first new
keeps_on first old new one other = record {
  opening = other.opening ∙ one.opening;
  sizes = other.sizes ∙ one.sizes;
  known = (
    other.known.0 ++ one.known.0,
    other.known.1 ∙ ap (λ (k : List Tape). other.known.0 ++ k) one.known.1 ∙ sym (append_assoc other.known.0 one.known.0 first.known),
  );
}

-- What was written of a text that is written in pieces, or of a text that was written in part.
use Rattle.std.proofs.Common.{ℕ, ◌≡◌, ◌++◌, List, Option, ap, subst, ◌∙◌, append_assoc}
use Rattle.std.specs.Prelude.{Err, Ok, OnErr, Result}
use Rattle.std.specs.Io.KnownBytes.{Appends}
use Rattle.nms_lines.specs.Written.{AppendsPart}

-- a prefix of a text is one of a longer text
pub longer : (old new : Option (List ℕ)) (text more : List ℕ) → AppendsPart old new text → AppendsPart old new (text ++ more)
longer old new text more cut = record {
  part = cut.part;
  rest = cut.rest ++ more;
  split = ap (λ (t : List ℕ). t ++ more) cut.split ∙ append_assoc cut.part cut.rest more;
  written = cut.written;
}

-- what was written of a text was written of an equal one
pub same_all : (old new : Option (List ℕ)) (text same : List ℕ) → text ≡ same → Appends old new text → Appends old new same
same_all old new text same is written = subst (Appends old new) is written

pub same_part : (old new : Option (List ℕ)) (text same : List ℕ) → text ≡ same → AppendsPart old new text → AppendsPart old new same
same_part old new text same is cut = subst (AppendsPart old new) is cut

-- what holds always holds at a failure
pub at_failure : {X E P : Type 0} (result : Result X E) → P → OnErr result P
at_failure (Ok x) p = tt
at_failure (Err e) p = p

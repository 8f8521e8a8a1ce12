-- Texts written in turn.
use Rattle.std.proofs.Common.{ℕ, ◌≡◌, ◌++◌, List, [], Option, Some, None, ap, refl, sym, subst, ◌∙◌, append_assoc}
use Rattle.std.proofs.Common.{◌+◌, ◌≤◌, ◌-◌, length, take, drop, length-drop, length-take, arith}
use Rattle.std.specs.Prelude.{Err, Ok, OnOk, Result}
use Rattle.std.specs.Result.{IsErr}
use Rattle.std.specs.Io.KnownBytes.{Appends}
use Rattle.std.proofs.lemmas.List.{append-nil}
use Rattle.nms_lines.proofs.Offered.{part_more}
use Rattle.nms_show.specs.Safe.{IsPrintable, IsSafe}
use Rattle.nms_show.specs.Written.{Adds, AddsPart, Writes}
use Rattle.nms_show.proofs.SafeFacts.{join_printable, join_safe, safe_printable}

-- one append, and then another
both_appended : (x y z : Option (List ℕ)) (a b : List ℕ) → Appends x y a → Appends y z b → Appends x z (a ++ b)
both_appended None y z a b first next = tt
both_appended (Some x) None z a b first next = absurd first
both_appended (Some x) (Some y) None a b first next = absurd next
both_appended (Some x) (Some y) (Some z) a b first next = next ∙ ap (λ (t : List ℕ). t ++ b) first ∙ append_assoc x a b

none_appended : (x : Option (List ℕ)) → Appends x x []
none_appended None = tt
none_appended (Some x) = sym (append-nil x)

-- nothing was added
pub adds_none : (IsKind : List ℕ → Type 0) (x : Option (List ℕ)) → IsKind [] → Adds IsKind x x
adds_none IsKind x empty = record { text = []; kind = empty; written = none_appended x }

module _ (IsKind : List ℕ → Type 0) (join : (a b : List ℕ) → IsKind a → IsKind b → IsKind (a ++ b)) where
  -- one text after another
  adds_then : (x y z : Option (List ℕ)) → Adds IsKind x y → Adds IsKind y z → Adds IsKind x z
  adds_then x y z first next = record {
    text = first.text ++ next.text;
    kind = join first.text next.text first.kind next.kind;
    written = both_appended x y z first.text next.text first.written next.written;
  }

  part_then : (x y z : Option (List ℕ)) → Adds IsKind x y → AddsPart IsKind y z → AddsPart IsKind x z
  part_then x y z first next = record {
    text = first.text ++ next.text;
    kind = join first.text next.text first.kind next.kind;
    cut = part_more x y z first.text next.text first.written next.cut;
  }

  writes_then : {T E : Type 0} (r : Result T E) (x y z : Option (List ℕ)) → Adds IsKind x y → Writes IsKind y z r → Writes IsKind x z r
  writes_then (Ok t) x y z first next = adds_then x y z first next
  writes_then (Err e) x y z first next = part_then x y z first next

-- a call ends with the failure of a call that it made
pub writes_err : {T E : Type 0} (IsKind : List ℕ → Type 0) (x y : Option (List ℕ)) (r : Result T E) → IsErr r → AddsPart IsKind x y
    → Writes IsKind x y r
writes_err IsKind x y (Ok t) is part = absurd (cc)
writes_err IsKind x y (Err e) is part = part

-- a call that writes nothing and fails
pub adds_no_part : (IsKind : List ℕ → Type 0) (x : Option (List ℕ)) → IsKind [] → AddsPart IsKind x x
adds_no_part IsKind x empty =
    record { text = []; kind = empty; cut = record { part = []; rest = []; split = refl; written = none_appended x } }

-- printable text in turn
pub printable_then : (x y z : Option (List ℕ)) → Adds IsPrintable x y → Adds IsPrintable y z → Adds IsPrintable x z
printable_then = adds_then IsPrintable join_printable

pub printable_part : (x y z : Option (List ℕ)) → Adds IsPrintable x y → AddsPart IsPrintable y z → AddsPart IsPrintable x z
printable_part = part_then IsPrintable join_printable

pub printable_writes : {T E : Type 0} (r : Result T E) (x y z : Option (List ℕ)) → Adds IsPrintable x y → Writes IsPrintable y z r
    → Writes IsPrintable x z r
printable_writes = writes_then IsPrintable join_printable

-- safe text in turn
pub safe_then : (x y z : Option (List ℕ)) → Adds IsSafe x y → Adds IsSafe y z → Adds IsSafe x z
safe_then = adds_then IsSafe join_safe

pub safe_part : (x y z : Option (List ℕ)) → Adds IsSafe x y → AddsPart IsSafe y z → AddsPart IsSafe x z
safe_part = part_then IsSafe join_safe

pub safe_writes : {T E : Type 0} (r : Result T E) (x y z : Option (List ℕ)) → Adds IsSafe x y → Writes IsSafe y z r → Writes IsSafe x z r
safe_writes = writes_then IsSafe join_safe

-- printable text is safe
pub safe_adds : (x y : Option (List ℕ)) → Adds IsPrintable x y → Adds IsSafe x y
safe_adds x y more = record { text = more.text; kind = safe_printable more.text more.kind; written = more.written }

pub safe_adds_part : (x y : Option (List ℕ)) → AddsPart IsPrintable x y → AddsPart IsSafe x y
safe_adds_part x y more = record { text = more.text; kind = safe_printable more.text more.kind; cut = more.cut }

pub safe_text : {T E : Type 0} (r : Result T E) (x y : Option (List ℕ)) → Writes IsPrintable x y r → Writes IsSafe x y r
safe_text (Ok t) x y more = safe_adds x y more
safe_text (Err e) x y more = safe_adds_part x y more

-- what holds of a call that succeeded, by what came before it
pub printable_ok : {T E : Type 0} (r : Result T E) (x y z : Option (List ℕ)) → Adds IsPrintable x y → OnOk r (Adds IsPrintable y z)
    → OnOk r (Adds IsPrintable x z)
printable_ok (Ok t) x y z first next = printable_then x y z first next
printable_ok (Err e) x y z first next = tt

-- text after no text
pub whole_text : (e x : List ℕ) → e ≡ [] → Adds IsSafe (Some e) (Some x) → IsSafe x
whole_text e x empty all = subst IsSafe (sym (all.written ∙ ap (λ (t : List ℕ). t ++ all.text) empty)) all.kind

-- a piece of what is left ends within the text
pub piece_within : (at taken : ℕ) (bytes : List ℕ) → at ≤ length bytes → taken ≤ length (take (length bytes - at) (drop at bytes))
    → at + taken ≤ length bytes
piece_within at taken bytes low high = omega (arith, low, high, length-take (length bytes - at) (drop at bytes), length-drop at bytes)

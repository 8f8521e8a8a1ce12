-- What is shown of an import: names of symbols are printable, and what the writer took of a line is safe.
use Rattle.std.proofs.Common.{ℕ, ◌≡◌, true, List, [], ◌∷◌, Option, refl, arith}
use Rattle.std.specs.Prelude.{Err, Ok, Result}
use Rattle.std.specs.Int.{is_in_range}
use Rattle.std.specs.List.{list_all}
use Rattle.std.proofs.lemmas.Bool.Decides.{nat_tests}
use Rattle.nms_quote.specs.Roster.{is_symbol_char, is_symbol_name}
use Rattle.nms_show.specs.Plain.{is_plain}
use Rattle.nms_show.specs.Safe.{IsSafe}
use Rattle.nms_show.specs.Written.{AddsPart, Writes}
use Rattle.nms_show.proofs.Offered.{both_true, whole_part}

-- whatever came of a call, the writer has a prefix of a safe text
pub shown_part : {T E : Type 0} (r : Result T E) (x y : Option (List ℕ)) → Writes IsSafe x y r → AddsPart IsSafe x y
shown_part (Ok t) x y more = whole_part x y more
shown_part (Err e) x y more = more

char_shown : (c : ℕ) → is_symbol_char c ≡ true → is_in_range 32 126 c ≡ true
char_shown c is = grind (arith, nat_tests)

chars_shown : (name : List ℕ) → list_all is_symbol_char name ≡ true → is_plain name ≡ true
chars_shown [] is = refl
chars_shown (c ∷ name) is =
    let parts = both_true (is_symbol_char c) (list_all is_symbol_char name) is in
    rw (char_shown c parts.0) (chars_shown name parts.1)

-- the name of a symbol is printable ASCII
pub symbol_shown : (name : List ℕ) → is_symbol_name name ≡ true → is_plain name ≡ true
symbol_shown name is = chars_shown name (both_true _ (list_all is_symbol_char name) is).1

-- No byte of a page's data is `<`.
use Rattle.std.proofs.Common.{◌≡◌, ◌==◌, ◌++◌, ℕ, List, [], ◌∷◌, Bool, true, false, ap, not, refl, ◌&&◌}
use Rattle.std.specs.List.{list_all}
use Rattle.std.proofs.lemmas.List.Folds.{list_all-append}
use Rattle.nms_drawing.specs.Texts.{data_byte, data_text, is_no_less}

by_case : (byte : ℕ) (is : Bool) → (byte == 60) ≡ is → list_all is_no_less (data_byte byte) ≡ true
by_case byte true same = rw same refl
by_case byte false same = rw same (ap (λ (b : Bool). not b && true) same)

pub no_less : (json : List ℕ) → list_all is_no_less (data_text json) ≡ true
no_less [] = refl
no_less (byte ∷ rest) = rw (list_all-append is_no_less (data_byte byte) (data_text rest), by_case byte (byte == 60) refl, no_less rest) refl

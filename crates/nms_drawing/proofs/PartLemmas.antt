-- A text that is appended in parts.
use Rattle.std.proofs.Common.{◌≡◌, ◌++◌, ℕ, List, ap, ◌∙◌}
use Rattle.std.proofs.lemmas.List.{append_assoc}
use Rattle.nms_drawing.specs.Page.{page_text}
use Rattle.nms_drawing.specs.Texts.{data_text}
use Rattle.nms_drawing.specs.declared.page_text.TheConstants.{HEAD, MIDDLE, TAIL}

pub two_parts : (out a b first last : List ℕ) → first ≡ out ++ a → last ≡ first ++ b → last ≡ out ++ (a ++ b)
two_parts out a b first last one two = two ∙ ap (λ (ds : List ℕ). ds ++ b) one ∙ append_assoc out a b

pub three_parts : (out a b c first second last : List ℕ) → first ≡ out ++ a → second ≡ first ++ b → last ≡ second ++ c
    → last ≡ out ++ (a ++ b ++ c)
three_parts out a b c first second last one two three = two_parts out (a ++ b) c second last (two_parts out a b first second one two) three

pub four_parts : (out a b c d first second third last : List ℕ) → first ≡ out ++ a → second ≡ first ++ b → third ≡ second ++ c
    → last ≡ third ++ d → last ≡ out ++ (a ++ b ++ c ++ d)
four_parts out a b c d first second third last one two three four =
    two_parts out (a ++ b ++ c) d third last (three_parts out a b c first second third one two three) four

pub six_parts : (out a b c d e f first second third fourth fifth last : List ℕ) → first ≡ out ++ a → second ≡ first ++ b → third ≡ second ++ c
    → fourth ≡ third ++ d → fifth ≡ fourth ++ e → last ≡ fifth ++ f → last ≡ out ++ (a ++ b ++ c ++ d ++ e ++ f)
six_parts out a b c d e f first second third fourth fifth last one two three four five six =
    two_parts out (a ++ b ++ c ++ d ++ e) f fifth last
    (two_parts out (a ++ b ++ c ++ d) e fourth fifth (four_parts out a b c d first second third fourth one two three four) five) six

-- the five parts of a page
pub page_parts : (head report middle json tail : List ℕ) → head ≡ HEAD.now → middle ≡ MIDDLE.now → tail ≡ TAIL.now
    → head ++ report ++ middle ++ data_text json ++ tail ≡ page_text report json
unfolding page_text
page_parts head report middle json tail one two three =
    ap (λ (text : List ℕ). text ++ report ++ middle ++ data_text json ++ tail) one
    ∙ ap (λ (text : List ℕ). HEAD.now ++ report ++ text ++ data_text json ++ tail) two
    ∙ ap (λ (text : List ℕ). HEAD.now ++ report ++ MIDDLE.now ++ data_text json ++ text) three

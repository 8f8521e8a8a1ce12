-- The record of each change is one line: its text has one line feed, at its end.
use Rattle.std.proofs.Common.{ℕ, suc, ◌≡◌, ◌+◌, ◌==◌, Bool, true, false, List, [], ◌∷◌, ◌++◌, Option, Some, None}
use Rattle.std.proofs.Common.{refl, ap, subst, ◌∙◌, arith, append_assoc, length}
use Rattle.std.proofs.lemmas.Bool.{eqb-true}
use Rattle.std.specs.Prelude.{codes}
use Rattle.std.specs.List.{join_with_byte}
use Rattle.csv.specs.Writing.{default_writer, needs_byte, needs_quotes}
use Rattle.nms_quote.specs.Content.{Content}
use Rattle.nms_quote.specs.Roster.{Listing}
use Rattle.nms_quote.specs.declared.change.Change.{Change}
use Rattle.nms_quote.specs.declared.change.Change.TheVariants as change
use Rattle.nms_quote.specs.declared.side_quote.QState.{QState}
use Rattle.nms_quote.specs.declared.side_quote.QState.TheVariants.{Automated, Manual, Halted}
use Rattle.nms_lines.specs.Layout.{Record}
use Rattle.nms_lines.proofs.Offered.{ArePlain, IsNamed, plain_decimal, plain_nil, plain_part, plain_price, plain_symbol, word}
use Rattle.nms_change_text.specs.ChangeText.{change_record, changes_text, side_fields, state_letter}
use Rattle.nms_serving.specs.Resuming.{after_lines, lines_begun}
use Rattle.nms_serving.proofs.LineFacts.{IsUnbroken, after_line, begun_line, both_unbroken, neither}

-- ---- what needs no quote has no line feed

other_byte : (c : ℕ) → needs_byte default_writer c ≡ false → (c == 10) ≡ false
other_byte c plain = either (c == 10) refl
  where
    either : (b : Bool) → (c == 10) ≡ b → (c == 10) ≡ false
    either false is = is
    either true is =
        let bad : true ≡ false = subst (λ (n : ℕ). needs_byte default_writer n ≡ false) (eqb-true c 10 is) plain in
        absurd (cc)

pub unbroken : (text : List ℕ) → needs_quotes default_writer text ≡ false → IsUnbroken text
unbroken [] plain = record { none = refl }
unbroken (c ∷ text) plain =
    let parts = neither (needs_byte default_writer c) (needs_quotes default_writer text) plain in
    let behind : IsUnbroken text = unbroken text parts.1 in
    record { none = rw (other_byte c parts.0, behind.none) refl }

joined : (fields : Record) → ArePlain fields → IsUnbroken (join_with_byte 44 fields)
joined [] plain = record { none = refl }
joined (field ∷ []) plain = unbroken field plain.0.none
joined (field ∷ next ∷ rest) plain =
    let behind : IsUnbroken (join_with_byte 44 (next ∷ rest)) = joined (next ∷ rest) plain.1 in
    both_unbroken field (44 ∷ join_with_byte 44 (next ∷ rest)) (unbroken field plain.0.none) (record { none = behind.none })

-- ---- the fields of a change need no quote

state_plain : (state : QState) → needs_quotes default_writer (state_letter state) ≡ false
state_plain Automated = refl
state_plain Manual = refl
state_plain Halted = refl

sides_plain : (bid offer : Option Content) → ArePlain (side_fields bid ++ side_fields offer)
sides_plain None None = (plain_nil, (plain_nil, (plain_nil, (plain_nil, tt))))
sides_plain None (Some offer) = (plain_nil, (plain_nil, (plain_price offer.price, (plain_decimal offer.shares, tt))))
sides_plain (Some bid) None = (plain_price bid.price, (plain_decimal bid.shares, (plain_nil, (plain_nil, tt))))
sides_plain (Some bid) (Some offer) =
    (plain_price bid.price, (plain_decimal bid.shares, (plain_price offer.price, (plain_decimal offer.shares, tt))))

change_plain : (roster : Listing) → IsNamed roster → (said : Change) → ArePlain (change_record roster said)
change_plain roster named (change.Quote part symbol state bid offer) = (
  word (codes "Q") refl,
  (plain_part roster named part, (plain_symbol roster named symbol, (word (state_letter state) (state_plain state), sides_plain bid offer))),
)
change_plain roster named (change.State part symbol state) =
    (word (codes "S") refl, (plain_part roster named part, (plain_symbol roster named symbol, (word (state_letter state) (state_plain state), tt))))
change_plain roster named (change.Withdraw part) = (word (codes "X") refl, (plain_part roster named part, tt))
change_plain roster named (change.Lot symbol lot) = (word (codes "R") refl, (plain_symbol roster named symbol, (plain_decimal lot, tt)))

-- ---- so the text of changes has a line for each

first_line : (roster : Listing) (said : Change) (changes : List Change) (behind : List ℕ)
    → changes_text roster (said ∷ changes) ++ behind
    ≡ join_with_byte 44 (change_record roster said) ++ 10 ∷ (changes_text roster changes ++ behind)
first_line roster said changes behind =
    append_assoc (join_with_byte 44 (change_record roster said) ++ 10 ∷ []) (changes_text roster changes) behind
    ∙ append_assoc (join_with_byte 44 (change_record roster said)) (10 ∷ []) (changes_text roster changes ++ behind)

pub after_changes : (roster : Listing) → IsNamed roster → (changes : List Change) (behind : List ℕ)
    → after_lines (length changes) (changes_text roster changes ++ behind) ≡ Some behind
after_changes roster named [] behind = refl
after_changes roster named (said ∷ changes) behind =
    ap (after_lines (suc (length changes))) (first_line roster said changes behind)
    ∙ after_line (join_with_byte 44 (change_record roster said)) (changes_text roster changes ++ behind) (length changes)
    (joined (change_record roster said) (change_plain roster named said))
    ∙ after_changes roster named changes behind

pub begun_changes : (roster : Listing) → IsNamed roster → (changes : List Change)
    → lines_begun true (changes_text roster changes) ≡ length changes
begun_changes roster named [] = refl
begun_changes roster named (said ∷ changes) =
    ap (lines_begun true) (append_assoc (join_with_byte 44 (change_record roster said)) (10 ∷ []) (changes_text roster changes))
    ∙ begun_line true (join_with_byte 44 (change_record roster said)) (changes_text roster changes)
    (joined (change_record roster said) (change_plain roster named said))
    ∙ omega (arith, begun_changes roster named changes)

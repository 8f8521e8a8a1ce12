-- What an order's names change: nothing if there are none, and only the quotations of each.
use Rattle.std.proofs.Common.{◌≡◌, ℕ, ◌==◌, Bool, true, false, ◌||◌, not, List, refl, ap, sym, ◌∙◌, map}
use Rattle.std.specs.List.{filter}
use Rattle.std.proofs.lemmas.Bool.{and_parts, eq-eqb, ne_eqb, not-true, or_left}
use Rattle.nms_quote.specs.Members.{has_part, nobody}
use Rattle.nms_quote.specs.Terms.{Terms}
use Rattle.nms_quote.specs.declared.plan.Leg.{Leg}
use Rattle.nms_quote.proofs.Offered.{has-nobody, has-with}
use Rattle.nms_board.specs.declared.row.Row.{Row}
use Rattle.nms_rules.specs.Laws.{LawfulPlansPassOverTheNamed, NamingNobodyChangesNothing}
use Rattle.nms_rules.specs.Laws.{NamingOneLeavesTheOthers, is_usable_by_state, naming}
use Rattle.nms_rules.specs.Usable.{contra_rows, is_allowed, is_named, is_usable, usable, usable_row}
use Rattle.nms_rules.proofs.LawfulLemmas.{passes-serves, served}
use Rattle.nms_rules.proofs.MemberLemmas.{All-In}
use Rattle.nms_rules.proofs.NoneLemmas.{passes-none}

-- ---- no participant is named

unnamed : (order : Terms) → order.self_help ≡ nobody → (row : Row) → is_named order row ≡ false
unnamed order none row = ap (λ set. has_part set row.part) none ∙ has-nobody row.part

usable-unnamed : (order : Terms) → order.self_help ≡ nobody → (row : Row) → is_usable order row ≡ is_usable_by_state order row
usable-unnamed order none row = rw (unnamed order none row) refl

filter-alike : (p q : Row → Bool) → ((row : Row) → p row ≡ q row) → (rows : List Row) → filter p rows ≡ filter q rows
filter-alike p q alike rows = ap (λ (test : Row → Bool). filter test rows) (λ i row. alike row i)

pub nobody_named : NamingNobodyChangesNothing
nobody_named seen order fees none = record {
  usable = ap (map (usable_row order fees))
      (filter-alike (is_usable order) (is_usable_by_state order) (usable-unnamed order none) (contra_rows order.side seen));
  binding = λ row. rw (unnamed order none row) refl;
}

-- ---- one more is named

named_more : (order : Terms) (part : ℕ) (row : Row) → is_named (naming order part) row ≡ (row.part == part || is_named order row)
named_more order part row = has-with order.self_help part row.part

named_own : (order : Terms) (part : ℕ) (row : Row) → row.part ≡ part → is_named (naming order part) row ≡ true
named_own order part row same = named_more order part row ∙ or_left (row.part == part) (is_named order row) (eq-eqb row.part part same)

named_other : (order : Terms) (part : ℕ) (row : Row) → (row.part ≡ part → ⊥) → is_named (naming order part) row ≡ is_named order row
named_other order part row differ = named_more order part row ∙ rw (ne_eqb row.part part differ) refl

pub one_more_named : NamingOneLeavesTheOthers
one_more_named order part row = record {
  own = λ same. (rw (named_own order part row same) refl, rw (named_own order part row same) refl);
  other = λ differ. (rw (named_other order part row differ) refl, rw (named_other order part row differ) refl);
}

-- ---- a lawful plan

allowed_unnamed : (order : Terms) (row : Row) → is_allowed order row ≡ true → is_named order row ≡ false
allowed_unnamed order row allowed = not-true (is_named order row) (and_parts (not (is_named order row)) (row.protected
    || order.manual) allowed).0

pub passed_over : LawfulPlansPassOverTheNamed
passed_over seen order fees plan none =
    let passes = passes-none seen order fees plan none in
    let legs : List Leg = plan.legs.items in
    All-In (λ leg. has_part order.self_help leg.part ≡ false) legs (λ leg within.
    let row = passes-serves seen order fees plan passes leg within in
    ap (has_part order.self_help) (sym (served seen order leg row.0 row.1).1) ∙ allowed_unnamed order row.0 row.1.allowed)

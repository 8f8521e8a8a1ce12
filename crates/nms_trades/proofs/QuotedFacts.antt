-- The first quotation of each symbol, as the changes are gone over.
use Rattle.std.proofs.Common.{ℕ, zero, suc, ◌≡◌, ◌≤◌, ◌<◌, ◌+◌, ◌-◌, ◌&&◌, ◌||◌, ◌⊎◌, ◌∙◌, Bool, true, false, List, Option, None, Some}
use Rattle.std.proofs.Common.{nat_le, nat_lt, not}
use Rattle.std.proofs.Common.{if◌then◌else◌, ap, arith, get_or, inl, inr, length, refl, replicate, slice_get, subst}
use Rattle.std.proofs.Common.{sym, take}
use Rattle.std.specs.List.{list_any}
use Rattle.std.proofs.lemmas.Bool.{cases_lt, false≢true, le-leb, le-ltb, lt-leb, lt-ltb}
use Rattle.std.proofs.lemmas.List.Folds.{list_any_kept, list_any_more}
use Rattle.std.proofs.lemmas.List.{get_or-replicate, length-replicate}
use Rattle.std.proofs.lemmas.Option.{get_or_from_slice_get, none-some, same_Some, slice_get_within}
use Rattle.nms_quote.specs.Tape.{Tape}
use Rattle.nms_quote.specs.declared.change.Change.{Change}
use Rattle.nms_quote.specs.Roster.{Sizes}
use Rattle.nms_trades.specs.Found.{answer_in, standing_in}
use Rattle.nms_trades.specs.Quoted.{AreFirsts, IsFirst, IsNotedFirst, answered_as, is_quotation, is_unquoted}
use Rattle.nms_trades.specs.declared.execution.Execution.{Execution}
use Rattle.nms_trades.specs.declared.standing.Standing.{Standing}
use Rattle.nms_trades.specs.declared.standing.Standing.TheVariants as standing

not_or : (a b : Bool) → not (a || b) ≡ (not a && not b)
not_or true b = refl
not_or false b = refl

-- with one more change a symbol is unquoted if it was, and the change is no quotation of it
unquoted_more : (tape : Tape) (symbol k : ℕ) (change : Change) → k < length tape → change ≡ get_or tape k change
    → is_unquoted tape symbol (k + 1) ≡ (is_unquoted tape symbol k && not (is_quotation symbol change))
unquoted_more tape symbol k change below is =
    ap not (list_any_more (is_quotation symbol) tape k change below
    ∙ ap (λ (it : Change). list_any (is_quotation symbol) (take k tape) || is_quotation symbol it) (sym is))
    ∙ not_or (list_any (is_quotation symbol) (take k tape)) (is_quotation symbol change)

and_true : (b : Bool) → (b && true) ≡ b
and_true true = refl
and_true false = refl

and_false : (b : Bool) → (b && false) ≡ false
and_false true = refl
and_false false = refl

-- where the place of a symbol's first quotation is, before the changes at some places are seen: below these, or past all
abbrev pub IsPlaced : (tape : Tape) (k first : ℕ) → Type 0
IsPlaced tape k first = (first < k) ⊎ (first ≡ length tape)

-- a change that is no quotation of the symbol
first_stays : (tape : Tape) (symbol k first : ℕ) → is_unquoted tape symbol (k + 1) ≡ (is_unquoted tape symbol k && true)
    → IsPlaced tape k first → k < length tape → IsFirst tape symbol k first → IsFirst tape symbol (k + 1) first
first_stays tape symbol k first step placed below had n within = elim (cases_lt n (k + 1)) [
  | inl earlier ↦ had n (omega (arith, earlier))
  | inr last ↦
      let at : n ≡ k + 1 = omega (arith, last, within) in
      let own : is_unquoted tape symbol n ≡ nat_le k first =
      ap (is_unquoted tape symbol) at ∙ step ∙ and_true (is_unquoted tape symbol k) ∙ had k (omega arith) in
      own ∙ elim placed [
        | inl less ↦ lt-leb k first less ∙ sym (lt-leb n first (omega (arith, less, at)))
        | inr all ↦ le-leb k first (omega (arith, all, below)) ∙ sym (le-leb n first (omega (arith, all, below, at)))
      ]
]

-- a quotation after another one
first_later : (tape : Tape) (symbol k first : ℕ) → is_unquoted tape symbol (k + 1) ≡ (is_unquoted tape symbol k && false)
    → first < k → IsFirst tape symbol k first → IsFirst tape symbol (k + 1) first
first_later tape symbol k first step less had n within = elim (cases_lt n (k + 1)) [
  | inl earlier ↦ had n (omega (arith, earlier))
  | inr last ↦
      let at : n ≡ k + 1 = omega (arith, last, within) in
      ap (is_unquoted tape symbol) at ∙ step ∙ and_false (is_unquoted tape symbol k) ∙ sym (lt-leb n first (omega (arith, less, at)))
]

-- the first quotation
first_comes : (tape : Tape) (symbol k first : ℕ) → is_unquoted tape symbol (k + 1) ≡ (is_unquoted tape symbol k && false)
    → k < first → IsFirst tape symbol k first → IsFirst tape symbol (k + 1) k
first_comes tape symbol k first step more had n within = elim (cases_lt n (k + 1)) [
  | inl earlier ↦
      had n (omega (arith, earlier)) ∙ le-leb n first (omega (arith, earlier, more)) ∙ sym (le-leb n k (omega (arith, earlier)))
  | inr last ↦
      let at : n ≡ k + 1 = omega (arith, last, within) in
      ap (is_unquoted tape symbol) at ∙ step ∙ and_false (is_unquoted tape symbol k) ∙ sym (lt-leb n k (omega (arith, at)))
]

-- with one more change, of a symbol
pub first_more : (tape : Tape) (symbol k first now : ℕ) (quotation : Bool)
    → is_unquoted tape symbol (k + 1) ≡ (is_unquoted tape symbol k && not quotation) → IsPlaced tape k first → k < length tape
    → now ≡ (if quotation && nat_lt k first then k else first) → IsFirst tape symbol k first
    → IsFirst tape symbol (k + 1) now × IsPlaced tape (k + 1) now
first_more tape symbol k first now false step placed below is had = (
  subst (IsFirst tape symbol (k + 1)) (sym is) (first_stays tape symbol k first step placed below had),
  subst (IsPlaced tape (k + 1)) (sym is) (elim placed [
    | inl less ↦ inl (omega (arith, less))
    | inr all ↦ inr all
  ]),
)
first_more tape symbol k first now true step placed below is had = elim (cases_lt k first) [
  | inl more ↦
      let own : now ≡ k = is ∙ ap (λ b. if b then k else first) (lt-ltb k first more) in (
        subst (IsFirst tape symbol (k + 1)) (sym own) (first_comes tape symbol k first step more had),
        inl (omega (arith, own)),
      )
  | inr less ↦
      let own : now ≡ first = is ∙ ap (λ b. if b then k else first) (le-ltb k first less) in
      let apart : first < k = elim placed [
        | inl before ↦ before
        | inr all ↦ absurd (omega (arith, all, below, less))
      ] in (
        subst (IsFirst tape symbol (k + 1)) (sym own) (first_later tape symbol k first step apart had),
        inl (omega (arith, own, apart)),
      )
]

-- the first quotations of all symbols, and where they are
pub record Firsts (tape : Tape) (upto : ℕ) (firsts : List ℕ) : Type 0 where
  pub are : AreFirsts tape upto firsts
  pub placed : (symbol first : ℕ) → slice_get firsts symbol ≡ Some first → IsPlaced tape upto first

one_symbol : (tape : Tape) (symbol k now : ℕ) (change : Change) (was after : Option ℕ) → k < length tape
    → change ≡ get_or tape k change → IsNotedFirst (is_quotation symbol change) k was after → after ≡ Some now
    → ((first : ℕ) → was ≡ Some first → IsFirst tape symbol k first × IsPlaced tape k first)
    → IsFirst tape symbol (k + 1) now × IsPlaced tape (k + 1) now
one_symbol tape symbol k now change None after below is noted at had = absurd (none-some now (sym noted ∙ at))
one_symbol tape symbol k now change (Some first) after below is noted at had =
    let own : now ≡ (if is_quotation symbol change && nat_lt k first then k else first) =
    same_Some _ _ (sym at ∙ noted) in
    first_more tape symbol k first now (is_quotation symbol change) (unquoted_more tape symbol k change below is) (had first refl).1 below
    own (had first refl).0

-- with one more change
pub firsts_more : (tape : Tape) (k : ℕ) (change : Change) (old new : List ℕ) → k < length tape → change ≡ get_or tape k change
    → ((symbol : ℕ) → IsNotedFirst (is_quotation symbol change) k (slice_get old symbol) (slice_get new symbol))
    → Firsts tape k old → Firsts tape (k + 1) new
firsts_more tape k change old new below is each had =
    let one : (symbol now : ℕ) → slice_get new symbol ≡ Some now → IsFirst tape symbol (k + 1) now × IsPlaced tape (k + 1) now =
    λ symbol now at. one_symbol tape symbol k now change (slice_get old symbol) (slice_get new symbol) below is (each symbol) at
    (λ first was. (had.are symbol first was, had.placed symbol first was)) in
    record {
      are = λ symbol now at. (one symbol now at).0;
      placed = λ symbol now at. (one symbol now at).1;
    }

-- after all changes
pub firsts_all : (tape : Tape) (k : ℕ) (firsts : List ℕ) → length tape ≤ k → Firsts tape k firsts → AreFirsts tape (length tape) firsts
firsts_all tape k firsts end had symbol first at n within = had.are symbol first at n (omega (arith, within, end))

-- before any change
pub no_firsts : (tape : Tape) (count : ℕ) (firsts : List ℕ) → firsts ≡ replicate count (length tape) → Firsts tape 0 firsts
no_firsts tape count firsts is = record {
  are = λ symbol first at n within.
      let none : n ≡ 0 = omega (arith, within) in
      ap (is_unquoted tape symbol) none ∙ sym (le-leb n first (omega (arith, none)));
  placed = λ symbol first at.
      let own : slice_get (replicate count (length tape)) symbol ≡ Some first = ap (λ xs. slice_get xs symbol) (sym is) ∙ at in
      let below : symbol < length (replicate count (length tape)) = slice_get_within (replicate count (length tape)) symbol first own in
      inr (sym (get_or_from_slice_get (replicate count (length tape)) symbol first 0 own)
      ∙ get_or-replicate count symbol (length tape) 0 (omega (arith, below, length-replicate count (length tape))));
}

-- a symbol that was quoted stays so
pub quoted_stays : (tape : Tape) (symbol n : ℕ) → is_unquoted tape symbol n ≡ false → is_unquoted tape symbol (n + 1) ≡ false
quoted_stays tape symbol n was =
    let had : list_any (is_quotation symbol) (take n tape) ≡ true = not_false (list_any (is_quotation symbol) (take n tape)) was in
    ap not (list_any_kept (is_quotation symbol) tape n had)
  where
    not_false : (b : Bool) → not b ≡ false → b ≡ true
    not_false true is = refl
    not_false false is = absurd (false≢true (sym is))

quoted_later : (tape : Tape) (symbol n k : ℕ) → is_unquoted tape symbol n ≡ false → is_unquoted tape symbol (n + k) ≡ false
quoted_later tape symbol n zero was = ap (is_unquoted tape symbol) (omega arith) ∙ was
quoted_later tape symbol n (suc k) was =
    ap (is_unquoted tape symbol) (omega arith) ∙ quoted_stays tape symbol (n + k) (quoted_later tape symbol n k was)

-- in each later version
pub quoted_from : (tape : Tape) (symbol first n : ℕ) → is_unquoted tape symbol first ≡ false → first ≤ n
    → is_unquoted tape symbol n ≡ false
quoted_from tape symbol first n was order =
    ap (is_unquoted tape symbol) (omega (arith, order)) ∙ quoted_later tape symbol first (n - first) was

-- what is answered as clean was quoted
pub clean_quoted : (other unquoted : Bool) (found : Standing) → answered_as other unquoted found ≡ standing.Clean → unquoted ≡ false
clean_quoted true unquoted found is = absurd (cc)
clean_quoted false false found is = refl
clean_quoted false true standing.Clean is = absurd (cc)
clean_quoted false true standing.Unquoted is = absurd (cc)
clean_quoted false true standing.Perhaps is = absurd (cc)
clean_quoted false true standing.Through is = absurd (cc)
clean_quoted false true standing.Other is = absurd (cc)

-- the answer of an execution, by the number that is noted of its symbol
pub answered_by : (sizes : Sizes) (tape : Tape) (execution : Execution) (firsts : List ℕ) (first : ℕ) (found : Standing)
    → AreFirsts tape (length tape) firsts → slice_get firsts execution.sym ≡ Some first → execution.first ≤ length tape
    → found ≡ standing_in sizes tape execution
    → answered_as execution.other (nat_le execution.first first) found ≡ answer_in sizes tape execution
answered_by sizes tape execution firsts first found are at within is =
    ap (λ b. answered_as execution.other b found) (sym (are execution.sym first at execution.first within))
    ∙ ap (answered_as execution.other (is_unquoted tape execution.sym execution.first)) is

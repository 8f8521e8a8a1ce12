-- `Desk::look_with`: clause `shown`, the call of `enter_as` and the invariant of what it leaves, by `all_begin`,
-- `prefix_shorter`, `remembers_longer` and `reads`.
use Rattle.std.proofs.Common.{◌≡◌, ◌∷◌, length, map, ap, sym, subst, ◌∙◌, refl, arith, Option, Some, IfSome, option_and_then}
use Rattle.std.proofs.lemmas.Grind.{common_steps}
use mathlib.Core.List.{IsPrefix}
use Rattle.logbook.specs.Pages.{Book}
use Rattle.nms_quote.specs.Tape.{Tape}
use Rattle.nms_board.specs.Cells.{StandsFor}
use Rattle.nms_versions.specs.Published.{Batches, changes}
use Rattle.nms_versions.specs.Rule.{IsNamed, IsOf, sizes_shown}
use Rattle.nms_versions.specs.Taped.{AllBegin, Knowing}
use Rattle.nms_versions.specs.declared.known.Known.{Known}
use Rattle.nms_versions.proofs.BatchLemmas.{all_begin, prefix_shorter, remembers_longer}
use Rattle.nms_versions.proofs.RuleLemmas.{reads}
use Rattle.nms_versions.proofs.desk.Desk.look_with.Given.{Over}
use Rattle.nms_versions.proofs.desk.Desk.look_with.Goals as goal

at_some : {A : Type 0} (P : A → Type 0) (o : Option A) (x : A) → o ≡ Some x → IfSome o P → P x
at_some P o x is h = subst (λ z. IfSome z P) is h

then_some : {A B : Type 0} (f : A → Option B) (o : Option A) (x : A) → o ≡ Some x → option_and_then f o ≡ f x
then_some f o x is = ap (option_and_then f) is

pub enter_as-requires : goal.enter_as-requires
enter_as-requires g c = reads _ _

-- what the reader knows of the opening
named : (g : Over) (c : goal.After-drop-both-2 g) → IsNamed c.unwrap-reader.result.place.me.0.client c.self.inside.newest.book
named g c = at_some _ c.self.inside.reader c.unwrap-reader.result (sym c.take.ensures.value ∙ c.unwrap-reader.ensures) c.self.invariant.1

-- the board that is shown is of that opening
of_opening : (g : Over) (c : goal.After-drop-both-2 g) → IsOf c.get-sealed.result.now c.unwrap-reader.result.place.me.0.client
of_opening g c = rw c.get-sealed.ensures c.in-Ok.ensures.1.2

-- and is the board of the history that came with it
stands : (g : Over) (c : goal.After-drop-both-2 g) → StandsFor c.get-sealed.result.now.boards (changes c.again-seen.result.log)
stands g c = rw (c.again-seen.ensures, c.get-sealed.ensures) c.in-Ok.ensures.1.1

counted : (g : Over) (c : goal.After-drop-both-2 g) → c.applied-version.result ≡ length (changes c.again-seen.result.log)
counted g c = c.applied-version.ensures.count ∙ (stands g c).applied

-- what the desk knew begins it
begins : (g : Over) (c : goal.After-drop-both-2 g) → IsPrefix c.self.inside.newest.log c.again-seen.result.log
begins g c =
    let knew : IsPrefix c.self.inside.newest.log c.learn.new.self.log =
    subst (λ (l : Batches). IsPrefix l c.learn.new.self.log) (ap (λ s. s.log) c.again-both.ensures) c.learn.ensures.2 in
    prefix_shorter c.self.inside.newest.log c.again-seen.result.log c.learn.new.self.log knew c.learn.ensures.3
    c.learn.ensures.4.1.none_empty
    (omega (arith, counted g c, c.self.invariant.2.counted, c.if-version-self.false))

same_book : (g : Over) (c : goal.After-drop-both-2 g) → c.again-seen.result.book ≡ c.self.inside.newest.book
same_book g c = ap (λ s. s.book) c.again-seen.ensures ∙ sym ((of_opening g c).book (named g c).named (named g c).is_named) ∙ (named g c).book_is

-- the reader that came back knows what it knew
knows : (g : Over) (c : goal.After-drop-both-2 g) → c.leave-2.result.place.me.0.client ≡ c.unwrap-reader.result.place.me.0.client
knows g c = c.leave-2.ensures.1 ∙ c.in-Ok.ensures.1.0

pub invariant_of-self-2 : goal.invariant_of-self-2
invariant_of-self-2 g c = (
  refl,
  subst (λ (k : Known). IsNamed k c.again-seen.result.book) (sym (knows g c))
      (subst (λ (b : Book). IsNamed c.unwrap-reader.result.place.me.0.client b) (sym (same_book g c)) (named g c)),
  rw (c.with.ensures, c.again.ensures) (remembers_longer _ _ _ _ _ c.self.invariant.2 (begins g c) (counted g c)
      (omega (arith, c.if-version-self.false))),
)

-- the board is of the desk's roster
sizes : (g : Over) (c : goal.After-drop-both-2 g)
    → c.get-sealed.result.now.boards.sizes ≡ sizes_shown c.unwrap-reader.result.place.me.0.client.opening
sizes g c = sym ((of_opening g c).sizes (named g c).named (named g c).is_named) ∙ sym (ap sizes_shown (named g c).is_named)

pub returns-clause-shown : goal.returns-clause-shown
returns-clause-shown g c =
    let version : Tape = changes c.again-seen.result.log in
    let before : record {
      opening = c.self.inside.newest.book;
      sizes = sizes_shown c.unwrap-reader.result.place.me.0.client.opening;
      known = map changes c.self.inside.memory;
    } ≡ c.args.self.now =
    ap (λ o. record { opening = c.self.inside.newest.book; sizes = sizes_shown o; known = map changes c.self.inside.memory })
    (sym (then_some _ c.self.inside.reader c.unwrap-reader.result (sym c.take.ensures.value ∙ c.unwrap-reader.ensures)))
    ∙ c.self.view_is in
    let known : map changes c.with.result ≡ version ∷ map changes c.self.inside.memory = ap (map changes) c.with.ensures
    ∙ ap (λ s. changes s.log ∷ map changes c.self.inside.memory) c.again.ensures in
    let after : Knowing = record {
      opening = c.again-seen.result.book;
      sizes = sizes_shown c.leave-2.result.place.me.0.client.opening;
      known = map changes c.with.result;
    } in
    let now : after ≡ record {
      opening = c.self.inside.newest.book;
      sizes = sizes_shown c.unwrap-reader.result.place.me.0.client.opening;
      known = version ∷ map changes c.self.inside.memory;
    } =
    λ i. record { opening = same_book g c i; sizes = sizes_shown (knows g c i).opening; known = known i } in (
      c.get-sealed.result.now.boards,
      version,
      record {
        stands = stands g c;
        sizes = sizes g c ∙ ap (λ (k : Knowing). k.sizes) before;
        begins = subst (λ (k : Knowing). AllBegin version k.known) before (all_begin _ _ _ c.self.invariant.2.begin (begins g c));
        knows = now ∙ ap (λ (k : Knowing). record { opening = k.opening; sizes = k.sizes; known = version ∷ k.known }) before;
      },
      c.see-sight.ensures,
    )

-- ---- goals that `grind` closes; the search that is tried before it takes longer

pub learn-requires : goal.learn-requires
learn-requires g c = grind (arith, common_steps)

pub returns-in-Err-clause-unchanged : goal.returns-in-Err-clause-unchanged
returns-in-Err-clause-unchanged g c = grind (arith, common_steps)

pub returns-then-version-self-clause-unchanged : goal.returns-then-version-self-clause-unchanged
returns-then-version-self-clause-unchanged g c = grind (arith, common_steps)

pub invariant_of-self : goal.invariant_of-self
invariant_of-self g c = grind (arith, common_steps)

pub invariant_of-self-then-version-self : goal.invariant_of-self-then-version-self
invariant_of-self-then-version-self g c = grind (arith, common_steps)

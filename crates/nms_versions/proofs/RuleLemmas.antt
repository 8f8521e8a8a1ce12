-- Each step over the pair of boards keeps its rule.
use Rattle.std.proofs.Common.{ℕ, ◌≡◌, [], ◌∷◌, ◌++◌, refl, ap, sym, ◌∙◌, subst, set, length, fold, arith, Ok, Err, Result, Some, ⊎_elim, ◌≢◌}
use Rattle.std.proofs.lemmas.Option.{none-some, same_Some}
use mathlib.Core.Option.{some}
use lib.ListN.{get_elem?}
use Rattle.crossbeam_utils.specs.Register.{Admits, Forks, Merges, Turns, TurnsAt}
use Rattle.atomic_table.proofs.Lists.{at_set, at_snoc, set_again}
use Rattle.std.specs.Result.{IfOk}
use Rattle.logbook.specs.Pages.{Book}
use Rattle.nms_quote.specs.Roster.{Sizes}
use Rattle.nms_board.specs.Cells.{Board, StandsFor}
use Rattle.nms_versions.specs.Fresh.{items_of}
use Rattle.nms_versions.specs.Published.{changes}
use Rattle.nms_versions.specs.Publishing.{Follows}
use Rattle.nms_versions.specs.Rule.{IsNamed, IsOf, Kept, Names, absorbed, after_taken, sizes_known, sizes_shown, unnamed}
use Rattle.std.specs.declared.snapshot.Snapshot.{Snapshot}
use Rattle.nms_versions.specs.declared.batch.Batch.{Batch}
use Rattle.nms_versions.specs.declared.known.Known.{Known}
use Rattle.nms_versions.specs.declared.sealed.Sealed.{Sealed}
use Rattle.nms_versions.proofs.PublishLemmas.{changes-push, sizes_taken, takes_batch}

-- a reader takes what is shown, and knows what it knew
pub reads : (seat : ℕ) (known : Known) → Turns Kept seat known (λ shown. shown) (λ before shown same after. (after ≡ before)
    × StandsFor shown.boards (changes shown.seen.log) × IsOf shown before)
reads seat known shown views kept at = (
  known,
  subst (Kept shown) (sym (set_again views seat known at)) kept,
  (refl, kept.stands, kept.each seat known at),
)

-- the writer shows the board with one more batch
pub shows : (seat : ℕ) (known : Known) (sealed next : Sealed) (batch : Batch) → Follows sealed batch → next ≡ absorbed sealed batch
    → TurnsAt Kept seat known sealed next (λ before old new after. after ≡ before)
shows seat known sealed next batch f is views kept at =
    let tape : changes batch.seen.log ≡ changes sealed.seen.log ++ items_of batch.changes = ap changes f.log
    ∙ changes-push sealed.seen.log (items_of batch.changes) in
    let took = takes_batch (items_of batch.changes) sealed.boards (changes sealed.seen.log) kept.stands f.held
    (omega (arith, ap length tape, f.room)) in
    let now : Kept (absorbed sealed batch) views = record {
      stands = subst (StandsFor (absorbed sealed batch).boards) (sym tape) took;
      each = λ j other there. record {
        book = λ named e. (kept.each j other there).book named e ∙ sym f.book;
        sizes = λ named e. (kept.each j other there).sizes named e ∙ sym (sizes_taken (items_of batch.changes) sealed.boards);
      };
    } in (
      known,
      subst (λ (z : Sealed). Kept z (set views seat known)) (sym is)
          (subst (Kept (absorbed sealed batch)) (sym (set_again views seat known at)) now),
      refl,
    )

-- a shown board is of nothing that is known
knows_nothing : (shown : Sealed) → IsOf shown unnamed
knows_nothing shown = record { book = λ named e. absurd (none-some named e); sizes = λ named e. absurd (none-some named e) }

-- the writer shows a board with nothing more on it, and knows its opening from then on
pub names : (seat : ℕ) (known : Known) (sealed next : Sealed) (batch : Batch) → items_of batch.changes ≡ [] → batch.seen ≡ sealed.seen
    → next ≡ absorbed sealed batch
    → TurnsAt Kept seat known sealed next Names
names seat known sealed next batch nothing seen is views kept at =
    let same : next ≡ sealed = is ∙ (λ i. record { boards = fold after_taken sealed.boards (nothing i); seen = seen i }) in
    let shot : Snapshot Sealed = record { marker = record {}; value = sealed } in
    let mine : Known = record { opening = Some shot } in
    let of_mine : IsOf sealed mine = record {
      book = λ named e. ap (λ (s : Snapshot Sealed). s.value.seen.book) (sym (same_Some _ _ e));
      sizes = λ named e. ap (λ (s : Snapshot Sealed). s.value.boards.sizes) (sym (same_Some _ _ e));
    } in
    let now : Kept sealed (set views seat mine) = record {
      stands = kept.stands;
      each = λ other there found. ⊎_elim (λ (here : (other ≡ seat) × (mine ≡ there)). subst (IsOf sealed) here.1 of_mine)
          (λ (old : (other ≢ seat) × (get_elem? views other ≡ some there)). kept.each other there old.1)
          (at_set views seat other mine there found);
    } in (
      mine,
      subst (λ (z : Sealed). Kept z (set views seat mine)) (sym same) now,
      (shot, refl, ap (λ (z : Sealed). z.seen.book) (sym same), ap (λ (z : Sealed). z.boards.sizes) (sym same)),
    )

-- if the pair still shows what it showed before, what is read of that is unchanged
pub shown_as : {W E X : Type 0} (result : Result W E) (shown : W → Sealed) (read : Sealed → X) (before : Sealed) (x : X)
    → read before ≡ x → IfOk result (λ w. shown w ≡ before) → IfOk result (λ w. read (shown w) ≡ x)
shown_as (Ok w) shown read before x is same = ap read same ∙ is
shown_as (Err fault) shown read before x is same = tt

-- if the pair still shows what it showed before, and names its opening, that is the opening of what it shows
pub named_by : {W E : Type 0} (result : Result W E) (shown : W → Sealed) (known : W → Known) (before : Sealed) (book : Book)
    → before.seen.book ≡ book → IfOk result (λ w. shown w ≡ before) → IfOk result (λ w. Names unnamed before (shown w) (known w))
    → IfOk result (λ w. IsNamed (known w) book)
named_by (Ok w) shown known before book of_book same (named, is_named, book_is, sizes) = record {
  named = named;
  is_named = is_named;
  book_is = book_is ∙ ap (λ (z : Sealed). z.seen.book) same ∙ of_book;
}
named_by (Err fault) shown known before book of_book same names = tt

-- so the sizes that are known are those of what it shows
pub sizes_by : {W E : Type 0} (result : Result W E) (shown : W → Sealed) (known : W → Known) (before : Sealed) (sizes : Sizes)
    → before.boards.sizes ≡ sizes → IfOk result (λ w. shown w ≡ before) → IfOk result (λ w. Names unnamed before (shown w) (known w))
    → IfOk result (λ w. sizes_known (known w) ≡ sizes)
sizes_by (Ok w) shown known before sizes of_sizes same (named, is_named, book, sizes_are) =
    ap sizes_shown is_named ∙ sizes_are ∙ ap (λ (z : Sealed). z.boards.sizes) same ∙ of_sizes
sizes_by (Err fault) shown known before sizes of_sizes same names = tt

-- a new reader knows nothing
pub admits : Admits Kept unnamed
admits shown views kept = record {
  stands = kept.stands;
  each = λ seat known at. ⊎_elim (λ old. kept.each seat known old) (λ new. subst (IsOf shown) new (knows_nothing shown))
      (at_snoc views unnamed known seat at);
}

-- an empty board with an empty history keeps the rule while nothing is known
pub kept_first : (sealed : Sealed) → StandsFor sealed.boards [] → sealed.seen.log ≡ [] → Kept sealed (unnamed ∷ [])
kept_first sealed stands empty = admits sealed [] (record {
  stands = rw empty stands;
  each = λ seat known at. absurd (cc);
})

-- the writer passes on what it knows
pub tells : (seat : ℕ) (known : Known) → Forks Kept seat known known known
tells seat known shown views kept at = record {
  stands = kept.stands;
  each = λ other there found. ⊎_elim (λ old. kept.each other there
      (subst (λ l. get_elem? l other ≡ some there) (set_again views seat known at) old))
      (λ new. subst (IsOf shown) new (kept.each seat known at)) (at_snoc (set views seat known) known there other found);
}

-- a reader learns what the writer knows
pub learns : (seat : ℕ) (known : Known) (other : ℕ) (told : Known) → Merges Kept seat known other told told unnamed
learns seat known other told shown views kept at apart there =
    let theirs : get_elem? views other ≡ some told =
    ⊎_elim (λ (same : (other ≡ seat) × (told ≡ told)). absurd (apart same.0))
    (λ (old : (other ≢ seat) × (get_elem? views other ≡ some told)). old.1) (at_set views seat other told told there) in
    record {
      stands = kept.stands;
      each = λ j u found. ⊎_elim (λ (spent : (j ≡ other) × (unnamed ≡ u)). subst (IsOf shown) spent.1 (knows_nothing shown))
          (λ (left : (j ≢ other) × (get_elem? (set views seat told) j ≡ some u)).
          ⊎_elim (λ (mine : (j ≡ seat) × (told ≡ u)). subst (IsOf shown) mine.1 (kept.each other told theirs))
          (λ (old : (j ≢ seat) × (get_elem? views j ≡ some u)). kept.each j u old.1) (at_set views seat j told u left.1))
          (at_set (set views seat told) other j unnamed u found);
    }

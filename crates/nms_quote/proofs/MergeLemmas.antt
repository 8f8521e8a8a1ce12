-- What follows from marks and from merges.
use Rattle.std.proofs.Common.{ℕ, ◌≡◌, suc, ◌+◌, true, false, List, [], ◌∷◌, ◌++◌, length, refl, sym, ap, ◌∙◌, arith, if◌then◌else◌}
use Rattle.std.specs.Prelude.{slice_get, Some}
use Rattle.std.proofs.lemmas.Bool.{eq-eqb, eqb-true}
use Rattle.std.proofs.lemmas.List.{append-nil}
use Rattle.std.proofs.lemmas.Option.{same_Some}
use Rattle.nms_quote.specs.Merge.{feeds, is_same_feed, of_feed, place_of}
use Rattle.nms_quote.specs.declared.change.Change.{Change}
use Rattle.nms_quote.specs.declared.feed.Feed.{Feed}
use Rattle.nms_quote.specs.declared.feed.Feed.TheVariants as feed
use Rattle.nms_quote.specs.declared.marked.Marked.{Marked}

-- the feed at a feed's place is that feed
pub feeds-at_place : (f : Feed) → slice_get feeds (place_of f) ≡ Some f
feeds-at_place feed.A = refl
feeds-at_place feed.B = refl
feeds-at_place feed.C = refl
feeds-at_place feed.D = refl
feeds-at_place feed.E = refl
feeds-at_place feed.F = refl
feeds-at_place feed.G = refl
feeds-at_place feed.H = refl

pub same_feed-self : (f : Feed) → is_same_feed f f ≡ true
same_feed-self f = eq-eqb (place_of f) (place_of f) refl

-- if the test says so, two feeds are one
pub same_feed-one : (f g : Feed) → is_same_feed f g ≡ true → f ≡ g
same_feed-one f g same =
    let places : place_of f ≡ place_of g = eqb-true (place_of f) (place_of g) same in
    same_Some _ _ (sym (feeds-at_place f) ∙ ap (slice_get feeds) places ∙ feeds-at_place g)

-- two lists one after the other bear a feed's mark on what each of them bears it
pub of_feed-append : (f : Feed) (xs ys : List Marked) → of_feed f (xs ++ ys) ≡ of_feed f xs ++ of_feed f ys
unfolding of_feed
of_feed-append f [] ys = refl
of_feed-append f (x ∷ xs) ys =
    elim (is_same_feed f x.feed) as (λ b. (if b then x.change ∷ of_feed f (xs ++ ys) else of_feed f (xs ++ ys)) ≡
    (if b then x.change ∷ of_feed f xs else of_feed f xs) ++ of_feed f ys) [
      | true ↦ ap (λ l. x.change ∷ l) (of_feed-append f xs ys)
      | false ↦ of_feed-append f xs ys
    ]

-- a feed's own change comes last
pub of_feed-mine : (f : Feed) (xs : List Marked) (m : Marked) → is_same_feed f m.feed ≡ true
    → of_feed f (xs ++ m ∷ []) ≡ of_feed f xs ++ m.change ∷ []
unfolding of_feed
of_feed-mine f xs m same = of_feed-append f xs (m ∷ []) ∙ ap (λ b. of_feed f xs ++ (if b then m.change ∷ [] else [])) same

-- another feed's change leaves the list as it is
pub of_feed-other : (f : Feed) (xs : List Marked) (m : Marked) → is_same_feed f m.feed ≡ false → of_feed f (xs ++ m ∷ []) ≡ of_feed f xs
unfolding of_feed
of_feed-other f xs m other = of_feed-append f xs (m ∷ []) ∙ ap (λ b. of_feed f xs ++ (if b then m.change ∷ [] else [])) other
    ∙ append-nil (of_feed f xs)

-- the lengths of the lists together, one list for each feed
abbrev pub total : (Feed → List Change) → List Feed → ℕ
total lists [] = 0
total lists (f ∷ fs) = length (lists f) + total lists fs

-- one more in the list of one feed
total-more : (g : Feed) (c : Change) (lists : Feed → List Change)
    → total (λ f. if is_same_feed f g then c ∷ lists f else lists f) feeds ≡ suc (total lists feeds)
total-more feed.A c lists = omega arith
total-more feed.B c lists = omega arith
total-more feed.C c lists = omega arith
total-more feed.D c lists = omega arith
total-more feed.E c lists = omega arith
total-more feed.F c lists = omega arith
total-more feed.G c lists = omega arith
total-more feed.H c lists = omega arith

-- each change bears the mark of one feed
pub of_feed-total : (xs : List Marked) → length xs ≡ total (λ f. of_feed f xs) feeds
unfolding of_feed
of_feed-total [] = refl
of_feed-total (x ∷ xs) = ap suc (of_feed-total xs) ∙ sym (total-more x.feed x.change (λ f. of_feed f xs))

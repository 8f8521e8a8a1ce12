-- How a keeper's tape, its board and its published version belong together.
use Rattle.std.proofs.Common.{ℕ, ◌≡◌, ◌⊎◌, Bool, true, false, inl, inr, ◌+◌, ◌<◌, ◌≤◌}
use Rattle.std.proofs.Common.{◌++◌, List, [], ◌∷◌, Option, Some, None, length, take, drop, fold}
use Rattle.std.proofs.Common.{refl, sym, ap, subst, ◌∙◌, arith, length-append, append_assoc}
use Rattle.std.proofs.KnownBytes.{Appends-nil}
use Rattle.std.proofs.lemmas.List.{append-nil, take_more}
use Rattle.std.proofs.lemmas.List.Sums.{fold-append}
use Rattle.std.proofs.lemmas.Bool.{cases_lt, lt-ltb}
use Rattle.std.specs.Prelude.{get_or, nat_lt, ◌&&◌}
use Rattle.std.specs.Io.KnownBytes.{Appends}
use Rattle.nms_quote.specs.Roster.{Listing, Sizes, holds}
use Rattle.nms_quote.specs.declared.TheConstants.{MOST_CHANGES}
use Rattle.nms_quote.specs.declared.change.Change.{Change}
use Rattle.nms_board.specs.Cells.{Board, after, opening, takes}
use Rattle.nms_change_text.specs.ChangeText.{changes_text}
use Rattle.nms_lines.specs.Written.{AppendsPart}
use Rattle.nms_opening.specs.Alike.{ShowAlike}
use Rattle.nms_opening.specs.Opening.{Opens}
use Rattle.nms_serving.specs.Keeping.{IsRefused, Keeping, with_change}
use Rattle.nms_serving.specs.Lengths.{length_line, opening_lines}
use Rattle.nms_versions.specs.Published.{changes, committed}
use Rattle.nms_versions.specs.Taped.{Taped, tape_of}

-- no more were published than were appended
pub published_within : (taped : Taped) → length (changes taped.published) ≤ length (tape_of taped)
published_within taped = omega (arith, length-append (changes taped.published) taped.pending)

-- the board of a tape that was just opened
pub stands_empty : (sizes : Sizes) (taped : Taped) (board : Board) → board ≡ opening sizes → tape_of taped ≡ []
    → board ≡ fold after (opening sizes) (tape_of taped)
stands_empty sizes taped board is none = rw none is

-- one more change was appended, and applied to the board
pub stands_on : (taped later : Taped) (board new : Board) (change : Change) → board ≡ fold after (opening taped.sizes) (tape_of taped)
    → later ≡ record taped { pending = taped.pending ++ change ∷ [] } → new ≡ after board change
    → new ≡ fold after (opening later.sizes) (tape_of later)
stands_on taped later board new change stood is moved =
    let more : fold after (opening taped.sizes) (changes taped.published ++ (taped.pending ++ change ∷ [])) ≡ after board change =
    ap (fold after (opening taped.sizes)) (sym (append_assoc (changes taped.published) taped.pending (change ∷ [])))
    ∙ fold-append after (opening taped.sizes) (tape_of taped) (change ∷ [])
    ∙ ap (λ (b : Board). after b change) (sym stood) in
    rw is (moved ∙ sym more)

pub sized_on : (taped later : Taped) (board new : Board) (change : Change) → board.sizes ≡ taped.sizes
    → later ≡ record taped { pending = taped.pending ++ change ∷ [] } → new ≡ after board change → new.sizes ≡ later.sizes
sized_on taped later board new change sized is moved = ap (λ (b : Board). b.sizes) moved ∙ sized ∙ sym (ap (λ (t : Taped). t.sizes) is)

-- the tape is the same after a publishing
whole_tape : (taped later : Taped) → later ≡ record taped { published = committed taped.published taped.pending; pending = [] }
    → changes later.published ≡ tape_of taped → tape_of later ≡ tape_of taped
whole_tape taped later is whole =
    ap (λ (p : List Change). changes later.published ++ p) (ap (λ (t : Taped). t.pending) is) ∙ append-nil (changes later.published) ∙ whole

pub stands_still : (taped later : Taped) (board : Board) → board ≡ fold after (opening taped.sizes) (tape_of taped)
    → later ≡ record taped { published = committed taped.published taped.pending; pending = [] }
    → changes later.published ≡ tape_of taped → board ≡ fold after (opening later.sizes) (tape_of later)
stands_still taped later board stood is whole =
    let sizes : later.sizes ≡ taped.sizes = ap (λ (t : Taped). t.sizes) is in
    rw (sizes, whole_tape taped later is whole) stood

-- the tape grows, and a publishing takes nothing from it
pub longer_appended : (taped later : Taped) (change : Change) → later ≡ record taped { pending = taped.pending ++ change ∷ [] }
    → length (tape_of taped) ≤ length (tape_of later)
longer_appended taped later change is =
    rw is (omega (
      arith,
      length-append (changes taped.published) taped.pending,
      length-append (changes taped.published) (taped.pending ++ change ∷ []),
      length-append taped.pending (change ∷ []),
    ))

pub as_long_published : (taped later : Taped)
    → later ≡ record taped { published = committed taped.published taped.pending; pending = [] }
    → changes later.published ≡ tape_of taped → length (tape_of later) ≡ length (tape_of taped)
as_long_published taped later is whole = ap length (whole_tape taped later is whole)

-- an empty tape has nothing published, and nothing waits
empty_parts : (one other : List Change) → one ++ other ≡ [] → (one ≡ []) × (other ≡ [])
empty_parts [] other none = (refl, none)
empty_parts (x ∷ one) other none = absurd (cc)

pub none_published : (taped : Taped) → tape_of taped ≡ [] → changes taped.published ≡ []
none_published taped none = (empty_parts (changes taped.published) taped.pending none).0

pub none_waiting : (taped : Taped) → tape_of taped ≡ [] → changes taped.published ≡ tape_of taped
none_waiting taped none = none_published taped none ∙ sym none

-- nothing was written
pub appends_nothing : (known : Option (List ℕ)) (roster : Listing) (more : List Change) → more ≡ []
    → Appends known known (changes_text roster more)
appends_nothing None roster more none = tt
appends_nothing (Some bytes) roster more none = rw none (sym (append-nil bytes))

-- none or all of a text is a prefix of it
pub no_part : (known : Option (List ℕ)) (text : List ℕ) → AppendsPart known known text
no_part known text = record { part = []; rest = text; split = refl; written = Appends-nil known }

pub whole_part : (before after : Option (List ℕ)) (text : List ℕ) → Appends before after text → AppendsPart before after text
whole_part before after text all = record { part = text; rest = []; split = sym (append-nil text); written = all }

-- what a failed writing leaves: it failed at the tape, or at the lengths
pub leaves_first : (tape written lengths listed : Option (List ℕ)) (text line : List ℕ) → AppendsPart tape written text → listed ≡ lengths
    → (AppendsPart tape written text × Appends lengths listed []) ⊎ (Appends tape written text × AppendsPart lengths listed line)
leaves_first tape written lengths listed text line part same =
    inl (part, subst (λ (l : Option (List ℕ)). Appends lengths l []) (sym same) (Appends-nil lengths))

-- changes appended to an empty tape are the tape
pub taken_whole : (taped later : Taped) (more : List Change) → tape_of taped ≡ []
    → later ≡ record taped { pending = taped.pending ++ more } → tape_of later ≡ more
taken_whole taped later more none is =
    let parts = empty_parts (changes taped.published) taped.pending none in
    rw is (ap (λ (p : List Change). p ++ (taped.pending ++ more)) parts.0 ∙ ap (λ (p : List Change). p ++ more) parts.1)

pub some_waiting : (taped later : Taped) (more : List Change) (published : ℕ) → tape_of taped ≡ []
    → later ≡ record taped { pending = taped.pending ++ more } → published ≡ 0 → 0 < length more
    → published < length (tape_of later)
some_waiting taped later more published none is zero some = omega (arith, zero, ap length (taken_whole taped later more none is), some)

-- and what is written of them is all of them
pub recorded_whole : (taped later : Taped) (more : List Change) (published : ℕ) (roster : Listing) (before after : Option (List ℕ))
    → tape_of taped ≡ [] → later ≡ record taped { pending = taped.pending ++ more } → published ≡ 0
    → Appends before after (changes_text roster (drop published (tape_of later))) → Appends before after (changes_text roster more)
recorded_whole taped later more published roster before after none is zero written =
    let text : drop published (tape_of later) ≡ more =
    ap (λ (n : ℕ). drop n (tape_of later)) zero ∙ taken_whole taped later more none is in
    subst (λ (l : List Change). Appends before after (changes_text roster l)) text written

-- what is written of the lengths: nothing of none, and else one line
pub lists_nothing : (known : Option (List ℕ)) (more : List Change) → more ≡ [] → Appends known known (opening_lines more)
lists_nothing None more none = tt
lists_nothing (Some bytes) more none = rw none (sym (append-nil bytes))

lines_of_some : (more : List Change) → 0 < length more → length_line (length more) ≡ opening_lines more
lines_of_some [] some = absurd (omega (arith, some))
lines_of_some (change ∷ more) some = refl

pub listed_whole : (taped later : Taped) (more : List Change) (before after : Option (List ℕ)) → tape_of taped ≡ []
    → later ≡ record taped { pending = taped.pending ++ more } → 0 < length more
    → Appends before after (length_line (length (tape_of later))) → Appends before after (opening_lines more)
listed_whole taped later more before after none is some written =
    let line : length_line (length (tape_of later)) ≡ opening_lines more =
    ap (λ (l : List Change). length_line (length l)) (taken_whole taped later more none is) ∙ lines_of_some more some in
    subst (λ (l : List ℕ). Appends before after l) line written

-- the board of a tape that took the opening changes of another board shows the same
pub opens_alike : (board next : Board) (taped : Taped) (first : List Change) → Opens board first → tape_of taped ≡ first
    → taped.sizes ≡ board.sizes → next ≡ fold after (opening taped.sizes) (tape_of taped)
    → (sym_ : ℕ) → sym_ < length board.sizes.lots → ShowAlike board next sym_
opens_alike board next taped first opens taken sizes stands sym_ within =
    subst (λ (b : Board). ShowAlike board b sym_) (sym (rw (← sizes, ← taken) stands)) (opens.alike sym_ within)

-- one more of the changes was appended
pub added_more : (taped now later : Taped) (xs : List Change) (i : ℕ) (x : Change) → i < length xs → x ≡ get_or xs i x
    → now ≡ record taped { pending = taped.pending ++ take i xs } → later ≡ record now { pending = now.pending ++ x ∷ [] }
    → later ≡ record taped { pending = taped.pending ++ take (i + 1) xs }
added_more taped now later xs i x within at was is =
    let more : take (i + 1) xs ≡ take i xs ++ x ∷ [] = take_more xs i x within ∙ ap (λ (y : Change). take i xs ++ y ∷ []) (sym at) in
    is ∙ ap (λ (t : Taped). record t { pending = t.pending ++ x ∷ [] }) was
    ∙ ap (λ (p : List Change). record taped { pending = p })
    (append_assoc taped.pending (take i xs) (x ∷ []) ∙ ap (λ (p : List Change). taped.pending ++ p) (sym more))

-- a change more on the tape, and what it leaves
module _ {X Y : Type 0} where
  pub one_more : (old new : Keeping X Y) (change : Change) → new ≡ with_change old change
      → new.publisher ≡ record old.publisher { pending = old.publisher.pending ++ change ∷ [] }
  one_more old new change is = ap (λ (k : Keeping X Y). k.publisher) is

  pub one_more_leaves : (old new : Keeping X Y) (change : Change) → new ≡ with_change old change
      → (new.tape ≡ old.tape) × (new.lengths ≡ old.lengths) × (new.roster ≡ old.roster) × (new.published ≡ old.published)
  one_more_leaves old new change is = (
    ap (λ (k : Keeping X Y). k.tape) is,
    ap (λ (k : Keeping X Y). k.lengths) is,
    ap (λ (k : Keeping X Y). k.roster) is,
    ap (λ (k : Keeping X Y). k.published) is,
  )

-- a board that does not take a change: its tape does not
clash : (b : Bool) → b ≡ false → b ≡ true → ⊥
clash b off on = cc

applied_all : (board : Board) (tape : List Change) → (fold after board tape).applied ≡ board.applied + length tape
applied_all board [] = omega arith
applied_all board (change ∷ tape) = omega (arith, applied_all (after board change) tape)

pub refused_by : (taped : Taped) (board : Board) (change : Change) → board.sizes ≡ taped.sizes
    → board ≡ fold after (opening taped.sizes) (tape_of taped) → taped.limit ≤ MOST_CHANGES → length (tape_of taped) ≤ taped.limit
    → takes board change ≡ false → IsRefused taped change
refused_by taped board change sized stands limited within none = by_held (holds board.sizes change) refl none
  where
    applied : board.applied ≡ length (tape_of taped)
    applied = omega (arith, ap (λ (b : Board). b.applied) stands, applied_all (opening taped.sizes) (tape_of taped))

    by_held : (b : Bool) → holds board.sizes change ≡ b → (b && nat_lt board.applied MOST_CHANGES) ≡ false → IsRefused taped change
    by_held false held off = inl (ap (λ (s : Sizes). holds s change) (sym sized) ∙ held)
    by_held true held off = elim (cases_lt board.applied MOST_CHANGES) as (λ (h : (board.applied < MOST_CHANGES)
        ⊎ (MOST_CHANGES ≤ board.applied)). IsRefused taped change) [
          | inl less ↦ absurd (clash (nat_lt board.applied MOST_CHANGES) off (lt-ltb board.applied MOST_CHANGES less))
          | inr most ↦ inr (omega (arith, most, limited, within, applied))
        ]

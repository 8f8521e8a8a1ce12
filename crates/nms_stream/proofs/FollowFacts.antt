-- From one change to the next: what was shown of each symbol, and the lines.
use Rattle.std.proofs.Common.{◌≡◌, ◌≢◌, ℕ, ◌+◌, ◌<◌, ◌≤◌, Bool, true, false, cond, nat_lt, List, [], ◌∷◌, ◌++◌}
use Rattle.std.proofs.Common.{length, refl, sym, ap, subst, ◌∙◌}
use Rattle.std.proofs.Common.{arith, slice_get, slice_set, Some, None, inl, inr, eqb, ◌&&◌, append_assoc}
use Rattle.std.specs.List.{flat_map, range_with_len}
use Rattle.std.specs.Prelude.{OnOk, Result, Ok, Err}
use Rattle.std.proofs.lemmas.Bool.{cases_eq}
use Rattle.std.proofs.lemmas.Bool.Decides.{nat_tests}
use Rattle.nms_quote.specs.Roster.{Listing, Sizes, holds, sizes_of}
use Rattle.nms_quote.specs.Tape.{Tape}
use Rattle.nms_quote.specs.declared.change.Change.{Change}
use Rattle.nms_quote.specs.declared.change.Change.TheVariants as change
use Rattle.nms_quote.specs.declared.side_quote.Side.{Side}
use Rattle.nms_board.specs.Cells.{Board, StandsFor, after, takes}
use Rattle.nms_board.specs.History.{concerns}
use Rattle.nms_board.specs.Shown.{rows_held, seen_on}
use Rattle.nms_board.specs.declared.TheConstants.{MOST_ROWS}
use Rattle.nms_lines.specs.Layout.{Record}
use Rattle.nms_lines.specs.Text.{text_of}
use Rattle.nms_stream.specs.Following.{ShowsOne, ShowsUpTo, symbol_of}
use Rattle.nms_stream.specs.Quoted.{quoted_at, quoted_in}
use Rattle.nms_stream.specs.Stream.{line_between, line_of, lines_between}
use Rattle.nms_stream.specs.declared.quoted.Quoted.{Quoted}
use Rattle.nms_stream.proofs.ListFacts.{get_beside, get_written, lone_range, texts_more}
use Rattle.nms_stream.proofs.QuotedFacts.{no_line, quoted_stands, quoted_stays}

other_place : (s own : ℕ) → s ≢ own → eqb own s ≡ false
other_place s own ne = grind (arith, nat_tests)

-- a change that speaks of one symbol concerns no other
pub alone : (change : Change) (own sym : ℕ) → symbol_of change ≡ Some own → sym ≢ own → concerns sym change ≡ false
alone (change.Quote part s state bid offer) own sym is ne =
    let same : s ≡ own = cc in
    other_place sym s (λ e. ne (e ∙ same))
alone (change.State part s state) own sym is ne =
    let same : s ≡ own = cc in
    other_place sym s (λ e. ne (e ∙ same))
alone (change.Withdraw part) own sym is ne = absurd (cc)
alone (change.Lot s lot) own sym is ne =
    let same : s ≡ own = cc in
    other_place sym s (λ e. ne (e ∙ same))

-- and that symbol is of the roster
pub within : (sizes : Sizes) (change : Change) (own : ℕ) → holds sizes change ≡ true → symbol_of change ≡ Some own → own < length sizes.lots
within sizes (change.Quote part s state bid offer) own held is =
    let same : s ≡ own = cc in
    grind (arith, nat_tests)
within sizes (change.State part s state) own held is =
    let same : s ≡ own = cc in
    grind (arith, nat_tests)
within sizes (change.Withdraw part) own held is = absurd (cc)
within sizes (change.Lot s lot) own held is =
    let same : s ≡ own = cc in
    grind (arith, nat_tests)

-- one symbol more was shown as the later tape has it
pub shows_more : (sizes : Sizes) (before now : Tape) (count : ℕ) (shown : List Quoted) (quoted : Quoted) → count < length sizes.lots
    → ShowsUpTo sizes before now count shown → quoted ≡ quoted_at sizes now count
    → ShowsUpTo sizes before now (count + 1) (slice_set shown count quoted)
shows_more sizes before now count shown quoted below shows is symbol there =
    elim (cases_eq count symbol) [
      | inl same ↦
          let lt : nat_lt symbol (count + 1) ≡ true = grind (arith, nat_tests) in
          let was : slice_get shown count ≡ Some (quoted_at sizes (cond (nat_lt count count) now before) count) = shows count below in
          rw lt (subst (λ (k : ℕ). slice_get (slice_set shown count quoted) k ≡ Some (quoted_at sizes now k)) same
          (get_written shown count _ quoted was ∙ ap Some is))
      | inr differ ↦
          let lt : nat_lt symbol (count + 1) ≡ nat_lt symbol count = grind (arith, nat_tests) in
          rw lt (get_beside shown count symbol quoted differ ∙ shows symbol there)
    ]

-- the next one was last shown as the earlier tape has it
pub each_place : (sizes : Sizes) (before now : Tape) (count : ℕ) (shown : List Quoted) → count < length sizes.lots
    → ShowsUpTo sizes before now count shown → ShowsOne sizes shown before count
each_place sizes before now count shown below shows =
    let none : nat_lt count count ≡ false = grind (arith, nat_tests) in
    rw none at (shows count below)

-- each was
pub shows_last : (sizes : Sizes) (before now : Tape) (count : ℕ) (shown : List Quoted) → length sizes.lots ≤ count
    → ShowsUpTo sizes before now count shown → (sym : ℕ) → sym < length sizes.lots → ShowsOne sizes shown now sym
shows_last sizes before now count shown all shows symbol there =
    let lt : nat_lt symbol count ≡ true = grind (arith, nat_tests) in
    rw lt at (shows symbol there)

-- what holds anyway holds at a success
pub anyway : {A E P : Type 0} (result : Result A E) → P → OnOk result P
anyway (Ok x) holds = holds
anyway (Err e) holds = tt

-- that a change leaves the rows of each symbol that it does not concern
abbrev pub StaysElsewhere : Type 0
StaysElsewhere =
    (board : Board) (change : Change) (sym : ℕ) (side : Side) → board.sizes.parts ≤ MOST_ROWS → holds board.sizes change ≡ true
    → concerns sym change ≡ false → rows_held (after board change) sym side ≡ rows_held board sym side

first_of : (a b : Bool) → (a && b) ≡ true → a ≡ true
first_of true b both = refl
first_of false b both = absurd (cc)

-- the symbol that a change speaks of is of the board's roster
pub own_below : (board : Board) (sizes : Sizes) (change : Change) (own : ℕ) → board.sizes ≡ sizes → takes board change ≡ true
    → symbol_of change ≡ Some own → own < length sizes.lots
own_below board sizes change own same taken speaks =
    subst (λ (s : Sizes). own < length s.lots) same (within board.sizes change own (first_of (holds board.sizes change) _ taken) speaks)

-- so what is quoted of another symbol stays
pub stays_beside : (board moved : Board) (change : Change) (tape : Tape) (sizes : Sizes) (own sym : ℕ) → StaysElsewhere
    → moved ≡ after board change → StandsFor board tape → StandsFor moved (tape ++ change ∷ []) → board.sizes ≡ sizes
    → takes board change ≡ true → symbol_of change ≡ Some own → sym ≢ own
    → quoted_at sizes tape sym ≡ quoted_at sizes (tape ++ change ∷ []) sym
stays_beside board moved change tape sizes own symbol law is stands stands' same taken speaks differ =
    quoted_stays board moved tape (tape ++ change ∷ []) sizes symbol stands stands' same (ap (λ (b : Board). b.sizes) is ∙ same)
    (λ side. ap (λ (b : Board). rows_held b symbol side) is
    ∙ law board change symbol side stands.narrow (first_of (holds board.sizes change) _ taken) (alone change own symbol speaks differ))

-- a symbol was shown as its board has it
pub one_shown : (board : Board) (before now : Tape) (sizes : Sizes) (shown new : List Quoted) (sym : ℕ) → StandsFor board now
    → board.sizes ≡ sizes → ShowsOne sizes shown before sym → new ≡ slice_set shown sym (quoted_in (seen_on board sym))
    → ShowsOne sizes new now sym
one_shown board before now sizes shown new symbol stands same shows is =
    ap (λ (qs : List Quoted). slice_get qs symbol) is
    ∙ get_written shown symbol (quoted_at sizes before symbol) (quoted_in (seen_on board symbol)) shows
    ∙ ap Some (quoted_stands board now sizes symbol stands same)

-- and its line is that from the earlier tape to the later one
pub one_told : (board : Board) (roster : Listing) (before now : Tape) (sym : ℕ) → StandsFor board now → board.sizes ≡ sizes_of roster
    → line_of roster board.applied sym (quoted_at (sizes_of roster) before sym) (quoted_in (seen_on board sym))
    ≡ line_between roster before now sym
unfolding line_between
one_told board roster before now symbol stands same =
    let was : Quoted = quoted_at (sizes_of roster) before symbol in
    ap (λ (n : ℕ). line_of roster n symbol was (quoted_in (seen_on board symbol))) stands.applied
    ∙ ap (λ (q : Quoted). line_of roster (length now) symbol was q) (quoted_stands board now (sizes_of roster) symbol stands same)

-- if only one symbol may have a line, it is the only one
pub lone_line : (roster : Listing) (before now : Tape) (own : ℕ) → own < length roster.syms
    → ((sym : ℕ) → sym ≢ own → quoted_at (sizes_of roster) before sym ≡ quoted_at (sizes_of roster) now sym)
    → line_between roster before now own ≡ lines_between roster None before now
lone_line roster before now own below same =
    sym (lone_range (line_between roster before now) own 0 (length roster.syms) (omega arith) (omega (arith, below))
    (λ k differ. no_line roster before now k (same k differ)))

-- a change of one symbol leaves all others as they were shown
pub all_shown : (board moved : Board) (change : Change) (tape : Tape) (sizes : Sizes) (shown new : List Quoted) (own : ℕ) → StaysElsewhere
    → moved ≡ after board change → StandsFor board tape → StandsFor moved (tape ++ change ∷ []) → board.sizes ≡ sizes
    → takes board change ≡ true → symbol_of change ≡ Some own
    → ((sym : ℕ) → sym < length sizes.lots → ShowsOne sizes shown tape sym)
    → new ≡ slice_set shown own (quoted_in (seen_on moved own))
    → (sym : ℕ) → sym < length sizes.lots → ShowsOne sizes new (tape ++ change ∷ []) sym
all_shown board moved change tape sizes shown new own law is stands stands' same taken speaks shows set symbol below =
    elim (cases_eq own symbol) [
      | inl e ↦
          subst (λ (k : ℕ). ShowsOne sizes new (tape ++ change ∷ []) k) e
          (one_shown moved tape (tape ++ change ∷ []) sizes shown new own stands' (ap (λ (b : Board). b.sizes) is ∙ same)
          (shows own (omega (arith, below, e))) set)
      | inr differ ↦
          ap (λ (qs : List Quoted). slice_get qs symbol) set
          ∙ get_beside shown own symbol (quoted_in (seen_on moved own)) differ ∙ shows symbol below
          ∙ ap Some (stays_beside board moved change tape sizes own symbol law is stands stands' same taken speaks (λ e. differ (sym e)))
    ]

-- one turn over the symbols shows one more
pub turn_shown : (board : Board) (before now : Tape) (sizes : Sizes) (count : ℕ) (shown new : List Quoted) → StandsFor board now
    → board.sizes ≡ sizes → count < length sizes.lots → ShowsUpTo sizes before now count shown
    → new ≡ slice_set shown count (quoted_in (seen_on board count)) → ShowsUpTo sizes before now (count + 1) new
turn_shown board before now sizes count shown new stands same below shows set =
    subst (ShowsUpTo sizes before now (count + 1)) (sym set)
    (shows_more sizes before now count shown (quoted_in (seen_on board count)) below shows
    (quoted_stands board now sizes count stands same))

-- and adds its line
pub turn_told : (board : Board) (roster : Listing) (before now : Tape) (count : ℕ) (old had new : List ℕ) → StandsFor board now
    → board.sizes ≡ sizes_of roster
    → had ≡ old ++ text_of (flat_map (line_between roster before now) (range_with_len 0 count))
    → new ≡ had ++ text_of (line_of roster board.applied count (quoted_at (sizes_of roster) before count) (quoted_in (seen_on board count)))
    → new ≡ old ++ text_of (flat_map (line_between roster before now) (range_with_len 0 (count + 1)))
turn_told board roster before now count old had new stands same so_far more =
    let f : ℕ → List Record = line_between roster before now in
    let here : List Record =
    line_of roster board.applied count (quoted_at (sizes_of roster) before count) (quoted_in (seen_on board count)) in
    more ∙ ap (λ (t : List ℕ). t ++ text_of here) so_far
    ∙ ap (λ (rs : List Record). (old ++ text_of (flat_map f (range_with_len 0 count))) ++ text_of rs)
    (one_told board roster before now count stands same)
    ∙ append_assoc old (text_of (flat_map f (range_with_len 0 count))) (text_of (f count))
    ∙ ap (λ (t : List ℕ). old ++ t) (sym (texts_more f count))

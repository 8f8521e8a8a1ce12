-- What is quoted best, read off a board, and when it stays.
use Rattle.std.proofs.Common.{◌≡◌, ◌≢◌, ℕ, zero, suc, ◌+◌, Bool, true, false, cond, ltb, eqb, ◌&&◌, List, [], ◌∷◌, ◌++◌, length}
use Rattle.std.proofs.Common.{Option, Some, None, refl, sym, ap, ◌∙◌, arith}
use Rattle.std.specs.List.{filter_map, range_with_len}
use Rattle.std.specs.Option.{option_map}
use Rattle.std.proofs.lemmas.Bool.Decides.{nat_tests}
use Rattle.nms_quote.specs.Roster.{Listing, Sizes, sizes_of}
use Rattle.nms_quote.specs.Tape.{Tape}
use Rattle.nms_quote.specs.declared.change.Change.{Change}
use Rattle.nms_quote.specs.declared.side_quote.Side.{Side}
use Rattle.nms_quote.specs.declared.side_quote.Side.TheVariants.{Bid, Offer}
use Rattle.nms_board.specs.Cells.{Board, StandsFor}
use Rattle.nms_board.specs.Quotation.{quotation_of, quotations}
use Rattle.nms_board.specs.Ranking.{ranked_at}
use Rattle.nms_board.specs.Shown.{rows_held, seen_on}
use Rattle.nms_board.specs.View.{view_of}
use Rattle.nms_board.specs.declared.row.Row.{Row}
use Rattle.nms_board.proofs.Offered.{seen_stands}
use Rattle.nms_lines.specs.Layout.{Record}
use Rattle.nms_nbbo.specs.Market.{market_of}
use Rattle.nms_nbbo.specs.declared.market_kind.Market.{Market}
use Rattle.nms_nbbo.specs.declared.market_kind.Market.TheVariants as market
use Rattle.nms_stream.specs.Laws.{TellsOf}
use Rattle.nms_stream.specs.Quoted.{are_alike, is_alike, quoted_at, quoted_in}
use Rattle.nms_stream.specs.Stream.{line_between, line_of, line_record}
use Rattle.nms_stream.specs.declared.quoted.Quoted.{Quoted}

-- a board shows what its tape does
pub quoted_stands : (board : Board) (tape : Tape) (sizes : Sizes) (sym : ℕ) → StandsFor board tape → board.sizes ≡ sizes
    → quoted_in (seen_on board sym) ≡ quoted_at sizes tape sym
unfolding quoted_at
quoted_stands board tape sizes sym stands same =
    ap quoted_in (seen_stands board tape sym stands) ∙ ap (λ (s : Sizes). quoted_in (view_of s tape sym)) same

-- the best of some bids and some offers
best_of : List Row → List Row → Quoted
best_of bids offers = record { bid = ranked_at Bid bids 0; offer = ranked_at Offer offers 0 }

-- if a board's rows of a symbol stay, what is quoted of it stays
pub quoted_stays : (board moved : Board) (before now : Tape) (sizes : Sizes) (sym : ℕ) → StandsFor board before → StandsFor moved now
    → board.sizes ≡ sizes → moved.sizes ≡ sizes → ((side : Side) → rows_held moved sym side ≡ rows_held board sym side)
    → quoted_at sizes before sym ≡ quoted_at sizes now sym
unfolding best_of
quoted_stays board moved before now sizes symbol stands stands' same same' rows =
    let bids = ap (λ (rs : List Row). best_of rs (rows_held board symbol Offer)) (sym (rows Bid)) in
    let offers = ap (λ (rs : List Row). best_of (rows_held moved symbol Bid) rs) (sym (rows Offer)) in
    sym (quoted_stands board before sizes symbol stands same) ∙ (bids ∙ offers) ∙ quoted_stands moved now sizes symbol stands' same'

-- a best row looks like itself
alike_itself : (row : Option Row) → is_alike row row ≡ true
alike_itself None = refl
alike_itself (Some row) = grind (arith, nat_tests)

pub alike_quoted : (quoted : Quoted) → are_alike quoted quoted ≡ true
alike_quoted quoted = rw (alike_itself quoted.bid, alike_itself quoted.offer) refl

-- what stays has no line
pub no_line : (roster : Listing) (before now : Tape) (sym : ℕ)
    → quoted_at (sizes_of roster) before sym ≡ quoted_at (sizes_of roster) now sym
    → line_between roster before now sym ≡ []
unfolding line_between
no_line roster before now symbol same = rw (same, alike_quoted (quoted_at (sizes_of roster) now symbol)) refl

-- quotations of no change are none
none_quoted : (f : ℕ → Option Row) (low n : ℕ) → ((k : ℕ) → f k ≡ None) → filter_map f (range_with_len low n) ≡ []
none_quoted f low zero none = refl
none_quoted f low (suc n) none = rw (none low, none_quoted f (low + 1) n none)

no_rows : (sizes : Sizes) (sym : ℕ) (side : Side) → quotations sizes [] sym side ≡ []
no_rows sizes symbol side = none_quoted (quotation_of sizes [] symbol side) 0 sizes.parts (λ k. refl)

pub quoted_first : (sizes : Sizes) (sym : ℕ) → quoted_at sizes [] sym ≡ record { bid = None; offer = None }
unfolding quoted_at best_of
quoted_first sizes symbol =
    ap (λ (rs : List Row). best_of rs (quotations sizes [] symbol Offer)) (no_rows sizes symbol Bid)
    ∙ ap (λ (rs : List Row). best_of [] rs) (no_rows sizes symbol Offer)

-- rows that look alike have one price
alike_price : (row other : Option Row) → is_alike row other ≡ true → option_map (λ row. row.price) row ≡ option_map (λ row. row.price) other
alike_price None None alike = refl
alike_price None (Some other) alike = absurd (cc)
alike_price (Some row) None alike = absurd (cc)
alike_price (Some row) (Some other) alike =
    let same : row.price ≡ other.price = grind (arith, nat_tests) in
    ap Some same

-- a market depends only on prices
market_at : Option ℕ → Option ℕ → Market
market_at None None = market.Empty
market_at None (Some offer) = market.OneSided
market_at (Some bid) None = market.OneSided
market_at (Some bid) (Some offer) = cond (ltb bid offer) market.Normal (cond (eqb bid offer) market.Locked market.Crossed)

market_is : (bid offer : Option Row) → market_of bid offer
    ≡ market_at (option_map (λ row. row.price) bid) (option_map (λ row. row.price) offer)
unfolding market_at
market_is None None = refl
market_is None (Some offer) = refl
market_is (Some bid) None = refl
market_is (Some bid) (Some offer) = refl

both_of : (a b : Bool) → (a && b) ≡ true → (a ≡ true) × (b ≡ true)
both_of true b both = (refl, both)
both_of false b both = absurd (cc)

-- so quotes that look alike have one market
pub alike_market : (was quoted : Quoted) → are_alike was quoted ≡ true
    → market_of was.bid was.offer ≡ market_of quoted.bid quoted.offer
alike_market was quoted alike =
    let parts = both_of (is_alike was.bid quoted.bid) (is_alike was.offer quoted.offer) alike in
    market_is was.bid was.offer
    ∙ ap (λ (p : Option ℕ). market_at p (option_map (λ row. row.price) was.offer)) (alike_price was.bid quoted.bid parts.0)
    ∙ ap (λ (p : Option ℕ). market_at (option_map (λ row. row.price) quoted.bid) p) (alike_price was.offer quoted.offer parts.1)
    ∙ sym (market_is quoted.bid quoted.offer)

-- a line, or none
line_alike : (roster : Listing) (number sym : ℕ) (was quoted : Quoted) → are_alike was quoted ≡ true
    → line_of roster number sym was quoted ≡ []
line_alike roster number symbol was quoted alike = rw alike refl

line_other : (roster : Listing) (number sym : ℕ) (was quoted : Quoted) → are_alike was quoted ≡ false
    → line_of roster number sym was quoted ≡ line_record roster number sym quoted ∷ []
line_other roster number symbol was quoted other = rw other refl

some_line : (line : Record) → line ∷ [] ≢ []
some_line line e = cc

no_line_alike : (roster : Listing) (number sym : ℕ) (was quoted : Quoted) (alike : Bool) → are_alike was quoted ≡ alike
    → line_of roster number sym was quoted ≡ [] → are_alike was quoted ≡ true
no_line_alike roster number symbol was quoted true is none = is
no_line_alike roster number symbol was quoted false is none =
    absurd (some_line (line_record roster number symbol quoted) (sym (line_other roster number symbol was quoted is) ∙ none))

-- the line that one change adds of a symbol
pub tells_of : (roster : Listing) (tape : Tape) (change : Change) (sym : ℕ) → TellsOf roster tape change sym
unfolding line_between
tells_of roster tape change symbol =
    let now = tape ++ change ∷ [] in
    let was : Quoted = quoted_at (sizes_of roster) tape symbol in
    let quoted : Quoted = quoted_at (sizes_of roster) now symbol in
    record {
      alike = line_alike roster (length now) symbol was quoted;
      other = line_other roster (length now) symbol was quoted;
      market = λ differ none. differ (sym (alike_market was quoted
          (no_line_alike roster (length now) symbol was quoted (are_alike was quoted) refl none)));
    }

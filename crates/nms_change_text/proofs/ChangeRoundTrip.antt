-- What is written of a change is read as that change.
use Rattle.std.proofs.Common.{arith, ℕ, ◌≡◌, ◌<◌, ◌≤◌, ◌==◌, ◌&&◌, Bool, true, false, List, All, [], ◌∷◌, ◌++◌, refl, subst, sym, ap, ◌∙◌}
use Rattle.std.proofs.Common.{Option, Some, None, inl, inr, map, length, lit<}
use Rattle.std.specs.Prelude.{codes, nat_lt}
use Rattle.std.specs.Fmt.{decimal}
use Rattle.std.proofs.lemmas.Bool.{and_parts, cases_Bool, le-leb, ltb-true, ne_eqb}
use Rattle.std.proofs.Math.Dec.{eqb-suc-zero}
use Rattle.std.proofs.lemmas.List.{length-map}
use Rattle.std.proofs.lemmas.List.Elements.{All-cons, All-head, All-map, All-nil, All-tail}
use Rattle.csv.specs.Machine.{next_record}
use Rattle.csv.specs.Reading.{is_bom, strip_bom}
use Rattle.csv.specs.Writing.{default_writer, needs_quotes, read_back}
use Rattle.csv.specs.declared.parser.State.TheVariants as state
use Rattle.nms_units.specs.Digits.{number_in}
use Rattle.nms_units.specs.Price.{price_number, price_text}
use Rattle.nms_units.specs.declared.TheConstants.{MOST_LOT, MOST_PRICE, MOST_SHARES}
use Rattle.nms_quote.specs.Content.{Content}
use Rattle.nms_quote.specs.Roster.{Listing, Name, part_text, place_in, sizes_of, symbol_text}
use Rattle.nms_quote.specs.declared.change.Change.{Change}
use Rattle.nms_quote.specs.declared.change.Change.TheVariants as change
use Rattle.nms_quote.specs.declared.side_quote.QState.{QState}
use Rattle.nms_quote.specs.declared.side_quote.QState.TheVariants.{Automated, Manual, Halted}
use Rattle.nms_lines.specs.Fields.{state_named}
use Rattle.nms_lines.specs.Layout.{Record, field}
use Rattle.nms_lines.specs.Numbers.{above_zero, lot_number, shares_number}
use Rattle.nms_lines.specs.Records.{AreAllRecords}
use Rattle.nms_lines.specs.Sides.{is_bad_price, is_bad_shares, is_empty, is_half, side_content}
use Rattle.nms_lines.specs.TextLaws.{csv_text}
use Rattle.nms_lines.proofs.Offered.{ArePlain, AreSame, AreWhole, IsNamed, IsSame, Reads, each_same, plain_decimal, plain_nil, plain_part}
use Rattle.nms_lines.proofs.Offered.{plain_price, plain_symbol, price_back, reached, row_as_it_is, shares_back, some_back, word}
use Rattle.nms_change_text.specs.ChangeText.{change_record, side_fields, state_letter}
use Rattle.nms_change_text.specs.ReadBack.{ChangesReadAsWritten, FitsRecord, IsSideInRange, ReadsBack}

-- ---- fields

state_back : (state : QState) → state_named (state_letter state) ≡ Some state
state_back Automated = refl
state_back Manual = refl
state_back Halted = refl

lot_back : (roster : Listing) → Reads roster → (lot : ℕ) → 1 ≤ lot → lot ≤ MOST_LOT → lot_number (decimal lot) ≡ Some lot
lot_back roster reads lot some most =
    rw (reads.digits 4 lot (lit< tt) (omega (arith, most)) (omega (arith, most)), le-leb 1 lot some, le-leb lot MOST_LOT most) refl

-- a text that says a number is not empty
not_empty : (number_of : List ℕ → Option ℕ) → number_of [] ≡ None → (text : List ℕ) (n : ℕ) → number_of text ≡ Some n
    → is_empty text ≡ false
not_empty number_of none [] n is = let nothing : ⊥ = cc in absurd nothing
not_empty number_of none (c ∷ text) n is = rw (eqb-suc-zero (length text)) refl

-- a number above zero is a number that is there
above_is : (found : Option ℕ) (n : ℕ) → above_zero found ≡ Some n → found ≡ Some n
above_is None n is = let nothing : ⊥ = cc in absurd nothing
above_is (Some m) n is = elim (cases_Bool (m == 0)) [
  | inl zero ↦ let bad = rw zero at is in let nothing : ⊥ = cc in absurd nothing
  | inr some ↦ let same = rw some at is in same
]

-- ---- a side

-- its two fields are of the form, both there or both empty, and say it
record SideBack (price shares : List ℕ) (side : Option Content) : Type 0 where
  price_good : is_bad_price price shares ≡ false
  shares_good : is_bad_shares shares ≡ false
  whole : is_half price shares ≡ false
  content : side_content price shares ≡ side

side_back : (roster : Listing) → Reads roster → (side : Option Content) → IsSideInRange side
    → SideBack (field (side_fields side) 0) (field (side_fields side) 1) side
side_back roster reads None range = record { price_good = refl; shares_good = refl; whole = refl; content = refl }
side_back roster reads (Some quote) range =
    let price_is = price_back roster reads quote.price (range.0, range.1) in
    let shares_is = shares_back roster reads quote.shares range.3 in
    let found = above_is (price_number (price_text quote.price)) quote.price price_is in
    let price_there = not_empty price_number refl (price_text quote.price) quote.price found in
    let shares_there = not_empty shares_number refl (decimal quote.shares) quote.shares shares_is in
    record {
      price_good = rw (price_there, found, shares_is, ne_eqb quote.price 0 (omega (arith, range.0))) refl;
      shares_good = rw (shares_there, shares_is) refl;
      whole = rw (price_there, shares_there) refl;
      content = rw (price_is, shares_is, some_back quote.shares range.2) refl;
    }

-- ---- records

-- a symbol below the roster's sizes is on the roster
listed : (roster : Listing) (sym : ℕ) → nat_lt sym (length (sizes_of roster).lots) ≡ true → sym < length roster.syms
listed roster symbol is =
    let below = ltb-true symbol (length (sizes_of roster).lots) is in
    omega (arith, below, length-map roster.syms (λ (entry : Name × ℕ). entry.1))

part_there : (roster : Listing) → Reads roster → (part : ℕ) → nat_lt part (length roster.parts) ≡ true
    → place_in roster.parts (part_text roster part) ≡ Some part
part_there roster reads part is = reads.parts part (ltb-true part (length roster.parts) is)

sym_there : (roster : Listing) → Reads roster → (symbol : ℕ) → nat_lt symbol (length (sizes_of roster).lots) ≡ true
    → place_in roster.syms (symbol_text roster symbol) ≡ Some symbol
sym_there roster reads symbol is = reads.syms symbol (listed roster symbol is)

-- the fields of a side are at their places in the record of a quote
record SidesBack (fields : Record) (bid offer : Option Content) : Type 0 where
  bids : SideBack (field fields 4) (field fields 5) bid
  offers : SideBack (field fields 6) (field fields 7) offer

sides_back : (roster : Listing) → Reads roster → (part symbol : ℕ) (state : QState) (bid offer : Option Content)
    → IsSideInRange bid → IsSideInRange offer
    → SidesBack (change_record roster (change.Quote part symbol state bid offer)) bid offer
sides_back roster reads part symbol state None None bids offers =
    record { bids = side_back roster reads None bids; offers = side_back roster reads None offers }
sides_back roster reads part symbol state None (Some offer) bids offers =
    record { bids = side_back roster reads None bids; offers = side_back roster reads (Some offer) offers }
sides_back roster reads part symbol state (Some bid) None bids offers =
    record { bids = side_back roster reads (Some bid) bids; offers = side_back roster reads None offers }
sides_back roster reads part symbol state (Some bid) (Some offer) bids offers =
    record { bids = side_back roster reads (Some bid) bids; offers = side_back roster reads (Some offer) offers }

quote_count : (roster : Listing) (part symbol : ℕ) (state : QState) (bid offer : Option Content)
    → length (change_record roster (change.Quote part symbol state bid offer)) ≡ 8
quote_count roster part symbol state None None = refl
quote_count roster part symbol state None (Some offer) = refl
quote_count roster part symbol state (Some bid) None = refl
quote_count roster part symbol state (Some bid) (Some offer) = refl

change_back : (roster : Listing) → Reads roster → (said : Change) → FitsRecord roster said → ReadsBack roster said
change_back roster reads (change.Quote part symbol state bid offer) fits = λ from may.
    let listed = and_parts (nat_lt part (length roster.parts)) (nat_lt symbol (length (sizes_of roster).lots)) fits.0 in
    let sides = sides_back roster reads part symbol state bid offer fits.1.0 fits.1.1 in
    rw (
      may.0,
      quote_count roster part symbol state bid offer,
      part_there roster reads part listed.0,
      sym_there roster reads symbol listed.1,
      state_back state,
      sides.bids.price_good,
      sides.offers.price_good,
      sides.bids.shares_good,
      sides.offers.shares_good,
      sides.bids.whole,
      sides.offers.whole,
      sides.bids.content,
      sides.offers.content,
      may.1,
    ) refl
change_back roster reads (change.State part symbol state) fits = λ from may.
    let listed = and_parts (nat_lt part (length roster.parts)) (nat_lt symbol (length (sizes_of roster).lots)) fits.0 in
    rw (may.0, part_there roster reads part listed.0, sym_there roster reads symbol listed.1, state_back state, may.1) refl
change_back roster reads (change.Withdraw part) fits = λ from may.
    rw (may.0, part_there roster reads part fits.0, may.1) refl
change_back roster reads (change.Lot symbol lot) fits = λ from may.
    rw (may.0, sym_there roster reads symbol fits.0, may.1, lot_back roster reads lot fits.1.0 fits.1.1) refl

-- ---- no field needs a quote

state_plain : (state : QState) → needs_quotes default_writer (state_letter state) ≡ false
state_plain Automated = refl
state_plain Manual = refl
state_plain Halted = refl

-- both sides, whatever they say
sides_plain : (bid offer : Option Content) → ArePlain (side_fields bid ++ side_fields offer)
sides_plain None None = (plain_nil, (plain_nil, (plain_nil, (plain_nil, tt))))
sides_plain None (Some offer) = (plain_nil, (plain_nil, (plain_price offer.price, (plain_decimal offer.shares, tt))))
sides_plain (Some bid) None = (plain_price bid.price, (plain_decimal bid.shares, (plain_nil, (plain_nil, tt))))
sides_plain (Some bid) (Some offer) =
    (plain_price bid.price, (plain_decimal bid.shares, (plain_price offer.price, (plain_decimal offer.shares, tt))))

change_same : (roster : Listing) → IsNamed roster → (said : Change) → IsSame (change_record roster said)
change_same roster named (change.Quote part symbol state bid offer) =
    row_as_it_is (codes "Q") (part_text roster part)
    (symbol_text roster symbol ∷ state_letter state ∷ (side_fields bid ++ side_fields offer))
    (word (codes "Q") refl) (plain_part roster named part)
    (plain_symbol roster named symbol, (word (state_letter state) (state_plain state), sides_plain bid offer))
change_same roster named (change.State part symbol state) =
    row_as_it_is (codes "S") (part_text roster part) (symbol_text roster symbol ∷ state_letter state ∷ []) (word (codes "S") refl)
    (plain_part roster named part) (plain_symbol roster named symbol, (word (state_letter state) (state_plain state), tt))
change_same roster named (change.Withdraw part) =
    row_as_it_is (codes "X") (part_text roster part) [] (word (codes "X") refl) (plain_part roster named part) tt
change_same roster named (change.Lot symbol lot) =
    row_as_it_is (codes "R") (symbol_text roster symbol) (decimal lot ∷ []) (word (codes "R") refl)
    (plain_symbol roster named symbol) (plain_decimal lot, tt)

-- ---- the law

abbrev IsWhole : Record → Type 0
IsWhole fields = read_back fields ≡ fields

-- a text that begins with another byte has no byte order mark
unmarked : (a : ℕ) → ((b c : ℕ) → is_bom a b c ≡ false) → (rest : List ℕ) → strip_bom (a ∷ rest) ≡ a ∷ rest
unfolding strip_bom
unmarked a other [] = refl
unmarked a other (b ∷ []) = refl
unmarked a other (b ∷ c ∷ rest) = rw (other b c) refl

-- so no text of changes has one
no_mark : (roster : Listing) (changes : List Change)
    → strip_bom (csv_text (map (change_record roster) changes)) ≡ csv_text (map (change_record roster) changes)
unfolding strip_bom
no_mark roster [] = refl
no_mark roster (change.Quote part symbol state bid offer ∷ changes) = unmarked 81 (λ b c. refl) _
no_mark roster (change.State part symbol state ∷ changes) = unmarked 83 (λ b c. refl) _
no_mark roster (change.Withdraw part ∷ changes) = unmarked 88 (λ b c. refl) _
no_mark roster (change.Lot symbol lot ∷ changes) = unmarked 82 (λ b c. refl) _

pub read_as_written : (roster : Listing) → IsNamed roster → Reads roster → ChangesReadAsWritten roster
unfolding next_record
read_as_written roster named reads = λ changes fit.
    let records : List Record = map (change_record roster) changes in
    let whole : AreWhole records = All-map IsWhole (change_record roster) changes (λ k d within. refl) in
    let written : AreAllRecords (Some (csv_text records)) records =
    (state.StartRecord, [], rw (no_mark roster changes) (reached records whole), refl) in
    let same : AreSame records = each_same (change_record roster) (change_same roster named) changes in
    (subst (λ (text : List ℕ). AreAllRecords (Some text) records) (sym same) written, each_back roster reads changes fit)
  where
    each_back : (roster : Listing) → Reads roster → (changes : List Change) → All (FitsRecord roster) changes
        → All (ReadsBack roster) changes
    each_back roster reads [] fit = All-nil (ReadsBack roster)
    each_back roster reads (said ∷ changes) fit =
        All-cons (ReadsBack roster) said changes (change_back roster reads said (All-head (FitsRecord roster) said changes fit))
        (each_back roster reads changes (All-tail (FitsRecord roster) said changes fit))

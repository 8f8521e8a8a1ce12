-- What a format writes in the columns of a report.
use Rattle.std.proofs.Common.{ℕ, ◌≡◌, ◌+◌, ◌-◌, ◌/◌, ◌%◌, ◌<◌, ◌≤◌, Bool, true, false, eqb, ◌&&◌, List, [], ◌∷◌, ◌++◌, length, replicate}
use Rattle.std.proofs.Common.{take, Option, Some, sym, refl, ap, subst, ◌∙◌, arith, lit<, append_assoc, length-append, leb-true}
use Rattle.std.specs.Prelude.{OnOk, Result, slice_index_or, nat_lt, nat_le, unwrap_or, option_map, slice_get}
use Rattle.std.specs.Io.KnownBytes.{Appends}
use Rattle.std.specs.List.{flat_map, join_with_byte, list_all}
use Rattle.std.specs.Fmt.{decimal, padded, char_count, fill_text, format_spec, styled_text, styled_decimal}
use Rattle.std.proofs.Padding.{char_count-nil, char_count-cons, take_chars_all, padded_is, padded_integral_right, repeat_ascii}
use Rattle.std.proofs.Padding.{styled_decimal_is}
use Rattle.std.proofs.lemmas.Bool.Decides.{nat_tests}
use Rattle.std.proofs.lemmas.Fmt.{decimal_digit}
use Rattle.std.proofs.lemmas.List.{flat_map_more, take_more}
use Rattle.std.proofs.lemmas.Result.{on_ok_weaker}
use Rattle.csv.proofs.WriteFacts.{appends-more}
use Rattle.nms_units.specs.Price.{price_text, digit_at}
use Rattle.nms_quote.specs.Roster.{Listing, is_part_name, is_symbol_name, is_name_char, is_symbol_char, part_text, symbol_text}
use Rattle.nms_quote.specs.declared.side_quote.Side.{Side}
use Rattle.nms_quote.specs.declared.side_quote.Side.TheVariants.{Bid, Offer}
use Rattle.nms_lines.specs.Sides.{side_word}
use Rattle.nms_text.specs.Report.{at_left, at_right, line_of, pair_word}

-- the precision of a hole that names none: nothing is cut
abbrev pub no_precision : ℕ
no_precision = 18446744073709551615

-- at most 8 characters of ASCII
abbrev pub is_word : List ℕ → Bool
is_word text = nat_le (length text) 8 && list_all (λ c. nat_lt c 128) text

both : (a b : Bool) → (a && b) ≡ true → (a ≡ true) × (b ≡ true)
both true b h = (refl, h)
both false b h = absurd cc

list_all-weaker : (p q : ℕ → Bool) → ((c : ℕ) → p c ≡ true → q c ≡ true) → (text : List ℕ) → list_all p text ≡ true → list_all q text ≡ true
list_all-weaker p q weaker [] h = refl
list_all-weaker p q weaker (c ∷ text) h =
    let parts = both (p c) (list_all p text) h in
    rw (weaker c parts.0, list_all-weaker p q weaker text parts.1) refl

symbol_char_ascii : (c : ℕ) → is_symbol_char c ≡ true → nat_lt c 128 ≡ true
symbol_char_ascii c h = grind (arith, nat_tests)

name_char_ascii : (c : ℕ) → is_name_char c ≡ true → nat_lt c 128 ≡ true
name_char_ascii c h = grind (arith, nat_tests)

-- names are words
word-from_part_name : (name : List ℕ) → is_part_name name ≡ true → is_word name ≡ true
word-from_part_name name h =
    let parts = both _ (list_all is_name_char name) h in
    let sizes = both _ (nat_le (length name) 4) parts.0 in
    let short : nat_le (length name) 8 ≡ true = grind (arith, nat_tests) in
    rw (short, list_all-weaker is_name_char (λ c. nat_lt c 128) name_char_ascii name parts.1) refl

word-from_symbol_name : (name : List ℕ) → is_symbol_name name ≡ true → is_word name ≡ true
word-from_symbol_name name h =
    let parts = both _ (list_all is_symbol_char name) h in
    let sizes = both _ (nat_le (length name) 8) parts.0 in
    rw (sizes.1, list_all-weaker is_symbol_char (λ c. nat_lt c 128) symbol_char_ascii name parts.1) refl

char_count-ascii : (text : List ℕ) → list_all (λ c. nat_lt c 128) text ≡ true → char_count text ≡ length text
char_count-ascii [] h = char_count-nil
char_count-ascii (c ∷ text) h =
    let parts = both (nat_lt c 128) (list_all (λ c. nat_lt c 128) text) h in
    char_count-cons c text ∙ rw (parts.0, char_count-ascii text parts.1) (omega arith)

-- a word at the left of a column
padded_left : (width : ℕ) (text : List ℕ) → is_word text ≡ true → padded (format_spec 32 1 0 width no_precision) text ≡ at_left width text
padded_left width text word =
    let parts = both (nat_le (length text) 8) (list_all (λ c. nat_lt c 128) text) word in
    let short : length text ≤ no_precision = omega (arith, leb-true (length text) 8 parts.0) in
    let count : width - length text ≡ width - char_count text = ap (λ n. width - n) (sym (char_count-ascii text parts.1)) in
    let whole : width - length text - 0 ≡ width - length text = omega arith in
    sym (padded_is (format_spec 32 1 0 width no_precision) text text (width - length text) 0 (sym (take_chars_all no_precision text short))
    count refl)
    ∙ ap (λ (fill : List ℕ). text ++ fill) (ap (fill_text (format_spec 32 1 0 width no_precision)) whole
    ∙ repeat_ascii (width - length text) 32 (lit< tt))

-- a number at the right of a column
styled_right : (width n : ℕ) → styled_decimal (format_spec 32 3 0 width no_precision) n ≡ at_right width (decimal n)
styled_right width n =
    styled_decimal_is (format_spec 32 3 0 width no_precision) n
    ∙ padded_integral_right (format_spec 32 3 0 width no_precision) (decimal n) refl refl (λ e. cc) (λ e. cc) (lit< tt)

-- a word as the hole of a column writes it, by its options
pub word_column : (spec : _) (width : ℕ) (shown word : List ℕ) → eqb width 0 ≡ false → spec ≡ format_spec 32 1 0 width no_precision
    → shown ≡ word → is_word word ≡ true
    → styled_text spec shown ≡ at_left width word
word_column spec width shown word wide options same short = rw (options, wide, same) (padded_left width word short)

-- a number
pub number_column : (spec : _) (width n m : ℕ) → spec ≡ format_spec 32 3 0 width no_precision → n ≡ m
    → styled_decimal spec n ≡ at_right width (decimal m)
number_column spec width n m options same = rw (options, same) (styled_right width m)

-- a participant's name
pub part_column : (spec : _) (roster : Listing) (part : ℕ) (name : List ℕ) → spec ≡ format_spec 32 1 0 4 no_precision
    → option_map (λ entry. entry.0) (slice_get roster.parts part) ≡ Some name
    → is_part_name name ≡ true → styled_text spec name ≡ at_left 4 (part_text roster part)
part_column spec roster part name options found formed =
    word_column spec 4 name name refl options refl (word-from_part_name name formed)
    ∙ ap (λ (o : Option (List ℕ)). at_left 4 (unwrap_or o [])) (sym found)

-- a symbol's name
pub symbol_column : (spec : _) (roster : Listing) (place : ℕ) (name : List ℕ) → spec ≡ format_spec 32 1 0 8 no_precision
    → option_map (λ entry. entry.0) (slice_get roster.syms place) ≡ Some name
    → is_symbol_name name ≡ true → styled_text spec name ≡ at_left 8 (symbol_text roster place)
symbol_column spec roster place name options found formed =
    word_column spec 8 name name refl options refl (word-from_symbol_name name formed)
    ∙ ap (λ (o : Option (List ℕ)). at_left 8 (unwrap_or o [])) (sym found)

-- the other words of the columns at the left
pub side_is_word : (side : Side) → is_word (side_word side) ≡ true
side_is_word Bid = refl
side_is_word Offer = refl

pub pair_is_word : (crossed : Bool) → is_word (pair_word crossed) ≡ true
pair_is_word true = refl
pair_is_word false = refl

-- a line as a format writes it: each column before what follows it
abbrev pub nested : List (List ℕ) → List ℕ
nested [] = 10 ∷ []
nested (column ∷ []) = column ++ 10 ∷ []
nested (column ∷ next ∷ columns) = column ++ 32 ∷ nested (next ∷ columns)

line_of-nested : (columns : List (List ℕ)) → nested columns ≡ line_of columns
line_of-nested [] = refl
line_of-nested (column ∷ []) = refl
line_of-nested (column ∷ next ∷ columns) =
    ap (λ (rest : List ℕ). column ++ 32 ∷ rest) (line_of-nested (next ∷ columns))
    ∙ sym (append_assoc column (32 ∷ join_with_byte 32 (next ∷ columns)) (10 ∷ []))

-- the first columns of a line, each with the space after it
abbrev pub begun : List (List ℕ) → List ℕ
begun [] = []
begun (column ∷ columns) = column ++ 32 ∷ begun columns

begun-nested : (front : List (List ℕ)) (column : List ℕ) (columns : List (List ℕ))
    → begun front ++ nested (column ∷ columns) ≡ nested (front ++ column ∷ columns)
begun-nested [] column columns = refl
begun-nested (first ∷ []) column columns = append_assoc first (32 ∷ []) (nested (column ∷ columns))
begun-nested (first ∷ next ∷ front) column columns =
    append_assoc first (32 ∷ begun (next ∷ front)) (nested (column ∷ columns))
    ∙ ap (λ (rest : List ℕ). first ++ 32 ∷ rest) (begun-nested (next ∷ front) column columns)

-- a line was written, column by column
pub line_written : {T E : Type 0} (r : Result T E) (old new : Option (List ℕ)) (written columns : List (List ℕ)) → written ≡ columns
    → OnOk r (Appends old new (nested written)) → OnOk r (Appends old new (line_of columns))
line_written r old new written columns same =
    subst (λ (text : List ℕ). OnOk r (Appends old new text)) (ap nested same ∙ line_of-nested columns)

-- the first columns were written, and then the rest
pub rest_written : {T E : Type 0} (r : Result T E) (old now new : Option (List ℕ)) (front : List (List ℕ)) (column : List ℕ)
    (columns : List (List ℕ)) → Appends old now (begun front)
    → OnOk r (Appends now new (nested (column ∷ columns))) → OnOk r (Appends old new (nested (front ++ column ∷ columns)))
rest_written r old now new front column columns first rest =
    on_ok_weaker r (λ last. subst (Appends old new) (begun-nested front column columns)
    (appends-more old now new (begun front) (nested (column ∷ columns)) first last)) rest

-- dollars at the right of seven places, the point and four decimals are a price at the right of a column of 12
pub price_column : (spec : _) (n price : ℕ) → spec ≡ format_spec 32 3 0 7 no_precision → n ≡ price
    → styled_decimal spec (n / 10000) ++ 46 ∷ (decimal (n / 1000 % 10)
    ++ (decimal (n / 100 % 10) ++ (decimal (n / 10 % 10) ++ decimal (n % 10)))) ≡ at_right 12 (price_text price)
price_column spec n price options same =
    let decimals : List ℕ = 46 ∷ digit_at 1000 n ∷ digit_at 100 n ∷ digit_at 10 n ∷ digit_at 1 n ∷ [] in
    let room : 7 - length (decimal (n / 10000)) ≡ 12 - length (price_text n) =
    omega (arith, length-append (decimal (n / 10000)) decimals) in
    let last : decimal (n % 10) ≡ digit_at 1 n ∷ [] = decimal_digit (n % 10) (omega arith)
    ∙ ap (λ (m : ℕ). (48 + m % 10) ∷ []) (omega arith) in
    rw (
      options,
      styled_right 7 (n / 10000),
      decimal_digit (n / 1000 % 10) (omega arith),
      decimal_digit (n / 100 % 10) (omega arith),
      decimal_digit (n / 10 % 10) (omega arith),
      last,
    )
    (append_assoc (replicate (7 - length (decimal (n / 10000))) 32) (decimal (n / 10000)) decimals
    ∙ ap (λ (blanks : ℕ). replicate blanks 32 ++ price_text n) room
    ∙ ap (λ (m : ℕ). at_right 12 (price_text m)) same)

-- one more of a list's elements was written, each as its line
pub one_more_written : {X : Type 0} (line : X → List ℕ) (old now new : Option (List ℕ)) (xs : List X) (i : ℕ) (x : X) → i < length xs
    → x ≡ slice_index_or xs i x
    → Appends old now (flat_map line (take i xs)) → Appends now new (line x) → Appends old new (flat_map line (take (i + 1) xs))
one_more_written line old now new xs i x within is before more =
    let one : take (i + 1) xs ≡ take i xs ++ x ∷ [] = take_more xs i x within ∙ ap (λ y. take i xs ++ y ∷ []) (sym is) in
    let text : flat_map line (take i xs) ++ line x ≡ flat_map line (take (i + 1) xs) = flat_map_more line [] (take i xs) x
    ∙ ap (flat_map line) (sym one) in
    subst (Appends old new) text (appends-more old now new (flat_map line (take i xs)) (line x) before more)

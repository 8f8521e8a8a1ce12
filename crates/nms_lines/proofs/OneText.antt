-- No field of a plan's text needs a quote, so `csv` writes its records as they are.
use Rattle.std.proofs.Common.{arith, ℕ, zero, suc, ℤ, pos, negsuc, ◌≡◌, ◌+◌, ◌/◌, ◌%◌, ◌<◌, ◌==◌, ◌&&◌, ◌||◌, Bool, true, false, cond, List}
use Rattle.std.proofs.Common.{[], ◌∷◌, ◌++◌, refl, sym, ap, ◌∙◌, map, length}
use Rattle.std.specs.Prelude.{option_map, slice_get, unwrap_or, codes, if◌then◌else◌}
use Rattle.std.specs.Fmt.{decimal, digit_glyph, digits, digits_onto}
use Rattle.std.specs.List.{join_with_byte, list_all}
use Rattle.std.proofs.lemmas.Bool.Decides.{nat_tests}
use Rattle.std.proofs.lemmas.Bool.{lt-ltb}
use Rattle.std.proofs.lemmas.List.{append-nil}
use Rattle.std.proofs.lemmas.List.Concat.{flat_map-append}
use Rattle.csv.specs.Writing.{default_writer, field_text, fields_text, is_blank, needs_byte, needs_quotes, row_body, row_text}
use Rattle.nms_units.specs.Money.{amount_text, money_text, three_digits}
use Rattle.nms_units.specs.Price.{digit_at, price_text}
use Rattle.nms_quote.specs.Members.{nobody}
use Rattle.nms_quote.specs.Roster.{Listing, Name, is_name_char, is_name_of, is_part_name, is_symbol_char, is_symbol_name, part_text}
use Rattle.nms_quote.specs.Roster.{symbol_text}
use Rattle.nms_quote.specs.declared.order.OrderSide.{OrderSide}
use Rattle.nms_quote.specs.declared.order.OrderSide.TheVariants.{Buy, Sell}
use Rattle.nms_quote.specs.declared.plan.Leg.{Leg}
use Rattle.nms_quote.specs.declared.plan.Plan.{Plan}
use Rattle.nms_quote.specs.declared.certificate.Cut.{Cut}
use Rattle.nms_quote.specs.declared.certificate.CutKind.{CutKind}
use Rattle.nms_quote.specs.declared.certificate.CutKind.TheVariants as kind
use Rattle.nms_lines.specs.Layout.{Record}
use Rattle.nms_lines.specs.Named.{members_below, named_fields, names_text}
use Rattle.nms_lines.specs.PlanText.{cut_record, end_record, flag_text, kind_fields, leg_record, plan_record, side_letter}
use Rattle.nms_lines.specs.Text.{record_text, text_of}
use Rattle.nms_lines.specs.TextLaws.{NeedsNoQuote, csv_text}

-- ---- bytes and texts that need no quote

abbrev IsPlainByte : ℕ → Type 0
IsPlainByte c = needs_byte default_writer c ≡ false

pub record IsPlain (text : List ℕ) : Type 0 where
  pub none : needs_quotes default_writer text ≡ false

pub plain_nil : IsPlain []
plain_nil = record { none = refl }

plain_cons : (c : ℕ) (text : List ℕ) → IsPlainByte c → IsPlain text → IsPlain (c ∷ text)
plain_cons c text here rest = record { none = rw (here, rest.none) refl }

neither : (a b : Bool) → (a || b) ≡ false → (a ≡ false) × (b ≡ false)
neither true b is = absurd (cc)
neither false b is = (refl, is)

plain_append : (a b : List ℕ) → IsPlain a → IsPlain b → IsPlain (a ++ b)
plain_append [] b first second = second
plain_append (c ∷ a) b first second =
    let parts = neither (needs_byte default_writer c) (needs_quotes default_writer a) first.none in
    plain_cons c (a ++ b) parts.0 (plain_append a b (record { none = parts.1 }) second)

-- ---- numbers

plain_digit : (d : ℕ) → d < 10 → IsPlainByte (48 + d)
plain_digit d small = grind (arith, nat_tests)

plain_glyph : (n : ℕ) → IsPlainByte (digit_glyph false (n % 10))
plain_glyph n = let small : n % 10 < 10 = omega arith in rw (lt-ltb (n % 10) 10 small) (plain_digit (n % 10) small)

plain_onto : (k n : ℕ) (behind : List ℕ) → IsPlain behind → IsPlain (digits_onto k 10 false n behind)
plain_onto zero n behind plain = plain
plain_onto (suc k) n behind plain =
    let more : IsPlain (digit_glyph false (n % 10) ∷ behind) = plain_cons (digit_glyph false (n % 10)) behind (plain_glyph n) plain in
    either (n / 10 == 0) _ _ more (plain_onto k (n / 10) _ more)
  where
    either : (b : Bool) (xs ys : List ℕ) → IsPlain xs → IsPlain ys → IsPlain (cond b xs ys)
    either true xs ys p q = p
    either false xs ys p q = q

pub plain_decimal : (n : ℕ) → IsPlain (decimal n)
unfolding digits
plain_decimal n = plain_onto 64 n [] plain_nil

plain_digit_at : (unit n : ℕ) → IsPlainByte (digit_at unit n)
plain_digit_at unit n = plain_digit (n / unit % 10) (omega arith)

pub plain_price : (price : ℕ) → IsPlain (price_text price)
plain_price n =
    plain_append (decimal (n / 10000)) _ (plain_decimal (n / 10000))
    (plain_cons 46 _ refl (plain_cons _ _ (plain_digit_at 1000 n)
    (plain_cons _ _ (plain_digit_at 100 n) (plain_cons _ _ (plain_digit_at 10 n) (plain_cons _ _ (plain_digit_at 1 n) plain_nil)))))

plain_three : (n : ℕ) → IsPlain (three_digits n)
plain_three n = plain_cons _ _ (plain_digit_at 100 n) (plain_cons _ _ (plain_digit_at 10 n) (plain_cons _ _ (plain_digit_at 1 n) plain_nil))

plain_amount : (n : ℕ) → IsPlain (amount_text n)
plain_amount n =
    plain_append _ (three_digits n)
    (plain_append _ (three_digits (n / 1000))
    (plain_append (decimal (n / 1000000000)) _ (plain_decimal (n / 1000000000)) (plain_cons 46 _ refl (plain_three (n / 1000000))))
    (plain_three (n / 1000)))
    (plain_three n)

plain_money : (money : ℤ) → IsPlain (money_text money)
plain_money (pos n) = plain_amount n
plain_money (negsuc n) = plain_cons 45 _ refl (plain_amount (suc n))

-- ---- names

both : (a b : Bool) → (a && b) ≡ true → (a ≡ true) × (b ≡ true)
both true b h = (refl, h)
both false b h = absurd (cc)

plain_name_char : (c : ℕ) → is_name_char c ≡ true → IsPlainByte c
plain_name_char c is = grind (arith, nat_tests)

plain_symbol_char : (c : ℕ) → is_symbol_char c ≡ true → IsPlainByte c
plain_symbol_char c is = grind (arith, nat_tests)

plain_chars : (passes : ℕ → Bool) → ((c : ℕ) → passes c ≡ true → IsPlainByte c) → (name : List ℕ) → list_all passes name ≡ true
    → IsPlain name
plain_chars passes plain [] all = plain_nil
plain_chars passes plain (c ∷ name) all =
    let parts = both (passes c) (list_all passes name) all in
    plain_cons c name (plain c parts.0) (plain_chars passes plain name parts.1)

plain_name : (passes : ℕ → Bool) (most : ℕ) → ((c : ℕ) → passes c ≡ true → IsPlainByte c) → (name : List ℕ)
    → is_name_of passes most name ≡ true → IsPlain name
plain_name passes most plain name is = plain_chars passes plain name (both _ (list_all passes name) is).1

-- the name of an entry's place, which is empty past the last
plain_entry : {Z : Type 0} (is_name : Name → Bool) (entries : List (Name × Z)) → ((name : Name) → is_name name ≡ true → IsPlain name)
    → ((place : ℕ) → place < length entries → is_name (unwrap_or (option_map (λ entry. entry.0) (slice_get entries place)) []) ≡ true)
    → (place : ℕ) → IsPlain (unwrap_or (option_map (λ entry. entry.0) (slice_get entries place)) [])
plain_entry is_name [] plain named place = plain_nil
plain_entry is_name (entry ∷ entries) plain named zero = plain entry.0 (named zero (omega arith))
plain_entry is_name (entry ∷ entries) plain named (suc place) =
    plain_entry is_name entries plain (λ k within. named (suc k) (omega arith)) place

-- each name of the roster is of its form
pub record IsNamed (roster : Listing) : Type 0 where
  pub parts : (part : ℕ) → part < length roster.parts → is_part_name (part_text roster part) ≡ true
  pub syms : (sym : ℕ) → sym < length roster.syms → is_symbol_name (symbol_text roster sym) ≡ true

pub plain_part : (roster : Listing) → IsNamed roster → (part : ℕ) → IsPlain (part_text roster part)
plain_part roster named part = plain_entry is_part_name roster.parts (λ name is. plain_name is_name_char 4 plain_name_char name is)
    named.parts part

pub plain_symbol : (roster : Listing) → IsNamed roster → (sym : ℕ) → IsPlain (symbol_text roster sym)
plain_symbol roster named sym =
    plain_entry is_symbol_name roster.syms (λ name is. plain_name is_symbol_char 8 plain_symbol_char name is) named.syms sym

-- ---- records

-- each of these fields
abbrev pub ArePlain : Record → Type 0
ArePlain [] = Unit {0}
ArePlain (field ∷ rest) = IsPlain field × ArePlain rest

field_as_it_is : (field : List ℕ) → IsPlain field → field_text default_writer field ≡ field
field_as_it_is field plain = rw plain.none refl

body_as_it_is : (field : List ℕ) (rest : Record) → IsPlain field → ArePlain rest
    → row_body default_writer (field ∷ rest) ≡ join_with_byte 44 (field ∷ rest)
unfolding fields_text
body_as_it_is field [] plain all = append-nil (field_text default_writer field) ∙ field_as_it_is field plain
body_as_it_is field (next ∷ rest) plain all =
    ap (λ (text : List ℕ). text ++ 44 ∷ row_body default_writer (next ∷ rest)) (field_as_it_is field plain)
    ∙ ap (λ (text : List ℕ). field ++ 44 ∷ text) (body_as_it_is next rest all.0 all.1)

-- `csv` writes it as it is
pub record IsSame (fields : Record) : Type 0 where
  pub same : row_text default_writer fields ≡ record_text fields

pub row_as_it_is : (field next : List ℕ) (rest : Record) → IsPlain field → IsPlain next → ArePlain rest → IsSame (field ∷ next ∷ rest)
unfolding is_blank
row_as_it_is field next rest first second all =
    record { same = ap (λ (text : List ℕ). text ++ 10 ∷ []) (body_as_it_is field (next ∷ rest) first (second, all)) }

pub word : (text : List ℕ) → needs_quotes default_writer text ≡ false → IsPlain text
word text none = record { none = none }

plain_side : (side : OrderSide) → IsPlain (side_letter side)
plain_side Buy = word (codes "B") refl
plain_side Sell = word (codes "S") refl

plain_flag : (manual : Bool) → IsPlain (flag_text manual)
plain_flag true = word (codes "M") refl
plain_flag false = plain_nil

plain_joined : (fields : Record) → ArePlain fields → IsPlain (join_with_byte 43 fields)
plain_joined [] all = plain_nil
plain_joined (field ∷ []) all = all.0
plain_joined (field ∷ next ∷ rest) all =
    plain_append field (43 ∷ join_with_byte 43 (next ∷ rest)) all.0 (plain_cons 43 _ refl (plain_joined (next ∷ rest) all.1))

plain_parts : (roster : Listing) → IsNamed roster → (parts : List ℕ) → ArePlain (map (part_text roster) parts)
plain_parts roster named [] = tt
plain_parts roster named (part ∷ parts) = (plain_part roster named part, plain_parts roster named parts)

plain_named : (roster : Listing) → IsNamed roster → (set : ℕ) → ArePlain (named_fields roster set)
plain_named roster named set = either (set == nobody)
  where
    either : (none : Bool) → ArePlain (if none then [] else names_text roster set ∷ [])
    either true = tt
    either false = (
      plain_joined (map (part_text roster) (members_below (length roster.parts) set))
          (plain_parts roster named (members_below (length roster.parts) set)),
      tt,
    )

plan_same : (roster : Listing) → IsNamed roster → (plan : Plan) → IsSame (plan_record roster plan)
plan_same roster named plan =
    row_as_it_is (codes "PLAN") (decimal plan.version)
    (side_letter plan.order.side ∷ symbol_text roster plan.order.sym ∷ decimal plan.order.shares ∷ price_text plan.order.limit
    ∷ flag_text plan.order.manual ∷ decimal plan.filled ∷ money_text plan.cost ∷ named_fields roster plan.order.self_help)
    (word (codes "PLAN") refl) (plain_decimal plan.version) (
      plain_side plan.order.side,
      (
        plain_symbol roster named plan.order.sym,
        (
          plain_decimal plan.order.shares,
          (
            plain_price plan.order.limit,
            (
              plain_flag plan.order.manual,
              (plain_decimal plan.filled, (plain_money plan.cost, plain_named roster named plan.order.self_help)),
            ),
          ),
        ),
      ),
    )

leg_same : (roster : Listing) → IsNamed roster → (leg : Leg) → IsSame (leg_record roster leg)
leg_same roster named leg =
    row_as_it_is (codes "LEG") (part_text roster leg.part) (price_text leg.price ∷ decimal leg.shares ∷ [])
    (word (codes "LEG") refl) (plain_part roster named leg.part) (plain_price leg.price, (plain_decimal leg.shares, tt))

kind_plain : (said : CutKind) → ArePlain (kind_fields said)
kind_plain kind.TooMuch = (word (codes "TOOMUCH") refl, (plain_nil, tt))
kind_plain kind.TooLittle = (word (codes "TOOLITTLE") refl, (plain_nil, tt))
kind_plain (kind.Marginal money) = (word (codes "MARGINAL") refl, (plain_money money, tt))

cut_same : (cut : Cut) → IsSame (cut_record cut)
cut_same cut = row_as_it_is (codes "CUT") (price_text cut.price) (kind_fields cut.kind) (word (codes "CUT") refl) (plain_price cut.price)
    (kind_plain cut.kind)

end_same : IsSame end_record
unfolding fields_text is_blank
end_same = record { same = refl }

-- ---- all of them

abbrev pub AreSame : List Record → Type 0
AreSame records = text_of records ≡ csv_text records

one_more : (fields : Record) (records : List Record) → IsSame fields → AreSame records → AreSame (fields ∷ records)
one_more fields records first rest =
    ap (λ (text : List ℕ). text ++ text_of records) (sym first.same) ∙ ap (λ (text : List ℕ). row_text default_writer fields ++ text) rest

pub each_same : {A : Type 0} (record_of : A → Record) → ((item : A) → IsSame (record_of item)) → (items : List A)
    → AreSame (map record_of items)
each_same record_of same [] = refl
each_same record_of same (item ∷ items) = one_more (record_of item) (map record_of items) (same item) (each_same record_of same items)

both_same : (front back : List Record) → AreSame front → AreSame back → AreSame (front ++ back)
both_same front back first second =
    flat_map-append record_text front back
    ∙ ap (λ (text : List ℕ). text ++ text_of back) first
    ∙ ap (λ (text : List ℕ). csv_text front ++ text) second
    ∙ sym (flat_map-append (row_text default_writer) front back)

pub one_text : (roster : Listing) → IsNamed roster → NeedsNoQuote roster
one_text roster named = λ plan certificate.
    let legs : List Record = map (leg_record roster) plan.legs.items in
    let cuts : List Record = map cut_record certificate in
    one_more (plan_record roster plan) (legs ++ (cuts ++ (end_record ∷ []))) (plan_same roster named plan)
    (both_same legs (cuts ++ (end_record ∷ [])) (each_same (leg_record roster) (leg_same roster named) plan.legs.items)
    (both_same cuts (end_record ∷ []) (each_same cut_record cut_same certificate) (one_more end_record [] end_same refl)))

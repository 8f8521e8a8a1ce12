-- What is written of a plan is read as that plan.
use Rattle.std.proofs.Common.{arith, ℕ, ℤ, pos, ◌≡◌, ◌<◌, ◌≤◌, ◌^◌, ◌==◌, ◌<ℤ◌, neg_ℤ, Bool, true, false, List, All, [], ◌∷◌, ◌++◌, refl}
use Rattle.std.proofs.Common.{subst, sym, Option, Some, None, inl, inr, map, length, lit<}
use Rattle.std.specs.Prelude.{Ok}
use Rattle.std.specs.Fmt.{decimal}
use Rattle.std.proofs.lemmas.Bool.{cases_Bool, eqb-true, le-leb, ne_eqb}
use Rattle.std.proofs.lemmas.List.Elements.{All-append, All-cons, All-head, All-map, All-nil, All-tail}
use Rattle.csv.specs.Machine.{next_record}
use Rattle.csv.specs.Reading.{Reached, default_config, strip_bom}
use Rattle.csv.specs.Writing.{read_back}
use Rattle.csv.specs.declared.parser.State.TheVariants as state
use Rattle.csv.proofs.RoundTrip.{read-write}
use Rattle.nms_units.specs.Digits.{number_in}
use Rattle.nms_units.specs.Price as units_price
use Rattle.nms_units.specs.Price.{price_number, price_reading, price_text}
use Rattle.nms_units.specs.Money.{money_number, money_reading, money_text, or_bad_money}
use Rattle.nms_units.specs.declared.TheConstants.{MOST_PRICE, MOST_SHARES}
use Rattle.nms_quote.specs.Members.{nobody}
use Rattle.nms_quote.specs.Roster.{Listing, is_part_name, part_text, place_in, symbol_text}
use Rattle.nms_quote.specs.declared.order.OrderSide.{OrderSide}
use Rattle.nms_quote.specs.declared.order.OrderSide.TheVariants.{Buy, Sell}
use Rattle.nms_quote.specs.declared.plan.Leg.{Leg}
use Rattle.nms_quote.specs.declared.plan.Plan.{Plan}
use Rattle.nms_quote.specs.declared.certificate.Cut.{Cut}
use Rattle.nms_quote.specs.declared.certificate.CutKind.{CutKind}
use Rattle.nms_quote.specs.declared.certificate.CutKind.TheVariants as kind
use Rattle.nms_lines.specs.Fields.{flag_named, side_named}
use Rattle.nms_lines.specs.Layout.{Record}
use Rattle.nms_lines.specs.Numbers.{above_zero, shares_number}
use Rattle.nms_lines.specs.PlanLaws.{FitsText, IsCutInRange, IsKindInRange, IsLegInRange, IsMoneyInRange, IsPriceInRange, ReadsAsWritten}
use Rattle.nms_lines.specs.PlanReading.{behind_legs, cuts_in, legs_of, plan_in, said_by}
use Rattle.nms_lines.specs.PlanRecords.{cut_in, head_in, leg_in}
use Rattle.nms_lines.specs.PlanText.{cut_record, end_record, flag_text, leg_record, plan_record, plan_records, side_letter}
use Rattle.nms_lines.specs.Records.{AreAllRecords}
use Rattle.nms_lines.proofs.NamedFacts.{names_back}
use Rattle.nms_lines.specs.TextLaws.{NeedsNoQuote, csv_text}

-- ---- the text has its records

-- the records of a text, each of at least one field
abbrev pub AreWhole : List Record → Type 0
AreWhole records = All (λ fields. read_back fields ≡ fields) records

pub reached : (records : List Record) → AreWhole records
    → Reached default_config state.StartRecord (csv_text records) records state.StartRecord []
unfolding Reached
reached [] whole = (refl, refl)
reached (fields ∷ records) whole = (
  (read_back fields, state.StartRecord, csv_text records),
  read-write fields (csv_text records),
  sym (All-head (λ fields. read_back fields ≡ fields) fields records whole),
  reached records (All-tail (λ fields. read_back fields ≡ fields) fields records whole),
)

-- ---- numbers

price_from : (found : Option ℕ) (price : ℕ) → units_price.above_zero found ≡ Ok price → above_zero found ≡ Some price
price_from None price is = let nothing : ⊥ = cc is in absurd nothing
price_from (Some n) price is = elim (cases_Bool (n == 0)) [
  | inl zero ↦ let bad = rw zero at is in let nothing : ⊥ = cc bad in absurd nothing
  | inr some ↦ let same = rw some at is in rw some (cc same)
]

money_from : (found : Option ℤ) (money : ℤ) → or_bad_money found ≡ Ok money → found ≡ Some money
money_from None money is = let nothing : ⊥ = cc is in absurd nothing
money_from (Some z) money is = cc is

-- ---- records

-- how names and numbers read back
pub record Reads (roster : Listing) : Type 0 where
  pub digits : (most n : ℕ) → 0 < most → n < 10 ^ most → n < 10 ^ 64 → number_in most (decimal n) ≡ Some n
  pub prices : (price : ℕ) → 1 ≤ price → price ≤ MOST_PRICE → price_reading (price_text price) ≡ Ok price
  pub monies : (money : ℤ) → neg_ℤ (pos (10 ^ 29)) <ℤ money → money <ℤ pos (10 ^ 29) → money_reading (money_text money) ≡ Ok money
  pub parts : (part : ℕ) → part < length roster.parts → place_in roster.parts (part_text roster part) ≡ Some part
  pub formed : (part : ℕ) → part < length roster.parts → is_part_name (part_text roster part) ≡ true
  pub syms : (sym : ℕ) → sym < length roster.syms → place_in roster.syms (symbol_text roster sym) ≡ Some sym

pub price_back : (roster : Listing) → Reads roster → (price : ℕ) → IsPriceInRange price
    → above_zero (price_number (price_text price)) ≡ Some price
price_back roster reads price range = price_from (price_number (price_text price)) price (reads.prices price range.0 range.1)

money_back : (roster : Listing) → Reads roster → (money : ℤ) → IsMoneyInRange money → money_number (money_text money) ≡ Some money
money_back roster reads money range = money_from (money_number (money_text money)) money (reads.monies money range.0 range.1)

pub shares_back : (roster : Listing) → Reads roster → (shares : ℕ) → shares ≤ MOST_SHARES → shares_number (decimal shares) ≡ Some shares
shares_back roster reads shares most = reads.digits 9 shares (lit< tt) (omega (arith, most)) (omega (arith, most))

pub some_back : (shares : ℕ) → 1 ≤ shares → above_zero (Some shares) ≡ Some shares
some_back shares some = rw (ne_eqb shares 0 (omega (arith, some))) refl

side_back : (side : OrderSide) → side_named (side_letter side) ≡ Some side
side_back Buy = refl
side_back Sell = refl

flag_back : (manual : Bool) → flag_named (flag_text manual) ≡ Some manual
flag_back true = refl
flag_back false = refl

-- the field that names participants is read as their set; without it none is named
head_named : (roster : Listing) → Reads roster → (plan : Plan) (certificate : List Cut) → FitsText roster plan certificate
    → (none : Bool) → (plan.order.self_help == nobody) ≡ none → head_in roster (plan_record roster plan)
    ≡ Some (said_by plan certificate).head
head_named roster reads plan certificate fits true none =
    let same : plan.order.self_help ≡ 0 = eqb-true plan.order.self_help nobody none in
    rw (
      none,
      reads.digits 8 plan.version (lit< tt) fits.version (omega (arith, fits.version)),
      side_back plan.order.side,
      reads.syms plan.order.sym fits.sym,
      shares_back roster reads plan.order.shares fits.shares,
      some_back plan.order.shares fits.some,
      price_back roster reads plan.order.limit fits.limit,
      flag_back plan.order.manual,
      shares_back roster reads plan.filled fits.filled,
      money_back roster reads plan.cost fits.cost,
      same,
    ) refl
head_named roster reads plan certificate fits false some =
    rw (
      some,
      names_back roster reads.parts reads.formed plan.order.self_help fits.self_help some,
      reads.digits 8 plan.version (lit< tt) fits.version (omega (arith, fits.version)),
      side_back plan.order.side,
      reads.syms plan.order.sym fits.sym,
      shares_back roster reads plan.order.shares fits.shares,
      some_back plan.order.shares fits.some,
      price_back roster reads plan.order.limit fits.limit,
      flag_back plan.order.manual,
      shares_back roster reads plan.filled fits.filled,
      money_back roster reads plan.cost fits.cost,
    ) refl

head_back : (roster : Listing) → Reads roster → (plan : Plan) (certificate : List Cut) → FitsText roster plan certificate
    → head_in roster (plan_record roster plan) ≡ Some (said_by plan certificate).head
head_back roster reads plan certificate fits = head_named roster reads plan certificate fits (plan.order.self_help == nobody) refl

leg_back : (roster : Listing) → Reads roster → (leg : Leg) → IsLegInRange roster leg → leg_in roster (leg_record roster leg) ≡ Some leg
leg_back roster reads leg range =
    rw (reads.parts leg.part range.0, price_back roster reads leg.price range.1, shares_back roster reads leg.shares range.2) refl

kind_back : (roster : Listing) → Reads roster → (price : ℕ) (said : CutKind) → IsPriceInRange price → IsKindInRange said
    → cut_in (cut_record (record { price = price; kind = said })) ≡ Some (record { price = price; kind = said })
kind_back roster reads price kind.TooMuch range fits = rw (price_back roster reads price range) refl
kind_back roster reads price kind.TooLittle range fits = rw (price_back roster reads price range) refl
kind_back roster reads price (kind.Marginal money) range fits =
    rw (price_back roster reads price range, money_back roster reads money fits) refl

cut_back : (roster : Listing) → Reads roster → (cut : Cut) → IsCutInRange cut → cut_in (cut_record cut) ≡ Some cut
cut_back roster reads cut range = kind_back roster reads cut.price cut.kind range.0 range.1

-- ---- all of them

cuts_back : (roster : Listing) → Reads roster → (cuts : List Cut) → All IsCutInRange cuts
    → cuts_in (map cut_record cuts ++ end_record ∷ []) ≡ Some cuts
unfolding cuts_in
cuts_back roster reads [] range = refl
cuts_back roster reads (cut ∷ cuts) range =
    rw (
      cut_back roster reads cut (All-head IsCutInRange cut cuts range),
      cuts_back roster reads cuts (All-tail IsCutInRange cut cuts range),
    ) refl

legs_back : (roster : Listing) → Reads roster → (legs : List Leg) (cuts : List Cut) → All (IsLegInRange roster) legs
    → legs_of roster (map (leg_record roster) legs ++ (map cut_record cuts ++ end_record ∷ [])) ≡ legs
unfolding legs_of
legs_back roster reads [] [] range = refl
legs_back roster reads [] (cut ∷ cuts) range = refl
legs_back roster reads (leg ∷ legs) cuts range =
    rw (
      leg_back roster reads leg (All-head (IsLegInRange roster) leg legs range),
      legs_back roster reads legs cuts (All-tail (IsLegInRange roster) leg legs range),
    ) refl

behind_back : (roster : Listing) → Reads roster → (legs : List Leg) (cuts : List Cut) → All (IsLegInRange roster) legs
    → behind_legs roster (map (leg_record roster) legs ++ (map cut_record cuts ++ end_record ∷ [])) ≡ map cut_record cuts ++ end_record ∷ []
unfolding behind_legs
behind_back roster reads [] [] range = refl
behind_back roster reads [] (cut ∷ cuts) range = refl
behind_back roster reads (leg ∷ legs) cuts range =
    rw (leg_back roster reads leg (All-head (IsLegInRange roster) leg legs range))
    (behind_back roster reads legs cuts (All-tail (IsLegInRange roster) leg legs range))

pub plan_back : (roster : Listing) → Reads roster → (plan : Plan) (certificate : List Cut) → FitsText roster plan certificate
    → plan_in roster (plan_records roster plan certificate) ≡ Some (said_by plan certificate)
plan_back roster reads plan certificate fits =
    rw (
      head_back roster reads plan certificate fits,
      behind_back roster reads plan.legs.items certificate fits.legs,
      cuts_back roster reads certificate fits.cuts,
      legs_back roster reads plan.legs.items certificate fits.legs,
      le-leb (length plan.legs.items) 32 fits.few_legs,
      le-leb (length certificate) 32 fits.few_cuts,
    ) refl

-- ---- the law

abbrev IsWhole : Record → Type 0
IsWhole fields = read_back fields ≡ fields

whole : (roster : Listing) (plan : Plan) (certificate : List Cut) → AreWhole (plan_records roster plan certificate)
whole roster plan certificate =
    let cuts : AreWhole (map cut_record certificate) = All-map IsWhole cut_record certificate (λ k d within. refl) in
    let end : AreWhole (end_record ∷ []) = All-cons IsWhole end_record [] refl (All-nil IsWhole) in
    let legs : AreWhole (map (leg_record roster) plan.legs.items) =
    All-map IsWhole (leg_record roster) plan.legs.items (λ k d within. refl) in
    All-cons IsWhole (plan_record roster plan) (map (leg_record roster) plan.legs.items ++ (map cut_record certificate ++ end_record ∷ []))
    refl
    (All-append IsWhole (map (leg_record roster) plan.legs.items) (map cut_record certificate ++ end_record ∷ []) legs
    (All-append IsWhole (map cut_record certificate) (end_record ∷ []) cuts end))

pub reads_as_written : (roster : Listing) → NeedsNoQuote roster → Reads roster → ReadsAsWritten roster
unfolding next_record strip_bom
reads_as_written roster plain reads = λ plan certificate fits.
    let records : List Record = plan_records roster plan certificate in
    let written : AreAllRecords (Some (csv_text records)) records =
    (state.StartRecord, [], reached records (whole roster plan certificate), refl) in (
      subst (λ (text : List ℕ). AreAllRecords (Some text) records) (sym (plain plan certificate)) written,
      plan_back roster reads plan certificate fits,
    )

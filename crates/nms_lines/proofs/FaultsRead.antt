-- A record is read as the first of all faults that hold of it, with its place, or as a line if none does.
use Rattle.std.proofs.Common.{◌≡◌, ℕ, true, false, Bool, not, ◌&&◌, [], ◌∷◌, ◌++◌, length, Option, Some, None, Ok, Err}
use Rattle.std.proofs.Common.{Result, refl, sym, ap, ◌∙◌, ◌+◌, ◌<◌, lit<, lit≤, if◌then◌else◌}
use Rattle.std.specs.Prelude.{is_none, is_some, IsOk, codes, option_map}
use Rattle.std.specs.Fmt.{decimal}
use Rattle.std.specs.Option.{ok_or, option_map_or, option_or}
use Rattle.std.proofs.lemmas.Fmt.{decimal_digit, decimal_step}
use Rattle.nms_quote.specs.Roster.{Listing, feed_at, place_in}
use Rattle.nms_lines.specs.FieldFaults.{is_foreign_lot, is_foreign_name, is_no_desk, is_no_flag, is_no_lot}
use Rattle.nms_lines.specs.FaultTable.{best_wrong, fault_at, kind_wrong, lot_wrong, quote_wrong, record_wrong, state_wrong, sweep_wrong}
use Rattle.nms_lines.specs.FaultTable.{through_wrong, withdraw_wrong}
use Rattle.nms_lines.specs.Faults.{◌>>=◌, at, code_of, number_of, of_record, refuse_at, refuse_if, unplaced, wrong_at}
use Rattle.nms_lines.specs.Fields.{desk_at, flag_in, lot_in, part_at, price_at, self_help_in, shares_at, side_at, side_named, state_at}
use Rattle.nms_lines.specs.Fields.{symbol_at}
use Rattle.nms_lines.specs.Laws.{IsFaultless, IsLeastFault, ReadsLeastFault}
use Rattle.nms_lines.specs.Layout.{Record, field, has_average, is_count, is_text}
use Rattle.nms_lines.specs.Lines.{best_reading, kind_reading, lot_reading, placed_reading, quote_reading, reading, state_reading}
use Rattle.nms_lines.specs.Lines.{sweep_reading, through_reading, withdraw_reading}
use Rattle.nms_lines.specs.Numbers.{lot_number}
use Rattle.nms_lines.specs.Sides.{bad_price_at, bad_shares_at, half_side_at}
use Rattle.nms_lines.specs.Sources.{desks_of, is_foreign, kind_in}
use Rattle.nms_lines.specs.declared.line.Kind.{Kind}
use Rattle.nms_lines.specs.declared.line.Kind.TheVariants as kind
use Rattle.nms_lines.specs.declared.line.Line.{Line}
use Rattle.nms_lines.specs.declared.line.Reading.{Reading}
use Rattle.nms_lines.specs.declared.line_fault.FaultPlace.{FaultPlace}
use Rattle.nms_lines.specs.declared.line_fault.FaultPlace.TheVariants as place
use Rattle.nms_lines.specs.declared.line_fault.LineFault.{LineFault}
use Rattle.nms_lines.specs.declared.line_fault.LineFault.TheVariants as fault
use Rattle.nms_lines.specs.declared.line_fault.PlacedFault.{PlacedFault}
use Rattle.nms_lines.proofs.FirstFault.{IsLeastOf, all_faults, all_rise, field_faults, first_of, first_is_least, is_among_all, least_is_first}
use Rattle.nms_lines.proofs.FirstFault.{no_first, none_holds, or_else}

-- ---- one step of a reading

-- the fault that is answered, if one is
abbrev told : {A : Type 0} → Result A PlacedFault → Option PlacedFault
told (Ok x) = None
told (Err p) = Some p

-- a fault of the field that is wrong, if one is, or else another
abbrev or_next : LineFault → Option ℕ → Option PlacedFault → Option PlacedFault
or_next f wrong rest = or_else f (option_map place.Field wrong) rest

-- a step with one fault, and then what the steps after it answer
step : {A : Type 0} (r : Result A PlacedFault) (more : A → Result Line PlacedFault) (f : LineFault) (wrong : Option FaultPlace)
    (rest : Option PlacedFault)
    → told r ≡ or_else f wrong None → ((x : A) → r ≡ Ok x → told (more x) ≡ rest) → told (r >>= more) ≡ or_else f wrong rest
step (Ok x) more f (Some at) rest e behind = absurd (cc)
step (Ok x) more f None rest e behind = behind x refl
step (Err p) more f (Some at) rest e behind = e
step (Err p) more f None rest e behind = absurd (cc)

refuse_if_told : (wrong : Bool) (f : LineFault) (n : ℕ) → told (refuse_if wrong (at f n)) ≡ or_next f (wrong_at n wrong) None
refuse_if_told true f n = refl
refuse_if_told false f n = refl

ok_or_told : {A : Type 0} (o : Option A) (f : LineFault) (n : ℕ) → told (ok_or o (at f n)) ≡ or_next f (wrong_at n (is_none o)) None
ok_or_told None f n = refl
ok_or_told (Some x) f n = refl

ok_or_found : {A : Type 0} (o : Option A) (p : PlacedFault) (x : A) → ok_or o p ≡ Ok x → o ≡ Some x
ok_or_found None p x e = absurd (cc)
ok_or_found (Some y) p x e = cc

-- ---- the steps of a kind

-- the last fault of a change: a participant of another feed
foreign_told : (roster : Listing) (from : Reading) (fields : Record) (part : ℕ) (line : Line) → part_at roster fields 1 ≡ Ok part
    → told (refuse_if (is_foreign from (feed_at roster part)) (at fault.WrongFeed 1) >>= (λ feed. Ok line))
    ≡ or_next fault.WrongFeed (wrong_at 1 (is_foreign_name roster from (field fields 1))) None
foreign_told roster from fields part line e =
    let known : is_foreign_name roster from (field fields 1) ≡ is_foreign from (feed_at roster part) =
    ap (λ place. option_map_or (λ p. is_foreign from (feed_at roster p)) place false)
    (ok_or_found (place_in roster.parts (field fields 1)) (at fault.UnknownParticipant 1) part e) in
    step (refuse_if (is_foreign from (feed_at roster part)) (at fault.WrongFeed 1)) _ fault.WrongFeed
    (option_map place.Field (wrong_at 1 (is_foreign from (feed_at roster part)))) None
    (refuse_if_told _ _ _) (λ x h. refl)
    ∙ ap (λ b. or_next fault.WrongFeed (wrong_at 1 b) None) (sym known)

-- the last fault of a look: its desk
desk_told : (from : Reading) (fields : Record) (line : ℕ → Line)
    → told (desk_at (desks_of from) fields 1 >>= (λ desk. Ok (line desk)))
    ≡ or_next fault.BadDesk (wrong_at 1 (is_no_desk from (field fields 1))) None
desk_told from fields line =
    step (desk_at (desks_of from) fields 1) _ fault.BadDesk (option_map place.Field (wrong_at 1 (is_no_desk from (field fields 1)))) None
    (ok_or_told _ _ _) (λ x h. refl)

-- two steps with one fault
either_told : (a b : Option ℕ) (f : LineFault) (rest : Option PlacedFault) → or_next f a (or_next f b rest) ≡ or_next f (option_or a b) rest
either_told (Some n) b f rest = refl
either_told None b f rest = refl

-- the steps of both sides, and then what the steps after them answer
sides_told : {S : Type 0} (price shares half : Option ℕ) (sides : S) (more : S → Result Line PlacedFault) (rest : Option PlacedFault)
    → told (more sides) ≡ rest
    → told ((refuse_at fault.BadPrice price >>= (λ x. refuse_at fault.BadShares shares
    >>= (λ y. refuse_at fault.HalfSide half >>= (λ z. Ok sides)))) >>= more)
    ≡ or_next fault.BadPrice price (or_next fault.BadShares shares (or_next fault.HalfSide half rest))
sides_told (Some n) shares half sides more rest e = refl
sides_told None (Some n) half sides more rest e = refl
sides_told None None (Some n) sides more rest e = refl
sides_told None None None sides more rest e = e

-- an average, if there are four fields and the word is there
abbrev averaged : Bool → Bool → Result ℕ PlacedFault → Result (Option ℕ) PlacedFault
averaged four word price =
    if four then (if word then price >>= (λ number. Ok (Some number)) else Err (at fault.BadState 2)) else Ok None

-- its two steps, and then what the steps after them answer
average_told : (four word : Bool) (price : Result ℕ PlacedFault) (no_price : Bool) (more : Option ℕ → Result Line PlacedFault)
    (rest : Option PlacedFault)
    → told price ≡ or_next fault.BadPrice (wrong_at 3 no_price) None
    → ((x : Option ℕ) → averaged four word price ≡ Ok x → told (more x) ≡ rest)
    → told (averaged four word price >>= more)
    ≡ or_next fault.BadState (wrong_at 2 (four && not word)) (or_next fault.BadPrice (wrong_at 3 (four && no_price)) rest)
average_told true false price no_price more rest e behind = refl
average_told true true (Ok number) true more rest e behind = absurd (cc)
average_told true true (Ok number) false more rest e behind = behind (Some number) refl
average_told true true (Err p) true more rest e behind = e
average_told true true (Err p) false more rest e behind = absurd (cc)
average_told false word price no_price more rest e behind = behind None refl

-- if an average was read, the third field is not checked as a lot
lot_in_told : (fields : Record) (four word : Bool) (price : Result ℕ PlacedFault) (average : Option ℕ)
    → averaged four word price ≡ Ok average
    → told (lot_in fields average) ≡ or_next fault.BadLot (wrong_at 2 (not four && is_none (lot_number (field fields 2)))) None
lot_in_told fields true word price (Some number) e = refl
lot_in_told fields true true (Ok number) None e = absurd (cc)
lot_in_told fields true true (Err p) None e = absurd (cc)
lot_in_told fields true false price None e = absurd (cc)
lot_in_told fields false word price None e = ok_or_told _ _ _
lot_in_told fields false word price (Some number) e = absurd (cc)

-- the first of the faults of a kind's fields that holds, and where
abbrev first_in : (LineFault → Option ℕ) → Option PlacedFault
first_in wrong = first_of (λ f. option_map place.Field (wrong f)) field_faults

quote_told : (roster : Listing) (from : Reading) (fields : Record)
    → told (quote_reading roster from fields) ≡ first_in (quote_wrong roster from fields)
quote_told roster from fields =
    step (part_at roster fields 1) _ fault.UnknownParticipant _ _ (ok_or_told _ _ _) (λ part is_part.
    step (symbol_at roster fields 2) _ fault.UnknownSymbol _ _ (ok_or_told _ _ _) (λ sym is_sym.
    step (state_at fields 3) _ fault.BadState _ _ (ok_or_told _ _ _) (λ state is_state.
    sides_told (bad_price_at fields) (bad_shares_at fields) (half_side_at fields) _ _ _
    (foreign_told roster from fields part _ is_part))))

state_told : (roster : Listing) (from : Reading) (fields : Record)
    → told (state_reading roster from fields) ≡ first_in (state_wrong roster from fields)
state_told roster from fields =
    step (part_at roster fields 1) _ fault.UnknownParticipant _ _ (ok_or_told _ _ _) (λ part is_part.
    step (symbol_at roster fields 2) _ fault.UnknownSymbol _ _ (ok_or_told _ _ _) (λ sym is_sym.
    step (state_at fields 3) _ fault.BadState _ _ (ok_or_told _ _ _) (λ state is_state.
    foreign_told roster from fields part _ is_part)))

withdraw_told : (roster : Listing) (from : Reading) (fields : Record)
    → told (withdraw_reading roster from fields) ≡ first_in (withdraw_wrong roster from fields)
withdraw_told roster from fields =
    step (part_at roster fields 1) _ fault.UnknownParticipant _ _ (ok_or_told _ _ _) (λ part is_part.
    foreign_told roster from fields part _ is_part)

lot_told : (roster : Listing) (from : Reading) (fields : Record)
    → told (lot_reading roster from fields) ≡ first_in (lot_wrong roster from fields)
lot_told roster from fields =
    step (symbol_at roster fields 1) _ fault.UnknownSymbol _ _ (ok_or_told _ _ _) (λ sym is_sym.
    average_told (has_average fields) (is_text (codes "AVG") (field fields 2)) (price_at fields 3) _ _ _ (ok_or_told _ _ _)
    (λ average is_average.
    step (refuse_if (is_foreign_lot from) (at fault.WrongFeed 0)) _ fault.WrongFeed _ _ (refuse_if_told _ _ _) (λ x h.
    step (lot_in fields average) _ fault.BadLot (option_map place.Field (wrong_at 2 (is_no_lot fields))) None
    (lot_in_told fields _ _ _ average is_average) (λ lot is_lot. refl))))

best_told : (roster : Listing) (from : Reading) (fields : Record)
    → told (best_reading roster from fields) ≡ first_in (best_wrong roster from fields)
best_told roster from fields =
    step (symbol_at roster fields 2) _ fault.UnknownSymbol _ _ (ok_or_told _ _ _) (λ sym is_sym. desk_told from fields _)

through_told : (roster : Listing) (from : Reading) (fields : Record)
    → told (through_reading roster from fields) ≡ first_in (through_wrong roster from fields)
through_told roster from fields =
    step (symbol_at roster fields 2) _ fault.UnknownSymbol _ _ (ok_or_told _ _ _) (λ sym is_sym.
    step (price_at fields 3) _ fault.BadPrice _ _ (ok_or_told _ _ _) (λ price is_price. desk_told from fields _))

sweep_told : (roster : Listing) (from : Reading) (fields : Record)
    → told (sweep_reading roster from fields) ≡ first_in (sweep_wrong roster from fields)
sweep_told roster from fields =
    step (self_help_in roster fields) _ fault.UnknownParticipant _ _ (ok_or_told _ _ _) (λ self_help is_self_help.
    step (symbol_at roster fields 3) _ fault.UnknownSymbol _ _ (ok_or_told _ _ _) (λ sym is_sym.
    step (side_at fields 2) _ fault.BadState _ _ (ok_or_told _ _ _) (λ side is_side.
    step (flag_in fields) _ fault.BadState (option_map place.Field (wrong_at 6 (is_no_flag fields))) _ (ok_or_told _ _ _)
    (λ manual is_flag.
    step (price_at fields 5) _ fault.BadPrice _ _ (ok_or_told _ _ _) (λ limit is_limit.
    step (shares_at fields 4) _ fault.BadShares _ _ (ok_or_told _ _ _) (λ shares is_shares. desk_told from fields _))))
    ∙ either_told (wrong_at 2 (is_none (side_named (field fields 2)))) (wrong_at 6 (is_no_flag fields)) fault.BadState _))

kind_told : (roster : Listing) (from : Reading) (fields : Record) (kind : Kind)
    → told (kind_reading roster from fields kind) ≡ first_in (kind_wrong roster from fields kind)
kind_told roster from fields kind.Quote = quote_told roster from fields
kind_told roster from fields kind.State = state_told roster from fields
kind_told roster from fields kind.Withdraw = withdraw_told roster from fields
kind_told roster from fields kind.Lot = lot_told roster from fields
kind_told roster from fields kind.TakeOne = refl
kind_told roster from fields kind.TakeAll = refl
kind_told roster from fields kind.Publish = refl
kind_told roster from fields kind.Tell = desk_told from fields _
kind_told roster from fields kind.Best = best_told roster from fields
kind_told roster from fields kind.Through = through_told roster from fields
kind_told roster from fields kind.Sweep = sweep_told roster from fields

-- ---- the complete record

count_told : (right : Bool) → told (refuse_if (not right) (of_record fault.FieldCount))
    ≡ or_else fault.FieldCount (if right then None else Some place.Record) None
count_told true = refl
count_told false = refl

record_told : (roster : Listing) (from : Reading) (fields : Record) (kind : Option Kind)
    → told (ok_or kind (at fault.UnknownKind 0) >>= (λ k. refuse_if (not (is_count k (length fields))) (of_record fault.FieldCount)
    >>= (λ count. kind_reading roster from fields k))) ≡ first_of (record_wrong roster from fields kind) all_faults
record_told roster from fields None = refl
record_told roster from fields (Some k) =
    step (refuse_if (not (is_count k (length fields))) (of_record fault.FieldCount)) _ fault.FieldCount _ _ (count_told _)
    (λ x h. kind_told roster from fields k)

reading_told : (roster : Listing) (from : Reading) (fields : Record)
    → told (placed_reading roster from fields) ≡ first_of (fault_at roster from fields) all_faults
reading_told roster from fields = record_told roster from fields (kind_in from fields)

refused_as : {A : Type 0} (r : Result A PlacedFault) (p : PlacedFault) → told r ≡ Some p → r ≡ Err p
refused_as (Ok x) p e = absurd (cc)
refused_as (Err q) p e = cc

same_fault : {A : Type 0} {f g : LineFault} → (let r : Result A LineFault = Err f in r) ≡ Err g → f ≡ g
same_fault e = cc

-- a fault that is read is read with a place
with_place : {A : Type 0} (r : Result A PlacedFault) (f : LineFault) → unplaced r ≡ Err f
    → (at : FaultPlace) × (told r ≡ Some (record { fault = f; place = at }))
with_place (Ok x) f e = absurd (cc)
with_place (Err p) f e = (p.place, ap (λ (g : LineFault). Some (record { fault = g; place = p.place })) (same_fault e))

none_told : {A : Type 0} (r : Result A PlacedFault) → IsOk (unplaced r) → told r ≡ None
none_told (Ok x) h = refl
none_told (Err p) h = absurd (cc)

is_ok : {A : Type 0} (r : Result A PlacedFault) → told r ≡ None → IsOk (unplaced r)
is_ok (Ok x) e = refl
is_ok (Err p) e = absurd (cc)

-- what is read as a fault is the least, and it is where the table has it
least_of : (roster : Listing) (from : Reading) (fields : Record) (p : PlacedFault) → told (placed_reading roster from fields) ≡ Some p
    → IsLeastOf (fault_at roster from fields) all_faults p
least_of roster from fields p e =
    first_is_least (fault_at roster from fields) 0 all_faults p all_rise (sym (reading_told roster from fields) ∙ e)

least_fault : (roster : Listing) (from : Reading) (fields : Record) (f : LineFault) → reading roster from fields ≡ Err f
    → IsLeastFault roster from fields f
least_fault roster from fields f e =
    let placed = with_place (placed_reading roster from fields) f e in
    let least = least_of roster from fields (record { fault = f; place = placed.0 }) placed.1 in
    record { holds = ap is_some least.0; least = λ other below. least.1 other (is_among_all other) below }

placed : (roster : Listing) (from : Reading) (fields : Record) (p : PlacedFault) → placed_reading roster from fields ≡ Err p
    → fault_at roster from fields p.fault ≡ Some p.place
placed roster from fields p e = (least_of roster from fields p (ap told e)).0

some_place : (found : Option FaultPlace) → is_some found ≡ true → (at : FaultPlace) × (found ≡ Some at)
some_place (Some at) e = (at, refl)
some_place None e = absurd (cc)

fault_read : (roster : Listing) (from : Reading) (fields : Record) (f : LineFault) → IsLeastFault roster from fields f
    → reading roster from fields ≡ Err f
fault_read roster from fields f least =
    let at = some_place (fault_at roster from fields f) least.holds in
    let p : PlacedFault = record { fault = f; place = at.0 } in
    ap unplaced (refused_as (placed_reading roster from fields) p
    (reading_told roster from fields
    ∙ least_is_first (fault_at roster from fields) 0 all_faults p all_rise (is_among_all f) at.1 least.least))

faultless : (roster : Listing) (from : Reading) (fields : Record) → IsOk (reading roster from fields) → IsFaultless roster from fields
faultless roster from fields ok f =
    none_holds (fault_at roster from fields) all_faults f
    (sym (reading_told roster from fields) ∙ none_told (placed_reading roster from fields) ok) (is_among_all f)

line_read : (roster : Listing) (from : Reading) (fields : Record) → IsFaultless roster from fields → IsOk (reading roster from fields)
line_read roster from fields none = is_ok (placed_reading roster from fields) (reading_told roster from fields
    ∙ no_first (fault_at roster from fields) all_faults none)

-- ---- the codes

one_digit : (n : ℕ) → n < 10 → 76 ∷ (48 + n) ∷ [] ≡ codes "L" ++ decimal n
one_digit n small = ap (λ ds. 76 ∷ ds) (sym (decimal_digit n small))

coded : (f : LineFault) → code_of f ≡ codes "L" ++ decimal (number_of f)
coded fault.UnknownKind = one_digit 1 (lit< tt)
coded fault.FieldCount = one_digit 2 (lit< tt)
coded fault.UnknownParticipant = one_digit 3 (lit< tt)
coded fault.UnknownSymbol = one_digit 4 (lit< tt)
coded fault.BadState = one_digit 5 (lit< tt)
coded fault.BadPrice = one_digit 6 (lit< tt)
coded fault.BadShares = one_digit 7 (lit< tt)
coded fault.HalfSide = one_digit 8 (lit< tt)
coded fault.WrongFeed = one_digit 9 (lit< tt)
coded fault.BadDesk =
    ap (λ ds. 76 ∷ ds) (ap (λ ds. ds ++ 48 ∷ []) (sym (decimal_digit 1 (lit< tt))) ∙ sym (decimal_step 10 (lit≤ tt) (lit< tt)))
coded fault.BadLot =
    ap (λ ds. 76 ∷ ds) (ap (λ ds. ds ++ 52 ∷ []) (sym (decimal_digit 1 (lit< tt))) ∙ sym (decimal_step 14 (lit≤ tt) (lit< tt)))

pub reads_least_fault : ReadsLeastFault
reads_least_fault = record {
  refused = λ roster from fields f. (least_fault roster from fields f, fault_read roster from fields f);
  accepted = λ roster from fields. (faultless roster from fields, line_read roster from fields);
  placed = placed;
  coded = coded;
}

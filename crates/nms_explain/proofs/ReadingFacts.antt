-- What a file of changes brings is a change, and what a file of orders brings is an order: a record that is read is never
-- refused for its kind afterwards.
use Rattle.std.proofs.Common.{◌≡◌, length, refl, sym}
use Rattle.std.specs.Prelude.{Result, Ok, Err, Option, Some, None, not}
use Rattle.std.specs.Option.{ok_or}
use Rattle.nms_quote.specs.Roster.{Listing, feed_at}
use Rattle.nms_quote.specs.declared.change.Change.TheVariants as change
use Rattle.nms_fees.specs.Settings.{Settings}
use Rattle.nms_lines.specs.ChangeReading.{change_in, change_reading}
use Rattle.nms_lines.specs.Faults.{◌>>=◌, at, of_record, refuse_if, unplaced}
use Rattle.nms_lines.specs.FieldFaults.{is_foreign_lot}
use Rattle.nms_lines.specs.Fields.{average_in, desk_at, flag_in, lot_in, part_at, price_at, self_help_in, shares_at, side_at, state_at}
use Rattle.nms_lines.specs.Fields.{symbol_at}
use Rattle.nms_lines.specs.Layout.{Record, field, is_count, kind_named}
use Rattle.nms_lines.specs.Lines.{kind_reading, reading}
use Rattle.nms_lines.specs.Sides.{sides_in}
use Rattle.nms_lines.specs.Sources.{brought, is_foreign}
use Rattle.nms_lines.specs.declared.line.Kind.{Kind}
use Rattle.nms_lines.specs.declared.line.Kind.TheVariants as kind
use Rattle.nms_lines.specs.declared.line.Line.{Line}
use Rattle.nms_lines.specs.declared.line.Line.TheVariants as line
use Rattle.nms_lines.specs.declared.line.Reading.TheVariants as source
use Rattle.nms_lines.specs.declared.line_fault.LineFault.{LineFault}
use Rattle.nms_lines.specs.declared.line_fault.LineFault.TheVariants as fault
use Rattle.nms_lines.specs.declared.line_fault.PlacedFault.{PlacedFault}
use Rattle.nms_files.specs.OrderFile.{order_in, order_reading}
use Rattle.nms_explain.specs.Counted.{is_fault, is_refused}

-- the second reading of what is read refuses nothing more
Agrees : {X : Type 0} → (Line → Result X LineFault) → Result Line PlacedFault → Type 0
Agrees next said = is_fault (unplaced said >>= next) ≡ is_fault (unplaced said)

module _ {X : Type 0} (next : Line → Result X LineFault) where
  agrees_after : {A : Type 0} (first : Result A PlacedFault) (rest : A → Result Line PlacedFault)
      → ((x : A) → Agrees next (rest x)) → Agrees next (first >>= rest)
  unfolding Agrees
  agrees_after (Ok x) rest each = each x
  agrees_after (Err placed) rest each = refl

quote : (roster : Listing) (fields : Record) → Agrees change_in (kind_reading roster source.Changes fields kind.Quote)
unfolding Agrees
quote roster fields =
    agrees_after change_in (part_at roster fields 1) _ (λ part.
    agrees_after change_in (symbol_at roster fields 2) _ (λ sym.
    agrees_after change_in (state_at fields 3) _ (λ state.
    agrees_after change_in (sides_in fields) _ (λ sides.
    agrees_after change_in (refuse_if (is_foreign source.Changes (feed_at roster part)) (at fault.WrongFeed 1))
    (λ feed. Ok (line.Change (change.Quote part sym state sides.0 sides.1))) (λ feed. refl)))))

state : (roster : Listing) (fields : Record) → Agrees change_in (kind_reading roster source.Changes fields kind.State)
unfolding Agrees
state roster fields =
    agrees_after change_in (part_at roster fields 1) _ (λ part.
    agrees_after change_in (symbol_at roster fields 2) _ (λ sym.
    agrees_after change_in (state_at fields 3) _ (λ state.
    agrees_after change_in (refuse_if (is_foreign source.Changes (feed_at roster part)) (at fault.WrongFeed 1))
    (λ feed. Ok (line.Change (change.State part sym state))) (λ feed. refl))))

withdraw : (roster : Listing) (fields : Record) → Agrees change_in (kind_reading roster source.Changes fields kind.Withdraw)
unfolding Agrees
withdraw roster fields =
    agrees_after change_in (part_at roster fields 1) _ (λ part.
    agrees_after change_in (refuse_if (is_foreign source.Changes (feed_at roster part)) (at fault.WrongFeed 1))
    (λ feed. Ok (line.Change (change.Withdraw part))) (λ feed. refl))

lot : (roster : Listing) (fields : Record) → Agrees change_in (kind_reading roster source.Changes fields kind.Lot)
unfolding Agrees
lot roster fields =
    agrees_after change_in (symbol_at roster fields 1) _ (λ sym.
    agrees_after change_in (average_in fields) _ (λ average.
    agrees_after change_in (refuse_if (is_foreign_lot source.Changes) (at fault.WrongFeed 0)) _ (λ feed.
    agrees_after change_in (lot_in fields average) (λ lot. Ok (line.Change (change.Lot sym lot))) (λ lot. refl))))

sweep : (settings : Settings) (fields : Record)
    → Agrees order_in (kind_reading settings.roster (source.Orders settings.desks) fields kind.Sweep)
unfolding Agrees
sweep settings fields =
    agrees_after order_in (self_help_in settings.roster fields) _ (λ self_help.
    agrees_after order_in (symbol_at settings.roster fields 3) _ (λ sym.
    agrees_after order_in (side_at fields 2) _ (λ side.
    agrees_after order_in (flag_in fields) _ (λ manual.
    agrees_after order_in (price_at fields 5) _ (λ limit.
    agrees_after order_in (shares_at fields 4) _ (λ shares.
    agrees_after order_in (desk_at settings.desks fields 1) _ (λ desk. refl)))))))

-- a record of a kind, after its number of fields was counted
change_of : (roster : Listing) (fields : Record) (named : Option Kind)
    → Agrees change_in (ok_or (brought source.Changes named) (at fault.UnknownKind 0) >>= (λ kind.
    refuse_if (not (is_count kind (length fields))) (of_record fault.FieldCount) >>= (λ count. kind_reading roster source.Changes fields kind)))
unfolding Agrees
change_of roster fields None = refl
change_of roster fields (Some kind.Quote) =
    agrees_after change_in (refuse_if (not (is_count kind.Quote (length fields))) (of_record fault.FieldCount)) _ (λ count. quote roster fields)
change_of roster fields (Some kind.State) =
    agrees_after change_in (refuse_if (not (is_count kind.State (length fields))) (of_record fault.FieldCount)) _ (λ count. state roster fields)
change_of roster fields (Some kind.Withdraw) =
    agrees_after change_in (refuse_if (not (is_count kind.Withdraw (length fields))) (of_record fault.FieldCount)) _
    (λ count. withdraw roster fields)
change_of roster fields (Some kind.Lot) =
    agrees_after change_in (refuse_if (not (is_count kind.Lot (length fields))) (of_record fault.FieldCount)) _ (λ count. lot roster fields)
change_of roster fields (Some kind.TakeOne) = refl
change_of roster fields (Some kind.TakeAll) = refl
change_of roster fields (Some kind.Publish) = refl
change_of roster fields (Some kind.Tell) = refl
change_of roster fields (Some kind.Best) = refl
change_of roster fields (Some kind.Through) = refl
change_of roster fields (Some kind.Sweep) = refl

order_of : (settings : Settings) (fields : Record) (named : Option Kind)
    → Agrees order_in (ok_or (brought (source.Orders settings.desks) named) (at fault.UnknownKind 0) >>= (λ kind.
    refuse_if (not (is_count kind (length fields))) (of_record fault.FieldCount)
    >>= (λ count. kind_reading settings.roster (source.Orders settings.desks) fields kind)))
unfolding Agrees
order_of settings fields None = refl
order_of settings fields (Some kind.Quote) = refl
order_of settings fields (Some kind.State) = refl
order_of settings fields (Some kind.Withdraw) = refl
order_of settings fields (Some kind.Lot) = refl
order_of settings fields (Some kind.TakeOne) = refl
order_of settings fields (Some kind.TakeAll) = refl
order_of settings fields (Some kind.Publish) = refl
order_of settings fields (Some kind.Tell) = refl
order_of settings fields (Some kind.Best) = refl
order_of settings fields (Some kind.Through) = refl
order_of settings fields (Some kind.Sweep) =
    agrees_after order_in (refuse_if (not (is_count kind.Sweep (length fields))) (of_record fault.FieldCount)) _ (λ count. sweep settings fields)

-- a record of a file of changes is refused as such exactly if it says no change
pub changes_agree : (roster : Listing) (fields : Record)
    → is_refused (reading roster source.Changes) fields ≡ is_refused (change_reading roster) fields
unfolding Agrees
changes_agree roster fields = sym (change_of roster fields (kind_named (field fields 0)))

-- a record of a file of orders is refused as such exactly if it says no order
pub orders_agree : (settings : Settings) (fields : Record)
    → is_refused (reading settings.roster (source.Orders settings.desks)) fields ≡ is_refused (order_reading settings) fields
unfolding Agrees
orders_agree settings fields = sym (order_of settings fields (kind_named (field fields 0)))

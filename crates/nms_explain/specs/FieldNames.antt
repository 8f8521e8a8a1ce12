-- What the fields of records are called, as the pages on the layouts write it. This product's own rule.
use Rattle.std.specs.Prelude.{ℕ, ◌==◌, List, [], ◌∷◌, codes, length, slice_get, unwrap_or, Option, Some, None, if◌then◌else◌}
use Rattle.nms_lines.specs.Layout.{Record, field, kind_named}
use Rattle.nms_lines.specs.declared.line.Kind.{Kind}
use Rattle.nms_lines.specs.declared.line.Kind.TheVariants as kind
use Rattle.nms_lines.specs.declared.plan_record.PlanRecord.{PlanRecord}
use Rattle.nms_lines.specs.declared.plan_record.PlanRecord.TheVariants as record_of
use Rattle.nms_explain.specs.declared.places.field_name.FieldName.{FieldName}
use Rattle.nms_explain.specs.declared.places.field_name.FieldName.TheVariants as name
use Rattle.nms_explain.specs.declared.places.place.FieldPlace.{FieldPlace}

-- each field by its name
abbrev pub text_of : FieldName → List ℕ
text_of name.Kind = codes "kind"
text_of name.Participant = codes "part"
text_of name.Symbol = codes "sym"
text_of name.State = codes "state"
text_of name.Bid = codes "bid"
text_of name.BidShares = codes "bidshares"
text_of name.Offer = codes "offer"
text_of name.OfferShares = codes "offershares"
text_of name.Lot = codes "lot"
text_of name.Average = codes "AVG"
text_of name.Price = codes "price"
text_of name.Desk = codes "desk"
text_of name.Side = codes "side"
text_of name.Shares = codes "shares"
text_of name.Limit = codes "limit"
text_of name.Flag = codes "flag"
text_of name.Names = codes "names"
text_of name.Version = codes "version"
text_of name.Filled = codes "filled"
text_of name.Cost = codes "cost"
text_of name.Says = codes "kind of cut"
text_of name.Value = codes "value"
text_of name.Id = codes "id"
text_of name.When = codes "when"
text_of name.Flags = codes "flags"

-- the names of the fields of a kind's record, by how many it has
abbrev pub names_of : Kind → ℕ → List FieldName
names_of kind.Quote n =
    name.Kind ∷ name.Participant ∷ name.Symbol ∷ name.State ∷ name.Bid ∷ name.BidShares ∷ name.Offer ∷ name.OfferShares ∷ []
names_of kind.State n = name.Kind ∷ name.Participant ∷ name.Symbol ∷ name.State ∷ []
names_of kind.Withdraw n = name.Kind ∷ name.Participant ∷ []
names_of kind.Lot n =
    if n == 3 then name.Kind ∷ name.Symbol ∷ name.Lot ∷ [] else name.Kind ∷ name.Symbol ∷ name.Average ∷ name.Price ∷ []
names_of kind.TakeOne n = name.Kind ∷ []
names_of kind.TakeAll n = name.Kind ∷ []
names_of kind.Publish n = name.Kind ∷ []
names_of kind.Tell n = name.Kind ∷ name.Desk ∷ []
names_of kind.Best n = name.Kind ∷ name.Desk ∷ name.Symbol ∷ []
names_of kind.Through n = name.Kind ∷ name.Desk ∷ name.Symbol ∷ name.Price ∷ []
names_of kind.Sweep n =
    name.Kind ∷ name.Desk ∷ name.Side ∷ name.Symbol ∷ name.Shares ∷ name.Limit ∷ name.Flag ∷ name.Names ∷ []

-- those of a plan's record
abbrev pub plan_names : PlanRecord → List FieldName
plan_names record_of.Plan =
    name.Kind ∷ name.Version ∷ name.Side ∷ name.Symbol ∷ name.Shares ∷ name.Limit ∷ name.Flag ∷ name.Filled ∷ name.Cost ∷ name.Names ∷ []
plan_names record_of.Leg = name.Kind ∷ name.Participant ∷ name.Price ∷ name.Shares ∷ []
plan_names record_of.Cut = name.Kind ∷ name.Price ∷ name.Says ∷ name.Value ∷ []
plan_names record_of.End = name.Kind ∷ []

abbrev pub names_due : Option PlanRecord → List FieldName
names_due None = []
names_due (Some sort) = plan_names sort

-- those of a record by the kind that it has, if it has one
abbrev pub names_by : Option Kind → ℕ → List FieldName
names_by None n = []
names_by (Some kind) n = names_of kind n

abbrev pub names_in : Record → List FieldName
names_in fields = names_by (kind_named (field fields 0)) (length fields)

-- the field after n others, if the fields have these names; any past them is called as the first of a record
abbrev pub field_named : List FieldName → ℕ → FieldPlace
field_named names place = record { place = place; name = unwrap_or (slice_get names place) name.Kind }

-- The names of fields are printable ASCII.
use Rattle.std.proofs.Common.{◌≡◌, true, refl}
use Rattle.nms_show.specs.Plain.{is_plain}
use Rattle.nms_explain.specs.FieldNames as names
use Rattle.nms_explain.specs.declared.places.field_name.FieldName.{FieldName}
use Rattle.nms_explain.specs.declared.places.field_name.FieldName.TheVariants as name

pub name_plain : (shown : FieldName) → is_plain (names.text_of shown) ≡ true
name_plain name.Kind = refl
name_plain name.Participant = refl
name_plain name.Symbol = refl
name_plain name.State = refl
name_plain name.Bid = refl
name_plain name.BidShares = refl
name_plain name.Offer = refl
name_plain name.OfferShares = refl
name_plain name.Lot = refl
name_plain name.Average = refl
name_plain name.Price = refl
name_plain name.Desk = refl
name_plain name.Side = refl
name_plain name.Shares = refl
name_plain name.Limit = refl
name_plain name.Flag = refl
name_plain name.Names = refl
name_plain name.Version = refl
name_plain name.Filled = refl
name_plain name.Cost = refl
name_plain name.Says = refl
name_plain name.Value = refl
name_plain name.Id = refl
name_plain name.When = refl
name_plain name.Flags = refl

-- The codes of refused executions and the fields that they are about, as the page on errors has them. This product's own rule.
use Rattle.std.specs.Prelude.{ℕ, List, Option, Some, None, codes}
use Rattle.nms_explain.specs.declared.execution_code.ExecutionCode.{ExecutionCode}
use Rattle.nms_explain.specs.declared.execution_code.ExecutionCode.TheVariants as code
use Rattle.nms_explain.specs.declared.places.field_name.FieldName.{FieldName}
use Rattle.nms_explain.specs.declared.places.field_name.FieldName.TheVariants as name
use Rattle.nms_explain.specs.declared.places.place.FieldPlace.{FieldPlace}

-- each code as it is printed
abbrev pub text_of : ExecutionCode → List ℕ
text_of code.UnknownKind = codes "X1"
text_of code.FieldCount = codes "X2"
text_of code.BadName = codes "X3"
text_of code.UnknownSymbol = codes "X4"
text_of code.BadPrice = codes "X5"
text_of code.BadShares = codes "X6"
text_of code.BadSide = codes "X7"
text_of code.BadVersion = codes "X8"
text_of code.Beyond = codes "X9"
text_of code.UnknownParticipant = codes "X10"
text_of code.BadFlags = codes "X11"
text_of code.NoTimes = codes "X12"
text_of code.NoChanges = codes "X13"

-- a field after n others
abbrev at : ℕ → FieldName → Option FieldPlace
at place name = Some (record { place = place; name = name })

-- the field that a code is about, if it is about one: `D,id,sym,price,shares,side,when,part,flags`
abbrev pub field_of : ExecutionCode → Option FieldPlace
field_of code.UnknownKind = at 0 name.Kind
field_of code.FieldCount = None
field_of code.BadName = at 1 name.Id
field_of code.UnknownSymbol = at 2 name.Symbol
field_of code.BadPrice = at 3 name.Price
field_of code.BadShares = at 4 name.Shares
field_of code.BadSide = at 5 name.Side
field_of code.BadVersion = at 6 name.When
field_of code.Beyond = at 6 name.When
field_of code.UnknownParticipant = at 7 name.Participant
field_of code.BadFlags = at 8 name.Flags
field_of code.NoTimes = at 6 name.When
field_of code.NoChanges = at 2 name.Symbol

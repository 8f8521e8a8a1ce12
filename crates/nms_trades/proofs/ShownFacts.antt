-- Texts of the program's own are printable: the words of causes and sides, and the codes of faults.
use Rattle.std.proofs.Common.{◌≡◌, true, refl}
use Rattle.nms_show.specs.Plain.{is_plain}
use Rattle.nms_quote.specs.declared.side_quote.Side.{Side}
use Rattle.nms_quote.specs.declared.side_quote.Side.TheVariants.{Bid, Offer}
use Rattle.nms_lines.specs.Sides.{side_word}
use Rattle.nms_trades.specs.Causes.{word_of}
use Rattle.nms_trades.specs.Faults.{code_of}
use Rattle.nms_trades.specs.declared.cause.Cause.{Cause}
use Rattle.nms_trades.specs.declared.cause.Cause.TheVariants as cause
use Rattle.nms_trades.specs.declared.trade_fault.TradeFault.{TradeFault}
use Rattle.nms_trades.specs.declared.trade_fault.TradeFault.TheVariants as fault

-- the word of a cause
pub plain_word : (cause : Cause) → is_plain (word_of cause) ≡ true
plain_word cause.SelfHelp = refl
plain_word cause.NotRegular = refl
plain_word cause.SinglePriced = refl
plain_word cause.Crossed = refl
plain_word cause.Sweep = refl
plain_word cause.Swept = refl
plain_word cause.Benchmark = refl
plain_word cause.Flicker = refl
plain_word cause.Stopped = refl
plain_word cause.Contingent = refl
plain_word cause.Exempt = refl
plain_word cause.OutsideHours = refl
plain_word cause.OutOfSequence = refl

-- the code of a fault
pub plain_code : (fault : TradeFault) → is_plain (code_of fault) ≡ true
plain_code fault.UnknownKind = refl
plain_code fault.FieldCount = refl
plain_code fault.BadName = refl
plain_code fault.UnknownSymbol = refl
plain_code fault.BadPrice = refl
plain_code fault.BadShares = refl
plain_code fault.BadSide = refl
plain_code fault.BadVersion = refl
plain_code fault.Beyond = refl
plain_code fault.UnknownParticipant = refl
plain_code fault.BadFlags = refl
plain_code fault.NoTimes = refl
plain_code fault.NoChanges = refl

-- the word of a side
pub plain_side : (side : Side) → is_plain (side_word side) ≡ true
plain_side Bid = refl
plain_side Offer = refl

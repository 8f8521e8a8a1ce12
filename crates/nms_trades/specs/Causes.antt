-- Why a trade-through may be lawful (17 CFR 242.611(b)): what is claimed by flags, and the crossed market and
-- flickering quotations, which the board finds.
use Rattle.std.specs.Prelude.{ℕ, Bool, List, codes}
use Rattle.nms_trades.specs.declared.cause.Cause.{Cause}
use Rattle.nms_trades.specs.declared.cause.Cause.TheVariants as cause
use Rattle.nms_trades.specs.declared.claims.Claims.{Claims}

-- the word of a cause: one that is claimed says so
abbrev pub word_of : Cause → List ℕ
word_of cause.SelfHelp = codes "SELFHELP-CLAIMED"
word_of cause.NotRegular = codes "NOTREGULAR-CLAIMED"
word_of cause.SinglePriced = codes "AUCTION-CLAIMED"
word_of cause.Crossed = codes "CROSSED"
word_of cause.Sweep = codes "ISO-CLAIMED"
word_of cause.Swept = codes "SWEPT-CLAIMED"
word_of cause.Benchmark = codes "BENCHMARK-CLAIMED"
word_of cause.Flicker = codes "FLICKER"
word_of cause.Stopped = codes "STOPPED-CLAIMED"
word_of cause.Contingent = codes "CONTINGENT-CLAIMED"
word_of cause.Exempt = codes "EXEMPT-CLAIMED"
word_of cause.OutsideHours = codes "HOURS-CLAIMED"
word_of cause.OutOfSequence = codes "SEQUENCE-CLAIMED"

-- whether a cause applies to an execution, in a crossed market or not, with rows that self-help takes out or not, and with all
-- rows that are left flickering or not
abbrev pub applies : Cause → Claims → (crossed helped flickering : Bool) → Bool
applies cause.SelfHelp claims crossed helped flickering = helped
applies cause.NotRegular claims crossed helped flickering = claims.not_regular
applies cause.SinglePriced claims crossed helped flickering = claims.single_priced
applies cause.Crossed claims crossed helped flickering = crossed
applies cause.Sweep claims crossed helped flickering = claims.sweep
applies cause.Swept claims crossed helped flickering = claims.swept
applies cause.Benchmark claims crossed helped flickering = claims.benchmark
applies cause.Flicker claims crossed helped flickering = flickering
applies cause.Stopped claims crossed helped flickering = claims.stopped
applies cause.Contingent claims crossed helped flickering = claims.contingent
applies cause.Exempt claims crossed helped flickering = claims.exempt
applies cause.OutsideHours claims crossed helped flickering = claims.outside_hours
applies cause.OutOfSequence claims crossed helped flickering = claims.out_of_sequence

-- Which rows are skipped, and which are refused. This product's own rule.
use Rattle.std.specs.Prelude.{Bool, true, false}
use Rattle.nms_import.specs.declared.cause.Cause.{Cause}
use Rattle.nms_import.specs.declared.cause.Cause.TheVariants as cause

-- the last line of a file, a word that the mapping skips, a symbol that it does not ask for
abbrev pub is_skipped : Cause → Bool
is_skipped cause.TooFewColumns = false
is_skipped cause.BadTime = false
is_skipped cause.UnknownParticipant = false
is_skipped cause.UnknownSymbol = false
is_skipped cause.UnknownCondition = false
is_skipped (cause.OneSided side) = false
is_skipped cause.UnknownSide = false
is_skipped (cause.BadPrice side) = false
is_skipped (cause.BadSize side) = false
is_skipped (cause.HalfSide side) = false
is_skipped cause.Trailer = true
is_skipped cause.Listed = true
is_skipped cause.OtherSymbol = true

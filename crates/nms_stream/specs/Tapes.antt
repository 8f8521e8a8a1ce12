-- What a tape is of. This product's own rule.
use Rattle.nms_quote.specs.Roster.{Sizes, sizes_of}
use Rattle.nms_stream.specs.declared.tape.Tape.{Tape}

-- the sizes of its roster
abbrev pub sizes_in : Tape → Sizes
sizes_in tape = sizes_of tape.roster.now

-- The buffers of what was appended since the last publishing. This product's own rule.
use Rattle.std.specs.Prelude.{List, [], Option, Some, None}
use Rattle.std.specs.Arc.{arc_value}
use Rattle.std.specs.declared.sync.Arc.{Arc}
use Rattle.std.specs.declared.vec.Vec.{Vec}
use Rattle.std.specs.declared.alloc.Global.{Global}
use Rattle.nms_quote.specs.declared.change.Change.{Change}

-- a buffer of changes, which may have several owners
abbrev pub Shared : Type 0
Shared = Arc (Vec Change Global) Global

-- what a buffer has
abbrev pub items_of : Shared → List Change
items_of buffer = (arc_value buffer).items

-- as above, but there may be no buffer
abbrev pub items_in : Option Shared → List Change
items_in None = []
items_in (Some buffer) = items_of buffer

-- `add_symbols`: the names so far and those that are left are all of them.
use Rattle.std.proofs.Common.{◌≡◌, ◌++◌, drop, map}
use Rattle.nms_quote.specs.Roster.{symbol_text}
use Rattle.nms_drawing.proofs.page.add_symbols.Given as goal

abbrev pub invariant-loop-sym : goal.invariant-loop-sym
invariant-loop-sym l = map (λ name. name.now) l.names.items ++ map (symbol_text l.roster) (drop l.sym-index l.symbols)
    ≡ map (symbol_text l.roster) l.symbols

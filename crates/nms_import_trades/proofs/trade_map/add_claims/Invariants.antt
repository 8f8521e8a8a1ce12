-- `add_claims`: the flags so far have their letters.
use Rattle.std.proofs.Common.{◌≡◌, ◌++◌, map, take}
use Rattle.nms_import_trades.proofs.trade_map.add_claims.Given as goal

abbrev pub invariant-loop-named : goal.invariant-loop-named
invariant-loop-named l =
    map (λ it. it.flag) l.claims.items
    ≡ map (λ it. it.flag) l.fn.claims.items ++ map (λ it. it.1) (take l.named-index l.flags)

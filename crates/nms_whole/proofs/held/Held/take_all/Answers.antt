-- `take_all`: the start of its loop.
use Rattle.std.proofs.Common.{◌≡◌, ◌≤◌, ◌++◌, ℕ, Bool, true, false, cond, drop, ◌∙◌, List, [], length, ap, sym, lit≤, arith}
use Rattle.nms_whole.specs.Going.{given_after}
use Rattle.nms_whole.proofs.held.Held.take_all.Goals as goal

at_most_one : (b : Bool) → cond b 1 0 ≤ 1
at_most_one true = lit≤ tt
at_most_one false = lit≤ tt

pub loop-byte-init : goal.loop-byte-init
loop-byte-init c =
    let empty : c.clear.new.self.items ≡ [] = c.clear.ensures in
    record {
      weight = omega (arith, at_most_one c.args.self.now.is_bad, ap length empty, c.args.self.now.short);
      same = λ rest. ap (λ (l : List ℕ). l ++ given_after c.args.self.now.line.items c.args.self.now.is_bad (c.args.bytes.now ++ rest))
          (ap (drop 0) empty ∙ sym c.requires.empty);
    }

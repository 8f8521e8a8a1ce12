-- `no_orders`: its loop, with one row more that has nothing in it, by `row_more`.
use Rattle.std.proofs.Common.{ℕ, ◌≡◌, [], ◌++◌, ◌∷◌, length, ap, sym, length-append, arith}
use Rattle.nms_live.specs.declared.own_orders.OwnOrders.{OwnOrders}
use Rattle.nms_live.proofs.PlaceFacts.{row_more}
use Rattle.nms_live.proofs.own_orders.no_orders.Goals as goal

pub loop-preserved : goal.loop-preserved
loop-preserved c =
    let rows = c.loop.rows.items in
    let row : OwnOrders = record { orders = c.new.result } in
    let pushed : c.push.new.self.items ≡ rows ++ row ∷ [] = c.in-Ok.ensures.items in
    let P : ℕ → OwnOrders → Type 0 = λ k r. r.orders.items ≡ [] in
    record {
      all = omega (arith, ap length pushed, length-append rows (row ∷ []), c.loop.invariant.all);
      own = λ k d below. rw pushed (row_more P rows row c.loop.invariant.own c.new.ensures.items k d (rw (sym pushed) below));
    }

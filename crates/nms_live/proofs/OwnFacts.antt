-- How the orders of each desk come from one order to the next.
use Rattle.std.proofs.Common.{ℕ, ◌≡◌, ◌≢◌, ◌==◌, ◌<◌, ◌++◌, ◌∷◌, Bool, true, false, List, [], length, refl, ap, sym, subst, ◌∙◌, arith}
use Rattle.std.proofs.Common.{if◌then◌else◌}
use Rattle.std.specs.Prelude.{slice_index_or}
use Rattle.std.proofs.lemmas.Bool.Decides.{nat_tests}
use Rattle.std.proofs.lemmas.List.{append-nil}
use Rattle.std.proofs.lemmas.List.Elements.{filter-append}
use Rattle.nms_live.specs.Answering.{AreOwn, numbered, own}
use Rattle.nms_quote.specs.declared.desk_order.DeskOrder.{DeskOrder}
use Rattle.nms_live.specs.declared.own_orders.OwnOrders.{OwnOrders}

own_mine : (desk : ℕ) (orders : List (ℕ × DeskOrder)) (order : ℕ × DeskOrder) → (order.1.desk == desk) ≡ true
    → own desk (orders ++ order ∷ []) ≡ own desk orders ++ order ∷ []
own_mine desk orders order is =
    filter-append (λ (o : ℕ × DeskOrder). o.1.desk == desk) orders (order ∷ [])
    ∙ ap (λ (b : Bool). own desk orders ++ (if b then order ∷ [] else [])) is

own_other : (desk : ℕ) (orders : List (ℕ × DeskOrder)) (order : ℕ × DeskOrder) → (order.1.desk == desk) ≡ false
    → own desk (orders ++ order ∷ []) ≡ own desk orders
own_other desk orders order is =
    filter-append (λ (o : ℕ × DeskOrder). o.1.desk == desk) orders (order ∷ [])
    ∙ ap (λ (b : Bool). own desk orders ++ (if b then order ∷ [] else [])) is
    ∙ append-nil (own desk orders)

-- one order more, put after those of its desk
pub own_more : (orders all : List DeskOrder) (number : ℕ) (order : DeskOrder) (old new : List OwnOrders)
    → numbered all ≡ numbered orders ++ (number, order) ∷ [] → length new ≡ length old
    → ((k : ℕ) (d : OwnOrders) → k < length old → k ≢ order.desk → slice_index_or new k d ≡ slice_index_or old k d)
    → ((d : OwnOrders) → (slice_index_or new order.desk d).orders.items ≡ (slice_index_or old order.desk d).orders.items
    ++ (number, order) ∷ [])
    → AreOwn orders old → AreOwn all new
own_more orders all number order old new more same others mine had = λ k d below.
    cases k d (omega (arith, below, same)) (order.desk == k) refl
  where
    cases : (k : ℕ) (d : OwnOrders) → k < length old → (b : Bool) → (order.desk == k) ≡ b
        → (slice_index_or new k d).orders.items ≡ own k (numbered all)
    cases k d below true is =
        let P : ℕ → Type 0 = λ j. (slice_index_or new j d).orders.items ≡ own k (numbered all) in
        let at : order.desk ≡ k = grind (arith, nat_tests, is) in
        let here : (slice_index_or old order.desk d).orders.items ≡ own k (numbered orders) =
        ap (λ (j : ℕ). (slice_index_or old j d).orders.items) at ∙ had k d below in
        subst P at (mine d ∙ ap (λ (l : List (ℕ × DeskOrder)). l ++ (number, order) ∷ []) here
        ∙ sym (own_mine k (numbered orders) (number, order) is) ∙ ap (own k) (sym more))
    cases k d below false is =
        let apart : k ≢ order.desk = grind (arith, nat_tests, is) in
        ap (λ (r : OwnOrders). r.orders.items) (others k d below apart) ∙ had k d below
        ∙ sym (own_other k (numbered orders) (number, order) is) ∙ ap (own k) (sym more)

-- Equal terms, better prices and their ranks.
use Rattle.std.proofs.Common.{ℕ, ◌≡◌, ◌==◌, Bool, true, false, ◌&&◌, refl, sym, arith}
use Rattle.std.specs.Prelude.{◌<ℤ◌}
use Rattle.std.proofs.lemmas.Bool.{and_parts, false≢true, eqb-true, eq-eqb, ltb-true, ltb-false, lt-ltb, le-ltb}
use Rattle.std.proofs.lemmas.Int.{ints}
use Rattle.nms_quote.specs.Terms.{Terms}
use Rattle.nms_quote.specs.declared.order.OrderSide.{OrderSide}
use Rattle.nms_quote.specs.declared.order.OrderSide.TheVariants.{Buy, Sell}
use Rattle.nms_rules.specs.Breach.{is_same_flag, is_same_order, is_same_side}
use Rattle.nms_rules.specs.Usable.{is_better, rank_of}

-- ---- terms

side-from : (one other : OrderSide) → is_same_side one other ≡ true → one ≡ other
side-from Buy Buy e = refl
side-from Buy Sell e = absurd (false≢true e)
side-from Sell Buy e = absurd (false≢true e)
side-from Sell Sell e = refl

side-to : (side : OrderSide) → is_same_side side side ≡ true
side-to Buy = refl
side-to Sell = refl

flag-from : (one other : Bool) → is_same_flag one other ≡ true → one ≡ other
flag-from true true e = refl
flag-from true false e = sym e
flag-from false true e = e
flag-from false false e = refl

flag-to : (flag : Bool) → is_same_flag flag flag ≡ true
flag-to true = refl
flag-to false = refl

same-terms : (one other : Terms) → one.side ≡ other.side → one.sym ≡ other.sym → one.shares ≡ other.shares → one.limit ≡ other.limit
    → one.manual ≡ other.manual → one.self_help ≡ other.self_help
    → one ≡ other
same-terms one other a b c d e f =
    let made : record {
      side = one.side;
      sym = one.sym;
      shares = one.shares;
      limit = one.limit;
      manual = one.manual;
      self_help = one.self_help;
    } ≡ other =
    rw (a, b, c, d, e, f) refl in made

six-from : (a b c d e f : Bool) → (a && b && c && d && e && f) ≡ true
    → (a ≡ true) × (b ≡ true) × (c ≡ true) × (d ≡ true) × (e ≡ true) × (f ≡ true)
six-from a b c d e f all =
    let last = and_parts (a && b && c && d && e) f all in
    let fifth = and_parts (a && b && c && d) e last.0 in
    let fourth = and_parts (a && b && c) d fifth.0 in
    let third = and_parts (a && b) c fourth.0 in
    let first = and_parts a b third.0 in
    (first.0, first.1, third.1, fourth.1, fifth.1, last.1)

pub order-from : (one other : Terms) → is_same_order one other ≡ true → one ≡ other
order-from one other e =
    let all = six-from (is_same_side one.side other.side) (one.sym == other.sym) (one.shares == other.shares) (one.limit == other.limit)
    (is_same_flag one.manual other.manual) (one.self_help == other.self_help) e in
    same-terms one other (side-from one.side other.side all.0) (eqb-true one.sym other.sym all.1) (eqb-true one.shares other.shares all.2)
    (eqb-true one.limit other.limit all.3) (flag-from one.manual other.manual all.4) (eqb-true one.self_help other.self_help all.5)

pub order-to : (terms : Terms) → is_same_order terms terms ≡ true
order-to terms =
    rw (
      side-to terms.side,
      eq-eqb terms.sym terms.sym refl,
      eq-eqb terms.shares terms.shares refl,
      eq-eqb terms.limit terms.limit refl,
      flag-to terms.manual,
      eq-eqb terms.self_help terms.self_help refl,
    ) refl

-- ---- prices

pub better-from-rank : (side : OrderSide) (price other : ℕ) → rank_of side price <ℤ rank_of side other → is_better side price other ≡ true
better-from-rank Buy price other less = lt-ltb price other (omega (arith, ints, less))
better-from-rank Sell price other less = lt-ltb other price (omega (arith, ints, less))

pub rank-from-better : (side : OrderSide) (price other : ℕ) → is_better side price other ≡ true → rank_of side price <ℤ rank_of side other
rank-from-better Buy price other better = omega (arith, ints, ltb-true price other better)
rank-from-better Sell price other better = omega (arith, ints, ltb-true other price better)

-- a price that is better than one within the limit is within it
pub within-limit : (side : OrderSide) (limit price other : ℕ) → is_better side limit other ≡ false → is_better side price other ≡ true
    → is_better side limit price ≡ false
within-limit Buy limit price other within better =
    le-ltb limit price (omega (arith, ltb-false limit other within, ltb-true price other better))
within-limit Sell limit price other within better =
    le-ltb price limit (omega (arith, ltb-false other limit within, ltb-true other price better))

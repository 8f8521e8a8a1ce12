-- The sums of quotations, and of more of them.
use Rattle.std.proofs.Common.{◌≡◌, ◌≤◌, ◌<◌, ◌+◌, ◌-◌, ◌*◌, ◌++◌, ◌∷◌, [], List, ℕ, Bool, true, false, cond, get_or, suc, take, ℤ}
use Rattle.std.proofs.Common.{length, max, min, refl, sym, ap, ◌∙◌, arith}
use Rattle.std.proofs.Common.{fold, not, pos, ◌||◌}
use mir.Val.{bool_byte}
use Rattle.std.specs.List.{count_by, list_any}
use Rattle.std.proofs.lemmas.Int.{ints}
use Rattle.std.proofs.lemmas.List.{length-append, length-take-le, map-append, take_more}
use Rattle.std.proofs.lemmas.List.Elements.{filter-append}
use Rattle.std.proofs.lemmas.List.Sums.{count_by-le-length, fold-append, length-filter, sum_by-append, sum_by-cons}
use Rattle.nms_quote.specs.declared.side_quote.Side.{Side}
use Rattle.nms_board.specs.declared.row.Row.{Row}
use Rattle.nms_trades.specs.Counts.{flickers_at}
use Rattle.nms_trades.specs.Sums.{IsCost, Marked, cost_of, difference, differences, displayed, greatest, is_helped, marked_from}
use Rattle.nms_trades.specs.Sums.{rows_left, sums_in, sums_with}
use Rattle.nms_trades.specs.declared.execution.Execution.{Execution}
use Rattle.nms_trades.specs.declared.finding.Finding.{Finding}
use Rattle.nms_trades.specs.declared.money_through.Sums.{Sums}

-- one quotation more comes last
pub marked-more : (finding : Finding) (place : ℕ) (before : List (Side × Row)) (one : Side × Row)
    → marked_from finding place (before ++ one ∷ [])
    ≡ marked_from finding place before ++ (one.1, flickers_at finding (place + length before)) ∷ []
unfolding marked_from
marked-more finding place [] one = ap (λ at. (one.1, flickers_at finding at) ∷ []) (omega arith)
marked-more finding place (first ∷ before) one =
    ap (λ more. (first.1, flickers_at finding place) ∷ more)
    (marked-more finding (suc place) before one
    ∙ ap (λ at. marked_from finding (suc place) before ++ (one.1, flickers_at finding at) ∷ []) (omega arith))

-- their number is that of those traded through
pub length-marked : (finding : Finding) (place : ℕ) (passed : List (Side × Row)) → length (marked_from finding place passed) ≡ length passed
unfolding marked_from
length-marked finding place [] = refl
length-marked finding place (first ∷ rest) = ap suc (length-marked finding (suc place) rest)

-- what is greater than all before and all after
greatest_from : (g : ℕ) (numbers : List ℕ) → fold max g numbers ≡ max g (greatest numbers)
greatest_from g [] = omega arith
greatest_from g (n ∷ rest) =
    let whole : fold max (max g n) rest ≡ max (max g n) (greatest rest) = greatest_from (max g n) rest in
    let own : fold max (max 0 n) rest ≡ max (max 0 n) (greatest rest) = greatest_from (max 0 n) rest in
    omega (arith, whole, own)

greatest-append : (before more : List ℕ) → greatest (before ++ more) ≡ max (greatest before) (greatest more)
greatest-append before more = fold-append max 0 before more ∙ greatest_from (greatest before) more

-- rows take the shares that those before them left
cost-append : (millionths shares : ℕ) (before more : List Marked)
    → cost_of millionths shares (before ++ more)
    ≡ cost_of millionths shares before + cost_of millionths (shares - displayed before) more
unfolding cost_of
cost-append millionths shares [] more =
    let less : shares ≡ shares - displayed [] = omega arith in
    let same : cost_of millionths shares more ≡ cost_of millionths (shares - displayed []) more = ap (λ n. cost_of millionths n more)
    less in
    omega (arith, same)
cost-append millionths shares (first ∷ before) more =
    let own = difference first.0 millionths * min first.0.size shares in
    let left : (shares - first.0.size) - displayed before ≡ shares - displayed (first ∷ before) =
    omega (arith, sum_by-cons (λ (one : Marked). one.0.size) first before) in
    let rest : cost_of millionths (shares - first.0.size) (before ++ more)
    ≡ cost_of millionths (shares - first.0.size) before + cost_of millionths ((shares - first.0.size) - displayed before) more =
    cost-append millionths (shares - first.0.size) before more in
    let same : cost_of millionths ((shares - first.0.size) - displayed before) more
    ≡ cost_of millionths (shares - displayed (first ∷ before)) more =
    ap (λ n. cost_of millionths n more) left in
    omega (arith, rest, same)

any-append : {X : Type 0} (p : X → Bool) (before more : List X) → list_any p (before ++ more) ≡ (list_any p before || list_any p more)
any-append p [] more = refl
any-append p (first ∷ before) more = either (p first) (list_any p before) (list_any p more) (list_any p (before ++ more)) (any-append p
    before more)
  where
    either : (own rest later all : Bool) → all ≡ (rest || later) → (own || all) ≡ ((own || rest) || later)
    either true rest later all is = refl
    either false rest later all is = is

-- the sums of quotations and of more after them
pub sums-append : (execution : Execution) (shares : ℕ) (before more : List Marked)
    → sums_in execution shares (before ++ more)
    ≡ sums_with (sums_in execution shares before) (sums_in execution (shares - displayed (rows_left execution before)) more)
sums-append execution shares before more =
    let first = rows_left execution before in
    let own = rows_left execution more in
    let left : rows_left execution (before ++ more) ≡ first ++ own =
    filter-append (λ (one : Marked). not (is_helped execution one.0)) before more in
    let count = ap length left ∙ length-append first own in
    let worst = ap (λ rows. greatest (differences execution rows)) left
    ∙ ap greatest (map-append (λ (one : Marked). difference one.0 execution.millionths) first own)
    ∙ greatest-append (differences execution first) (differences execution own) in
    let shown : displayed (rows_left execution (before ++ more)) ≡ displayed first + displayed own =
    ap displayed left ∙ sum_by-append (λ (one : Marked). one.0.size) first own in
    let taken : min shares (displayed (rows_left execution (before ++ more)))
    ≡ min shares (displayed first) + min (shares - displayed first) (displayed own) =
    omega (arith, shown) in
    let cost = ap (cost_of execution.millionths shares) left ∙ cost-append execution.millionths shares first own in
    let helped = any-append (λ (one : Marked). is_helped execution one.0) before more in
    let flickers = ap (count_by (λ (one : Marked). one.1)) left
    ∙ sum_by-append (λ (one : Marked). cond one.1 1 0) first own in
    λ i. record {
      count = count i;
      worst = worst i;
      shares = taken i;
      dollars = pos (cost i);
      helped = helped i;
      flickers = flickers i;
    }

-- a mark as a number
pub as_number : (mark : Bool) → bool_byte mark ≡ cond mark 1 0
as_number true = refl
as_number false = refl

-- the sums of rows that are left
unfoldable sums_left : Execution → (shares : ℕ) → List Marked → (helped : Bool) → Sums
sums_left execution shares left helped = record {
  count = length left;
  worst = greatest (differences execution left);
  shares = min shares (displayed left);
  dollars = pos (cost_of execution.millionths shares left);
  helped = helped;
  flickers = count_by (λ one. one.1) left;
}

-- the sums of one row that is left
pub one-left : (execution : Execution) (shares : ℕ) (row : Row) (flickers : Bool) (by taken marks : ℕ) (dollars : ℤ)
    → is_helped execution row ≡ false → by ≡ difference row execution.millionths → taken ≡ min row.size shares
    → dollars ≡ pos (by * taken) → marks ≡ cond flickers 1 0
    → record { count = 1; worst = by; shares = taken; dollars = dollars; helped = false; flickers = marks }
    ≡ sums_in execution shares ((row, flickers) ∷ [])
unfolding cost_of sums_left
one-left execution shares row flickers by taken marks dollars out by_is taken_is dollars_is marks_is =
    let rows : List Marked = (row, flickers) ∷ [] in
    let left : rows ≡ rows_left execution rows = sym (ap (λ b. cond (not b) rows []) out) in
    let worst : by ≡ max 0 (difference row execution.millionths) = omega (arith, by_is) in
    let shares_is : taken ≡ min shares (0 + row.size) = omega (arith, taken_is) in
    let product : by * taken ≡ difference row execution.millionths * min row.size shares =
    ap (λ n. n * taken) by_is ∙ ap (λ n. difference row execution.millionths * n) taken_is in
    let cost : by * taken ≡ difference row execution.millionths * min row.size shares + 0 = omega (arith, product) in
    let flickers_is : marks ≡ 0 + cond flickers 1 0 = omega (arith, marks_is) in
    let first : record { count = 1; worst = by; shares = taken; dollars = dollars; helped = false; flickers = marks }
    ≡ sums_left execution shares rows false =
    λ i. record {
      count = 1;
      worst = worst i;
      shares = shares_is i;
      dollars = (dollars_is ∙ ap pos cost) i;
      helped = false;
      flickers = flickers_is i;
    } in
    first ∙ ap (λ list. sums_left execution shares list false) left
    ∙ ap (λ b. sums_left execution shares (rows_left execution rows) b) (sym (ap (λ b. b || false) out))

-- no quotations have no sums
pub sums-none : (execution : Execution) (shares : ℕ)
    → record { count = 0; worst = 0; shares = 0; dollars = pos 0; helped = false; flickers = 0 } ≡ sums_in execution shares []
unfolding cost_of
sums-none execution shares =
    let none : 0 ≡ min shares 0 = omega arith in
    λ i. record { count = 0; worst = 0; shares = none i; dollars = pos 0; helped = false; flickers = 0 }

pub no_cost : (execution : Execution) (shares : ℕ) → IsCost (sums_in execution shares [])
unfolding cost_of
no_cost execution shares = record { low = omega (arith, ints); high = omega (arith, ints) }

-- no more are left, and no more flickered, than were traded through
pub count_within : (execution : Execution) (shares : ℕ) (marked : List Marked) → (sums_in execution shares marked).count ≤ length marked
count_within execution shares marked =
    let p = λ (one : Marked). not (is_helped execution one.0) in
    omega (arith, length-filter p marked, count_by-le-length p marked)

pub flickers_within : (execution : Execution) (shares : ℕ) (marked : List Marked)
    → (sums_in execution shares marked).flickers ≤ length marked
flickers_within execution shares marked =
    omega (arith, count_by-le-length (λ (one : Marked). one.1) (rows_left execution marked), count_within execution shares marked)

-- at most one for each of the quotations so far
pub count_so_far : (execution : Execution) (finding : Finding) (place : ℕ) (sums : Sums) → place ≤ length finding.passed.items
    → sums ≡ sums_in execution execution.shares (marked_from finding 0 (take place finding.passed.items))
    → (sums.count ≤ place) × (sums.flickers ≤ place)
count_so_far execution finding place sums within is =
    let passed = take place finding.passed.items in
    let marked = marked_from finding 0 passed in
    let long : length marked ≡ place = length-marked finding 0 passed ∙ length-take-le place finding.passed.items within in
    let count : sums.count ≡ (sums_in execution execution.shares marked).count = ap (λ (s : Sums). s.count) is in
    let flickers : sums.flickers ≡ (sums_in execution execution.shares marked).flickers = ap (λ (s : Sums). s.flickers) is in (
      omega (arith, long, count, count_within execution execution.shares marked),
      omega (arith, long, flickers, flickers_within execution execution.shares marked),
    )

-- one row counts once at most
pub count_of_one : (execution : Execution) (shares : ℕ) (one : Marked) (own : Sums) → own ≡ sums_in execution shares (one ∷ [])
    → (own.count ≤ 1) × (own.flickers ≤ 1)
count_of_one execution shares one own is =
    let count : own.count ≡ (sums_in execution shares (one ∷ [])).count = ap (λ (s : Sums). s.count) is in
    let flickers : own.flickers ≡ (sums_in execution shares (one ∷ [])).flickers = ap (λ (s : Sums). s.flickers) is in
    (omega (arith, count, count_within execution shares (one ∷ [])), omega (arith, flickers, flickers_within execution shares (one ∷ [])))

-- the sums of one quotation more
pub sums-next : (execution : Execution) (finding : Finding) (place : ℕ) (sums own : Sums) (left : ℕ) (one : Side × Row) (flickers : Bool)
    → place < length finding.passed.items → one ≡ get_or finding.passed.items place one → flickers ≡ flickers_at finding place
    → sums ≡ sums_in execution execution.shares (marked_from finding 0 (take place finding.passed.items))
    → left ≡ execution.shares - sums.shares
    → own ≡ sums_in execution left ((one.1, flickers) ∷ [])
    → sums_with sums own ≡ sums_in execution execution.shares (marked_from finding 0 (take (place + 1) finding.passed.items))
sums-next execution finding place sums own left one flickers below read marked sums_is left_is own_is =
    let passed = finding.passed.items in
    let before = take place passed in
    let so_far = marked_from finding 0 before in
    let shares = execution.shares in
    let open_shares = shares - displayed (rows_left execution so_far) in
    let long : length before ≡ place = length-take-le place passed (omega (arith, below)) in
    let at : place ≡ 0 + length before = omega (arith, long) in
    let taken : sums.shares ≡ min shares (displayed (rows_left execution so_far)) = ap (λ (s : Sums). s.shares) sums_is in
    let rest : left ≡ open_shares = omega (arith, left_is, taken) in
    let mark : flickers ≡ flickers_at finding (0 + length before) = marked ∙ ap (flickers_at finding) at in
    let last : Marked = (one.1, flickers_at finding (0 + length before)) in
    let whole : take (place + 1) passed ≡ before ++ one ∷ [] = take_more passed place one below ∙ ap (λ it. before ++ it ∷ []) (sym read) in
    ap (λ s. sums_with s own) sums_is
    ∙ ap (λ s. sums_with (sums_in execution shares so_far) s)
    (own_is ∙ ap (λ n. sums_in execution n ((one.1, flickers) ∷ [])) rest ∙ ap (λ b. sums_in execution open_shares ((one.1, b) ∷ [])) mark)
    ∙ sym (sums-append execution shares so_far (last ∷ []))
    ∙ ap (sums_in execution shares) (sym (ap (marked_from finding 0) whole ∙ marked-more finding 0 before one))

-- no loss and no loss is none
pub cost_with : (sums more : Sums) → IsCost sums → IsCost more → IsCost (sums_with sums more)
cost_with sums more first second = record {
  low = omega (arith, ints, first.low, second.low);
  high = omega (arith, ints, first.high, second.high);
}

-- How the desks' answers come into the order of the orders.
use Rattle.std.proofs.Common.{ℕ, ◌≡◌, ◌≢◌, ◌==◌, ◌<◌, ◌≤◌, ◌+◌, ◌++◌, Bool, true, false, List, [], ◌∷◌, length, drop, get_or, nat_lt, suc}
use Rattle.std.proofs.Common.{refl, ap, sym, subst, ◌∙◌, arith, append_assoc, if◌then◌else◌}
use Rattle.std.specs.Prelude.{slice_index_or, All}
use Rattle.std.specs.List.{AllZip, enumerate_from}
use Rattle.std.proofs.Math.Seq.{drop-cons}
use Rattle.std.proofs.lemmas.Bool.Decides.{nat_tests}
use Rattle.std.proofs.lemmas.List.{append-nil}
use Rattle.std.proofs.lemmas.List.Elements.{All-head, All-tail, filter-append}
use Rattle.nms_live.specs.Answering.{IsFor, numbered, of_desk, own, versions}
use Rattle.nms_live.specs.Lists.{IsRising}
use Rattle.nms_live.specs.Rows.{AreLeft, IsLeft}
use Rattle.nms_quote.specs.declared.answer.Answer.{Answer}
use Rattle.nms_live.specs.declared.closing.DeskRow.{DeskRow}
use Rattle.nms_quote.specs.declared.desk_order.DeskOrder.{DeskOrder}

pub some_of : {X : Type 0} (xs : List X) → 0 < length xs → X
some_of [] some = absurd (omega (arith, some))
some_of (x ∷ xs) some = x

own_front : (desk : ℕ) (order : ℕ × DeskOrder) (rest : List (ℕ × DeskOrder)) → (order.1.desk == desk) ≡ true
    → own desk (order ∷ rest) ≡ order ∷ own desk rest
own_front desk order rest is = ap (λ (b : Bool). if b then order ∷ own desk rest else own desk rest) is

own_later : (desk : ℕ) (order : ℕ × DeskOrder) (rest : List (ℕ × DeskOrder)) → (order.1.desk == desk) ≡ false
    → own desk (order ∷ rest) ≡ own desk rest
own_later desk order rest is = ap (λ (b : Bool). if b then order ∷ own desk rest else own desk rest) is

zip_some : {A B : Type 0} (R : A → B → Type 0) (x : A) (xs : List A) (ys : List B) → AllZip R (x ∷ xs) ys → 0 < length ys
zip_some R x xs [] all = absurd all
zip_some R x xs (y ∷ ys) all = omega arith

-- an order with those after it, the answers that were put before it, and the one that is put now
pub record Turn : Type 0 where
  pub order : ℕ × DeskOrder
  pub rest : List (ℕ × DeskOrder)
  pub put : List Answer
  pub answer : Answer

-- what was put once it is
abbrev pub put_now : Turn → List Answer
put_now turn = turn.put ++ turn.answer ∷ []

put_mine : (desk : ℕ) (put more first : List Answer) (answer : Answer) → answer.desk ≡ desk → of_desk desk put ++ (answer ∷ more) ≡ first
    → of_desk desk (put ++ answer ∷ []) ++ more ≡ first
put_mine desk put more first answer mine is =
    let test : (answer.desk == desk) ≡ true = grind (arith, nat_tests, mine) in
    let one : of_desk desk (put ++ answer ∷ []) ≡ of_desk desk put ++ answer ∷ [] =
    filter-append (λ (a : Answer). a.desk == desk) put (answer ∷ [])
    ∙ ap (λ (b : Bool). of_desk desk put ++ (if b then answer ∷ [] else [])) test in
    ap (λ (l : List Answer). l ++ more) one ∙ append_assoc (of_desk desk put) (answer ∷ []) more ∙ is

put_other : (desk : ℕ) (put : List Answer) (answer : Answer) → (answer.desk == desk) ≡ false
    → of_desk desk (put ++ answer ∷ []) ≡ of_desk desk put
put_other desk put answer test =
    filter-append (λ (a : Answer). a.desk == desk) put (answer ∷ [])
    ∙ ap (λ (b : Bool). of_desk desk put ++ (if b then answer ∷ [] else [])) test ∙ append-nil (of_desk desk put)

-- the next of what is left of the order's own desk answers the order, and the others are left
left_mine : (IsWanted : Answer → Type 0) (desk : ℕ) (turn : Turn) (first new : List Answer) → turn.order.1.desk ≡ desk
    → IsLeft IsWanted desk (turn.order ∷ turn.rest) turn.put first (turn.answer ∷ new)
    → IsFor turn.order turn.answer × IsWanted turn.answer × IsLeft IsWanted desk turn.rest (put_now turn) first new
left_mine IsWanted desk turn first new mine left =
    let test : (turn.order.1.desk == desk) ≡ true = grind (arith, nat_tests, mine) in
    let matched : AllZip IsFor (turn.order ∷ own desk turn.rest) (turn.answer ∷ new) =
    subst (λ (l : List (ℕ × DeskOrder)). AllZip IsFor l (turn.answer ∷ new)) (own_front desk turn.order turn.rest test) left.matched in (
      matched.0,
      left.wanted.0,
      record {
        parted = put_mine desk turn.put new first turn.answer (matched.0.0 ∙ mine) left.parted;
        matched = matched.1;
        wanted = left.wanted.1;
      },
    )

-- another desk keeps what it has left
left_other : (IsWanted : Answer → Type 0) (desk : ℕ) (turn : Turn) (first now : List Answer)
    → (turn.order.1.desk == desk) ≡ false → turn.answer.desk ≡ turn.order.1.desk
    → IsLeft IsWanted desk (turn.order ∷ turn.rest) turn.put first now → IsLeft IsWanted desk turn.rest (put_now turn) first now
left_other IsWanted desk turn first now test of left = record {
  parted = ap (λ (l : List Answer). l ++ now) (put_other desk turn.put turn.answer (ap (λ (n : ℕ). n == desk) of ∙ test)) ∙ left.parted;
  matched = rw (sym (own_later desk turn.order turn.rest test)) left.matched;
  wanted = left.wanted;
}

-- all orders from one on, with their numbers
pub numbered_rest : (orders : List DeskOrder) (place : ℕ) (order : DeskOrder) → place < length orders → get_or orders place order ≡ order
    → enumerate_from place (drop place orders) ≡ (place, order) ∷ enumerate_from (place + 1) (drop (place + 1) orders)
numbered_rest orders place order below is =
    let up : suc place ≡ place + 1 = omega arith in
    ap (enumerate_from place) (drop-cons orders place order below ∙ ap (λ (o : DeskOrder). o ∷ drop (suc place) orders) is)
    ∙ ap (λ (k : ℕ). (place, order) ∷ enumerate_from (place + 1) (drop k orders)) up

-- an order's desk has an answer left
pub some_left : (part : DeskRow → List Answer) (IsWanted : Answer → Type 0) (orders : List DeskOrder) (place : ℕ) (order : DeskOrder)
    (put : List Answer) (first now : List DeskRow) → place < length orders → get_or orders place order ≡ order → order.desk < length now
    → AreLeft part IsWanted (enumerate_from place (drop place orders)) put first now
    → (d : DeskRow) → 0 < length (part (slice_index_or now order.desk d))
some_left part IsWanted orders place order put first now below is here left d =
    let rest = own order.desk (enumerate_from (place + 1) (drop (place + 1) orders)) in
    let front : own order.desk (enumerate_from place (drop place orders)) ≡ (place, order) ∷ rest =
    ap (own order.desk) (numbered_rest orders place order below is) ∙ own_front order.desk (place, order) _ (grind (arith, nat_tests)) in
    zip_some IsFor (place, order) rest _ (rw (sym front) (left order.desk d here).matched)

zip_none : {A B : Type 0} (R : A → B → Type 0) (ys : List B) → AllZip R [] ys → ys ≡ []
zip_none R [] all = refl
zip_none R (y ∷ ys) all = absurd all

-- if no order is left, all answers of the desk are put
pub all_put : (IsWanted : Answer → Type 0) (desk : ℕ) (put first now : List Answer) → IsLeft IsWanted desk [] put first now
    → of_desk desk put ≡ first
all_put IsWanted desk put first now left =
    sym (append-nil (of_desk desk put)) ∙ ap (λ (l : List Answer). of_desk desk put ++ l) (sym (zip_none IsFor now left.matched))
    ∙ left.parted

-- no answer was made for a desk that is not there
none_of : (orders : List DeskOrder) (place desks desk : ℕ) (answers : List Answer) → All (λ order. order.desk < desks) orders → desks ≤ desk
    → AllZip IsFor (enumerate_from place orders) answers → of_desk desk answers ≡ []
none_of [] place desks desk [] below le all = refl
none_of [] place desks desk (answer ∷ answers) below le all = absurd all
none_of (order ∷ orders) place desks desk [] below le all = absurd all
none_of (order ∷ orders) place desks desk (answer ∷ answers) below le all =
    let here : order.desk < desks = All-head (λ (o : DeskOrder). o.desk < desks) order orders below in
    let of : answer.desk ≡ order.desk = all.0.0 in
    let test : (answer.desk == desk) ≡ false = grind (arith, nat_tests, here, of, le) in
    ap (λ (b : Bool). if b then answer ∷ of_desk desk answers else of_desk desk answers) test
    ∙ none_of orders (place + 1) desks desk answers (All-tail (λ (o : DeskOrder). o.desk < desks) order orders below) le all.1

-- so no desk goes back to an older version, if no desk that is there does
pub rising_all : (orders : List DeskOrder) (desks : ℕ) (put put_closing : List Answer) → All (λ order. order.desk < desks) orders
    → AllZip IsFor (numbered orders) put → AllZip IsFor (numbered orders) put_closing
    → ((desk : ℕ) → desk < desks → IsRising (versions (of_desk desk put ++ of_desk desk put_closing)))
    → (desk : ℕ) → IsRising (versions (of_desk desk (put ++ put_closing)))
rising_all orders desks put put_closing below matched again rising desk =
    rw (filter-append (λ (a : Answer). a.desk == desk) put put_closing) (cases (nat_lt desk desks) refl)
  where
    cases : (b : Bool) → nat_lt desk desks ≡ b → IsRising (versions (of_desk desk put ++ of_desk desk put_closing))
    cases true is = rising desk (grind (arith, nat_tests, is))
    cases false is =
        let le : desks ≤ desk = grind (arith, nat_tests, is) in
        rw (none_of orders 0 desks desk put below le matched, none_of orders 0 desks desk put_closing below le again) tt

-- what each desk has left once the next answer of the order's desk is put
pub left_step : (part : DeskRow → List Answer) (IsWanted : Answer → Type 0) (turn : Turn) (first old new : List DeskRow)
    → length new ≡ length old → turn.order.1.desk < length old
    → ((k : ℕ) (d : DeskRow) → k < length old → k ≢ turn.order.1.desk → slice_index_or new k d ≡ slice_index_or old k d)
    → ((d : DeskRow) → part (slice_index_or old turn.order.1.desk d) ≡ turn.answer ∷ part (slice_index_or new turn.order.1.desk d))
    → AreLeft part IsWanted (turn.order ∷ turn.rest) turn.put first old
    → IsFor turn.order turn.answer × IsWanted turn.answer × AreLeft part IsWanted turn.rest (put_now turn) first new
left_step part IsWanted turn first old new same below others one left =
    let here = mine (some_of old (omega (arith, below))) in
    (here.0, here.1, λ k d k_below. cases k d k_below here.0.0 (turn.order.1.desk == k) refl)
  where
    mine : (d : DeskRow) → IsFor turn.order turn.answer × IsWanted turn.answer
        × IsLeft IsWanted turn.order.1.desk turn.rest (put_now turn) (part (slice_index_or first turn.order.1.desk d))
        (part (slice_index_or new turn.order.1.desk d))
    mine d =
        let desk = turn.order.1.desk in
        let P : List Answer → Type 0 = λ l. IsLeft IsWanted desk (turn.order ∷ turn.rest) turn.put (part (slice_index_or first desk d)) l in
        left_mine IsWanted desk turn (part (slice_index_or first desk d)) (part (slice_index_or new desk d)) refl
        (subst P (one d) (left desk d below))

    cases : (k : ℕ) (d : DeskRow) → k < length new → turn.answer.desk ≡ turn.order.1.desk → (b : Bool) → (turn.order.1.desk == k) ≡ b
        → IsLeft IsWanted k turn.rest (put_now turn) (part (slice_index_or first k d)) (part (slice_index_or new k d))
    cases k d k_below of true is =
        let P : ℕ → Type 0 = λ j. IsLeft IsWanted j turn.rest (put_now turn) (part (slice_index_or first j d))
        (part (slice_index_or new j d)) in
        subst P (grind (arith, nat_tests, is)) (mine d).2
    cases k d k_below of false is =
        let k_old : k < length old = omega (arith, k_below, same) in
        let apart : k ≢ turn.order.1.desk = grind (arith, nat_tests, is) in
        rw (others k d k_old apart) (left_other IsWanted k turn (part (slice_index_or first k d)) (part (slice_index_or old k d)) is of
        (left k d k_old))

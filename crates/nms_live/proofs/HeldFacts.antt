-- What is held of answers stays while legs and cuts are put behind.
use Rattle.std.proofs.Common.{ℕ, ◌≡◌, ◌-◌, ◌++◌, List, [], ◌∷◌, length, map, take, drop, refl, ap, sym, subst, ◌∙◌, arith}
use Rattle.std.proofs.Common.{length-append, length-drop}
use Rattle.std.specs.List.{AllByRecursion}
use Rattle.std.proofs.lemmas.List.{append-nil}
use Rattle.std.proofs.Math.Seq.{drop-append-le, drop-append_seam, take-append-le, take-length}
use mathlib.Core.List.{map-append}
use Rattle.nms_quote.specs.declared.answer.Answer.{Answer}
use Rattle.nms_quote.specs.declared.certificate.Cut.{Cut}
use Rattle.nms_quote.specs.declared.desk_order.DeskOrder.{DeskOrder}
use Rattle.nms_quote.specs.declared.plan.Leg.{Leg}
use Rattle.nms_quote.specs.declared.plan.Plan.{Plan}
use Rattle.nms_sweep.specs.Planned.{Planned}
use Rattle.nms_live.specs.Held.{Held, IsHeadOf, IsSpanOf, answer_of, items_of}
use Rattle.nms_live.specs.Planning.{answer_to}
use Rattle.nms_live.specs.declared.answers.Head.{Head}
use Rattle.nms_live.specs.declared.answers.Span.{Span}
use Rattle.nms_live.proofs.NumberFacts.{all_push}

-- a list has more items than before
abbrev pub HasMore : {X : Type 0} → List X → List X → Type 0
HasMore old new = (more : List _) × (new ≡ old ++ more)

pub has_none : {X : Type 0} (xs : List X) → HasMore xs xs
has_none xs = ([], sym (append-nil xs))

pub items_stay : {X : Type 0} (old new : List X) (span : Span) → HasMore old new → IsSpanOf old span
    → items_of new span ≡ items_of old span
items_stay old new span more is =
    rw more.1 (ap (take (span.end - span.start)) (drop-append-le span.start old more.0 (omega (arith, is.ordered, is.within)))
    ∙ take-append-le (span.end - span.start) (drop span.start old) more.0 (omega (arith, is.within, length-drop span.start old)))

pub span_stays : {X : Type 0} (old new : List X) (span : Span) → HasMore old new → IsSpanOf old span → IsSpanOf new span
span_stays old new span more is = record {
  ordered = is.ordered;
  within = omega (arith, is.within, ap length more.1, length-append old more.0);
  few = is.few;
}

-- what was put behind is there
pub put_there : {X : Type 0} (old items new : List X) (start end : ℕ) → new ≡ old ++ items → start ≡ length old → end ≡ length new
    → take (end - start) (drop start new) ≡ items
put_there old items new start end is from to =
    let count : end - start ≡ length items = omega (arith, from, to, ap length is, length-append old items) in
    ap (λ (n : ℕ). take n (drop start new)) count ∙ ap (λ (l : List _). take (length items) (drop start l)) is
    ∙ ap (λ (n : ℕ). take (length items) (drop n (old ++ items))) from
    ∙ ap (take (length items)) (drop-append_seam old items)
    ∙ take-length items

-- legs and cuts, before and after
pub record Grown : Type 0 where
  pub legs : List Leg
  pub legs_now : List Leg
  pub cuts : List Cut
  pub cuts_now : List Cut
  pub more_legs : HasMore legs legs_now
  pub more_cuts : HasMore cuts cuts_now

pub answer_stays : (g : Grown) (head : Head) → IsHeadOf g.legs g.cuts head → answer_of g.legs_now g.cuts_now head ≡ answer_of g.legs g.cuts head
answer_stays g head is =
    rw (items_stay g.legs g.legs_now head.legs g.more_legs is.legs_in, items_stay g.cuts g.cuts_now head.cuts g.more_cuts is.cuts_in) refl

pub heads_stay : (g : Grown) (heads : List Head) → AllByRecursion (IsHeadOf g.legs g.cuts) heads
    → AllByRecursion (IsHeadOf g.legs_now g.cuts_now) heads
heads_stay g [] all = tt
heads_stay g (head ∷ heads) all = (
  record {
    legs_in = span_stays g.legs g.legs_now head.legs g.more_legs all.0.legs_in;
    cuts_in = span_stays g.cuts g.cuts_now head.cuts g.more_cuts all.0.cuts_in;
  },
  heads_stay g heads all.1,
)

pub answers_stay : (g : Grown) (heads : List Head) → AllByRecursion (IsHeadOf g.legs g.cuts) heads
    → map (answer_of g.legs_now g.cuts_now) heads ≡ map (answer_of g.legs g.cuts) heads
answers_stay g [] all = refl
answers_stay g (head ∷ heads) all = λ i. answer_stays g head all.0 i ∷ answers_stay g heads all.1 i

-- one answer more, whose head was put behind the others
pub answers_more : (g : Grown) (heads : List Head) (head : Head) (answer : Answer) → AllByRecursion (IsHeadOf g.legs g.cuts) heads
    → answer_of g.legs_now g.cuts_now head ≡ answer
    → map (answer_of g.legs_now g.cuts_now) (heads ++ head ∷ []) ≡ map (answer_of g.legs g.cuts) heads ++ answer ∷ []
answers_more g heads head answer all is =
    map-append (answer_of g.legs_now g.cuts_now) heads (head ∷ []) ∙ (λ i. answers_stay g heads all i ++ is i ∷ [])

-- the answers are those before
pub same_answers : (g : Grown) (heads : List Head) (before : Held) → AllByRecursion (IsHeadOf g.legs g.cuts) heads
    → record { items = map (answer_of g.legs g.cuts) heads } ≡ before → map (answer_of g.legs_now g.cuts_now) heads ≡ before.items
same_answers g heads before all view = answers_stay g heads all ∙ ap (λ (h : Held). h.items) view

-- and one more
pub more_answers : (g : Grown) (heads heads_now : List Head) (head : Head) (answer : Answer) (before : Held)
    → AllByRecursion (IsHeadOf g.legs g.cuts) heads → record { items = map (answer_of g.legs g.cuts) heads } ≡ before
    → heads_now ≡ heads ++ head ∷ [] → answer_of g.legs_now g.cuts_now head ≡ answer
    → map (answer_of g.legs_now g.cuts_now) heads_now ≡ before.items ++ answer ∷ []
more_answers g heads heads_now head answer before all view pushed is =
    ap (map (answer_of g.legs_now g.cuts_now)) pushed ∙ answers_more g heads head answer all is
    ∙ ap (λ (h : Held). h.items ++ answer ∷ []) view

pub more_heads : (g : Grown) (heads heads_now : List Head) (head : Head) → AllByRecursion (IsHeadOf g.legs g.cuts) heads
    → heads_now ≡ heads ++ head ∷ [] → IsHeadOf g.legs_now g.cuts_now head → AllByRecursion (IsHeadOf g.legs_now g.cuts_now) heads_now
more_heads g heads heads_now head all pushed here =
    subst (AllByRecursion (IsHeadOf g.legs_now g.cuts_now)) (sym pushed)
    (all_push (IsHeadOf g.legs_now g.cuts_now) heads head (heads_stay g heads all) here)

-- the head of a plan, with where its legs and cuts are
abbrev pub head_of : ℕ × DeskOrder → Plan → Span → Span → Head
head_of order plan legs cuts = record {
  desk = order.1.desk;
  number = order.0;
  version = plan.version;
  order = plan.order;
  filled = plan.filled;
  cost = plan.cost;
  legs = legs;
  cuts = cuts;
}

pub answer_made : (order : ℕ × DeskOrder) (planned : Planned) (plan : Plan) (legs : List Leg) (cuts : List Cut) (its_legs its_cuts : Span)
    → plan ≡ planned.plan → items_of legs its_legs ≡ plan.legs.items → items_of cuts its_cuts ≡ planned.cuts
    → answer_of legs cuts (head_of order plan its_legs its_cuts) ≡ answer_to order planned
answer_made order planned plan legs cuts its_legs its_cuts is legs_are cuts_are =
    let all_legs : items_of legs its_legs ≡ planned.plan.legs.items = legs_are ∙ ap (λ (p : Plan). p.legs.items) is in
    λ i. record {
      desk = order.1.desk;
      number = order.0;
      plan = record {
        version = (is i).version;
        order = (is i).order;
        legs = record { items = all_legs i };
        filled = (is i).filled;
        cost = (is i).cost;
      };
      certificate = record { items = cuts_are i };
    }

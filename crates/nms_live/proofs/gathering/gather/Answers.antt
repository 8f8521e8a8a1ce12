-- `gather`: clause `answered` and the turns of its loop, by `numbered_more`, `zip_push`, `Turn`, `all_put`,
-- `left_step`, `numbered_rest`, `rising_all`, `some_of` and others.
use Rattle.std.proofs.Common.{ℕ, ◌≡◌, ◌<◌, ◌+◌, ◌++◌, ◌∷◌, [], List, length, take, drop, refl, ap, sym, subst, ◌∙◌, arith}
use Rattle.std.specs.List.{AllZip, enumerate_from}
use Rattle.std.specs.Prelude.{slice_index_or}
use Rattle.std.proofs.Math.Seq.{drop-length, take-length}
use Rattle.nms_live.specs.Answering.{IsFor, IsSound, numbered, of_desk, versions}
use Rattle.nms_live.specs.Lists.{IsRising}
use Rattle.nms_live.specs.Rows.{AreLeft, IsLast}
use Rattle.nms_quote.specs.declared.answer.Answer.{Answer}
use Rattle.nms_live.specs.declared.closing.DeskRow.{DeskRow}
use Rattle.nms_quote.specs.declared.desk_order.DeskOrder.{DeskOrder}
use Rattle.nms_live.proofs.AnswerFacts.{numbered_more}
use Rattle.nms_live.proofs.DeskFacts.{zip_push}
use Rattle.nms_live.proofs.LeftFacts.{Turn, all_put, left_step, numbered_rest, rising_all, some_left, some_of}
use Rattle.nms_live.proofs.NumberFacts.{all_both, all_push, all_weaker}
use Rattle.nms_live.proofs.gathering.gather.Goals as goal

pub loop-wanted-preserved : goal.loop-wanted-preserved
loop-wanted-preserved c =
    let at = c.loop-wanted in
    let inv = at.invariant in
    let settings = c.args.setup.now in
    let tape = c.args.tape.now in
    let published = c.args.published.now in
    let orders = c.args.orders.now in
    let place = at.wanted-index in
    let order = c.wanted-item.result in
    let answer = c.next_of-answer.result.0 in
    let close = c.next_of-answer.result.1 in
    let first = c.args.rows.items in
    let old = at.rows.items in
    let new = c.next_of-answer.new.rows.items in
    let rest = enumerate_from (place + 1) (drop (place + 1) orders) in
    let split : enumerate_from place (drop place orders) ≡ (place, order) ∷ rest =
    numbered_rest orders place order c.loop-wanted-test.true (sym c.wanted-item.is) in
    let here : order.desk < length old =
    let there = c.requires.desks place order c.loop-wanted-test.true in
    let is = sym (ap (λ (o : DeskOrder). o.desk) c.wanted-item.is) in
    omega (arith, there, is, inv.count) in
    let turn : Turn = record { order = (place, order); rest = rest; put = at.answers.items; answer = answer } in
    let turn_closing : Turn = record { order = (place, order); rest = rest; put = at.closing.items; answer = close } in
    let mine : DeskRow → List Answer = λ row. row.answers.items in
    let own : DeskRow → List Answer = λ row. row.closing.items in
    let left = subst (λ (l : List (ℕ × DeskOrder)). AreLeft mine (IsSound settings tape published) l at.answers.items first old) split
    inv.left in
    let closing_left = subst (λ (l : List (ℕ × DeskOrder)). AreLeft own (IsLast settings tape published) l at.closing.items first old) split
    inv.closing_left in
    let next = left_step mine (IsSound settings tape published) turn first old new
    c.next_of-answer.ensures.len here c.next_of-answer.ensures.others c.next_of-answer.ensures.answer left in
    let last = left_step own (IsLast settings tape published) turn_closing first old new
    c.next_of-answer.ensures.len here c.next_of-answer.ensures.others c.next_of-answer.ensures.closing closing_left in
    let pushed : c.push_reserved.new.self.items ≡ at.answers.items ++ answer ∷ [] = c.push_reserved.ensures.items in
    let pushed_closing : c.push_reserved-in-loop-wanted.new.self.items ≡ at.closing.items ++ close ∷ [] =
    c.push_reserved-in-loop-wanted.ensures.items in
    let more = numbered_more orders place order c.loop-wanted-test.true (sym c.wanted-item.is) in
    record {
      count = c.next_of-answer.ensures.len ∙ inv.count;
      put = omega (arith, c.push_reserved.ensures.len, inv.put);
      room = omega (arith, c.push_reserved.ensures.capacity, inv.room);
      closing_put = omega (arith, c.push_reserved-in-loop-wanted.ensures.len, inv.closing_put);
      closing_room = omega (arith, c.push_reserved-in-loop-wanted.ensures.capacity, inv.closing_room);
      left = rw pushed next.2;
      closing_left = rw pushed_closing last.2;
      matched = rw (more, pushed) (zip_push IsFor (numbered (take place orders)) at.answers.items (place, order) answer inv.matched next.0);
      closing_matched = rw (more, pushed_closing)
          (zip_push IsFor (numbered (take place orders)) at.closing.items (place, order) close inv.closing_matched last.0);
      sound = rw pushed (all_push (IsSound settings tape published) at.answers.items answer inv.sound next.1);
      last = rw pushed_closing (all_push (IsLast settings tape published) at.closing.items close inv.last last.1);
    }

pub returns-clause-answered : goal.returns-clause-answered
returns-clause-answered c =
    let at = c.loop-wanted in
    let inv = at.invariant in
    let settings = c.args.setup.now in
    let tape = c.args.tape.now in
    let published = c.args.published.now in
    let orders = c.args.orders.now in
    let first = c.args.rows.items in
    let place = at.wanted-index in
    let mine : DeskRow → List Answer = λ row. row.answers.items in
    let own : DeskRow → List Answer = λ row. row.closing.items in
    let end : place ≡ length orders = omega (arith, at.auto.wanted-index-end, c.loop-wanted-test.false) in
    let all : take place orders ≡ orders = ap (λ (k : ℕ). take k orders) end ∙ take-length orders in
    let none : enumerate_from place (drop place orders) ≡ [] = ap (λ (k : ℕ). enumerate_from place (drop k orders)) end
    ∙ ap (enumerate_from place) (drop-length orders) in
    let matched : AllZip IsFor (numbered orders) at.answers.items =
    subst (λ (l : List DeskOrder). AllZip IsFor (numbered l) at.answers.items) all inv.matched in
    let again : AllZip IsFor (numbered orders) at.closing.items =
    subst (λ (l : List DeskOrder). AllZip IsFor (numbered l) at.closing.items) all inv.closing_matched in
    let left = subst (λ (l : List (ℕ × DeskOrder)). AreLeft mine (IsSound settings tape published) l at.answers.items first at.rows.items)
    none inv.left in
    let closing_left = subst (λ (l : List (ℕ × DeskOrder)). AreLeft own (IsLast settings tape published) l at.closing.items first
    at.rows.items) none inv.closing_left in
    let rising : (desk : ℕ) → desk < length first → IsRising (versions (of_desk desk at.answers.items ++ of_desk desk at.closing.items)) =
    λ desk below.
    let d = some_of first (omega (arith, below)) in
    let now : desk < length at.rows.items = omega (arith, below, inv.count) in
    rw (
      all_put (IsSound settings tape published) desk at.answers.items (mine (slice_index_or first desk d))
          (mine (slice_index_or at.rows.items desk d)) (left desk d now),
      all_put (IsLast settings tape published) desk at.closing.items (own (slice_index_or first desk d))
          (own (slice_index_or at.rows.items desk d)) (closing_left desk d now),
    ) (c.requires.rows desk d below).rising in
    record {
      matched = matched;
      closing_matched = again;
      sound = inv.sound;
      closing_sound = all_weaker (IsLast settings tape published) (IsSound settings tape published) at.closing.items (λ a last. last.0)
          inv.last;
      last = all_weaker (IsLast settings tape published) (λ (a : Answer). a.plan.version ≡ length tape) at.closing.items (λ a last. last.1)
          inv.last;
      rising = rising_all orders (length first) at.answers.items at.closing.items c.requires.desks matched again rising;
    }

pub loop-wanted-init : goal.loop-wanted-init
loop-wanted-init c = rw (c.in-Ok.ensures.items, c.in-Ok-with_capacity.ensures.items) record {
  count = refl;
  put = c.in-Ok.ensures.len;
  room = omega (arith, c.in-Ok.ensures.capacity);
  closing_put = c.in-Ok-with_capacity.ensures.len;
  closing_room = omega (arith, c.in-Ok-with_capacity.ensures.capacity);
  left = λ k d below.
      let row = c.requires.rows k d below in
      record { parted = refl; matched = row.matched; wanted = row.sound };
  closing_left = λ k d below.
      let row = c.requires.rows k d below in
      record {
        parted = refl;
        matched = row.closing_matched;
        wanted = all_both (IsSound c.args.setup.now c.args.tape.now c.args.published.now)
            (λ (a : Answer). a.plan.version ≡ length c.args.tape.now)
            (slice_index_or c.args.rows.items k d).closing.items row.closing_sound row.last;
      };
  matched = tt;
  closing_matched = tt;
  sound = tt;
  last = tt;
}

pub next_of-answer-requires : goal.next_of-answer-requires
next_of-answer-requires c =
    let at = c.loop-wanted in
    let order = c.wanted-item.result in
    let there = c.requires.desks at.wanted-index order c.loop-wanted-test.true in
    let here : order.desk < length at.rows.items =
    omega (arith, there, ap (λ (o : DeskOrder). o.desk) c.wanted-item.is, at.invariant.count) in
    record {
      place = here;
      some = some_left (λ row. row.answers.items) _ c.args.orders.now at.wanted-index order at.answers.items c.args.rows.items at.rows.items
          c.loop-wanted-test.true (sym c.wanted-item.is) here at.invariant.left;
      closing = some_left (λ row. row.closing.items) _ c.args.orders.now at.wanted-index order at.closing.items c.args.rows.items
          at.rows.items c.loop-wanted-test.true (sym c.wanted-item.is) here at.invariant.closing_left;
    }

pub push_reserved-requires : goal.push_reserved-requires
push_reserved-requires c = omega (arith, c.loop-wanted-test.true, c.loop-wanted.invariant.put, c.loop-wanted.invariant.room)

pub push_reserved-requires-in-loop-wanted : goal.push_reserved-requires-in-loop-wanted
push_reserved-requires-in-loop-wanted c =
    omega (arith, c.loop-wanted-test.true, c.loop-wanted.invariant.closing_put, c.loop-wanted.invariant.closing_room)

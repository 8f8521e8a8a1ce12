-- `start_feeds`: its loop with one sender more, started or not, by `gone` and `zip_more`, what it calls and its return.
use Rattle.std.proofs.Common.{◌≡◌, ◌≤◌, ◌++◌, ◌∷◌, [], ℕ, List, length, refl, ap, sym, subst, ◌∙◌, append_assoc, length-append, arith}
use Rattle.std.proofs.lemmas.Grind.{common_steps}
use Rattle.std.specs.List.{AllByRecursion, AllZip}
use Rattle.std.specs.Vec.Iter.{into_iter_items}
use Rattle.nms_feed.specs.Lane.{Sending}
use Rattle.nms_live.specs.Crew.{IsFresh, WillBeFed, texts_of}
use Rattle.nms_live.proofs.FaultFacts.{not_both}
use Rattle.nms_live.proofs.FedFacts.{zip_more}
use Rattle.nms_live.proofs.PlaceFacts.{all_are}
use Rattle.nms_live.proofs.feed_workers.start_feeds.Goals as goal

gone : (front back rest all : List Sending) (sender : Sending) (n : ℕ) → back ≡ sender ∷ rest → front ++ back ≡ all
    → AllByRecursion IsFresh back → n ≤ length front
    → ((front ++ sender ∷ []) ++ rest ≡ all) × AllByRecursion IsFresh rest × (n ≤ length (front ++ sender ∷ []))
gone front back rest all sender n is parted fresh few = (
  append_assoc front (sender ∷ []) rest ∙ rw (sym is) parted,
  (subst (AllByRecursion IsFresh) is fresh).1,
  omega (arith, few, length-append front (sender ∷ [])),
)

few_of : (n k m have most : ℕ) → have ≡ n → most ≡ m → n ≤ k → k ≡ m → have ≤ most
few_of n k m have most one two few all = omega arith

pub loop-sender-preserved-in-Ok-1 : goal.loop-sender-preserved-in-Ok-1
loop-sender-preserved-in-Ok-1 g c =
    let at = c.loop-sender in
    let inv = at.invariant in
    let handle = c.in-Some-start_feed.handle in
    let more = gone at.yielded _ _ _ c.in-Some.sender _ c.in-Some.ensures.steps.0 inv.parted inv.fresh inv.few in
    let pushed : c.push.new.self.items ≡ at.handles.items ++ handle ∷ [] = c.in-Ok.ensures.items in
    record {
      parted = more.0;
      fresh = more.1;
      few = omega (
        arith,
        inv.few,
        ap length pushed,
        length-append at.handles.items (handle ∷ []),
        length-append at.yielded (c.in-Some.sender ∷ []),
      );
      room = omega (arith, inv.room, c.push.ensures.capacity);
      started = λ is. rw pushed (zip_more (WillBeFed c.args.given.now.setup.now.roster (texts_of c.args.given.now)) at.yielded
          at.handles.items c.in-Some.sender handle (inv.started is) c.in-Some-start_feed.ensures.job);
    }

pub loop-sender-preserved : goal.loop-sender-preserved
loop-sender-preserved g c =
    let inv = c.loop-sender.invariant in
    let more = gone c.loop-sender.yielded _ _ _ c.in-Some.sender _ c.in-Some.ensures.steps.0 inv.parted inv.fresh inv.few in
    record { parted = more.0; fresh = more.1; few = more.2; room = inv.room; started = λ is. not_both is refl }

pub loop-sender-preserved-then-not-all_started : goal.loop-sender-preserved-then-not-all_started
loop-sender-preserved-then-not-all_started g c =
    let inv = c.loop-sender.invariant in
    let more = gone c.loop-sender.yielded _ _ _ c.in-Some.sender _ c.in-Some.ensures.steps.0 inv.parted inv.fresh inv.few in
    record {
      parted = more.0;
      fresh = more.1;
      few = more.2;
      room = inv.room;
      started = λ is. not_both is c.if-not-all_started.true;
    }

pub loop-sender-init : goal.loop-sender-init
loop-sender-init g c =
    let all = c.into_iter-sender-iterator.ensures.into_iter_gives.0 in
    record {
      parted = all;
      fresh = subst (AllByRecursion IsFresh) (sym all) c.requires.fresh;
      few = omega (arith, ap length c.requires.empty);
      room = c.requires.room;
      started = λ _. rw c.requires.empty tt;
    }

pub start_feed-requires-clause-fresh : goal.start_feed-requires-clause-fresh
start_feed-requires-clause-fresh g c = λ loans lives.
    (subst (AllByRecursion IsFresh) c.in-Some.ensures.steps.0 c.loop-sender.invariant.fresh).0

pub returns : goal.returns
returns g c =
    let at = c.loop-sender in
    let inv = at.invariant in
    let senders = c.args.senders in
    let all : at.yielded ≡ senders.items = all_are senders.items at.yielded (into_iter_items at.sender-iterator) inv.parted
    (sym at.sender-iterator.rest.ok.0 ∙ c.in-None.ensures.steps.0) in
    record {
      few = few_of (length at.handles.items) (length at.yielded) (length senders.items) _ _ at.handles.ok.0 senders.ok.0 inv.few
          (ap length all);
      started = λ is. subst (λ (l : List Sending). AllZip (WillBeFed c.args.given.now.setup.now.roster (texts_of c.args.given.now)) l
          at.handles.items) all (inv.started is);
    }

-- ---- goals that `grind` closes; the search that is tried before it takes longer

pub unreachable-requires : goal.unreachable-requires
unreachable-requires g c = grind (arith, common_steps)

pub loop-sender-preserved-then-not-all_started-derived : goal.loop-sender-preserved-then-not-all_started-derived
loop-sender-preserved-then-not-all_started-derived g c = grind (arith, common_steps)

pub unreachable-unreachable : goal.unreachable-unreachable
unreachable-unreachable g c = grind (arith, common_steps)

pub loop-sender-preserved-in-Ok-1-derived : goal.loop-sender-preserved-in-Ok-1-derived
loop-sender-preserved-in-Ok-1-derived g c = grind (arith, common_steps)

pub loop-sender-init-derived : goal.loop-sender-init-derived
loop-sender-init-derived g c = grind (arith, common_steps)

pub loop-sender-preserved-derived : goal.loop-sender-preserved-derived
loop-sender-preserved-derived g c = grind (arith, common_steps)

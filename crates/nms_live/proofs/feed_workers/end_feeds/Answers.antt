-- `end_feeds`: the first fault is what it returns; what the senders sent is what the workers returned, by `sent_back`.
use Rattle.std.proofs.Common.{arith, ◌≡◌, ap, sym, subst, ◌∙◌}
use Rattle.std.proofs.lemmas.Grind.{common_steps}
use Rattle.nms_quote.specs.Merge.{own_of}
use Rattle.nms_feed.specs.Lane.{AreSendersOf}
use Rattle.nms_live.specs.Crew.{first_stop}
use Rattle.nms_live.proofs.FaultFacts.{first_known, some_not_none}
use Rattle.nms_live.proofs.KeeperFacts.{same_self}
use Rattle.nms_live.proofs.FedFacts.{sent_back}
use Rattle.nms_live.proofs.feed_workers.end_feeds.Goals as goal

pub returns-clause-merged : goal.returns-clause-merged
returns-clause-merged g c = λ none went.
    let merged = c.take_rest.ensures.merged went in (
      merged.0,
      (λ feed. merged.1 feed ∙ ap (own_of feed) (sent_back c.in-Some.senders.items c.args.fed.items c.in-Some.ensures.senders)),
      merged.2,
    )

pub returns-then-is_some : goal.returns-then-is_some
returns-then-is_some g c =
    let first = c.fault_of_feeds-first.result in
    let known : first ≡ first_stop c.args.fed.items = c.fault_of_feeds-first.ensures.first ∙ ap first_stop c.deref.ensures.value in
    let some = sym c.is_some.ensures ∙ c.if-is_some.true in
    record {
      same = same_self c.args.keeper.now;
      fault = first_known first (first_stop c.args.fed.items) known;
      first = λ _. known;
      whole = some_not_none first some;
      merged = some_not_none first some;
    }

pub take_rest-requires-clause-ends : goal.take_rest-requires-clause-ends
take_rest-requires-clause-ends g c = λ loans lives.
    subst (AreSendersOf c.args.taker) (sym c.in-Some.ensures.senders) c.requires.ends

pub take_rest-requires-clause-taken : goal.take_rest-requires-clause-taken
take_rest-requires-clause-taken g c = λ loans lives. c.requires.taken

-- ---- goals that `grind` closes; the search that is tried before it takes longer

pub returns-in_default-clause-merged : goal.returns-in_default-clause-merged
returns-in_default-clause-merged g c = grind (arith, common_steps)

pub returns-in_default-clause-fault : goal.returns-in_default-clause-fault
returns-in_default-clause-fault g c = grind (arith, common_steps)

pub returns-in_default-clause-first : goal.returns-in_default-clause-first
returns-in_default-clause-first g c = grind (arith, common_steps)

pub returns-in_default-clause-whole : goal.returns-in_default-clause-whole
returns-in_default-clause-whole g c = grind (arith, common_steps)

pub returns-in_default-clause-same : goal.returns-in_default-clause-same
returns-in_default-clause-same g c = grind (arith, common_steps)

pub returns-clause-same : goal.returns-clause-same
returns-clause-same g c = grind (arith, common_steps)

-- `run_feeds`: what was started and joined is fed (`fed_all`), so its ends are those of the lane, its fault is that of a text,
-- and its tape is a merge of what the texts say (`reads_of_all`).
use Rattle.std.proofs.Common.{arith, ap, sym, ◌∙◌}
use Rattle.std.proofs.lemmas.Grind.{common_steps}
use Rattle.nms_flow.specs.Run.{changes_in}
use Rattle.nms_versions.specs.Taped.{tape_of}
use Rattle.nms_live.specs.Crew.{first_stop, texts_of}
use Rattle.nms_live.proofs.FaultFacts.{fault_of_ends, not_some}
use Rattle.nms_live.proofs.FedFacts.{ends_back, fault_of_fed, fed_all, none_first, none_stopped}
use Rattle.nms_live.proofs.KeeperFacts.{same_self, same_then}
use Rattle.nms_live.proofs.TapeFacts.{reads_of_all, tape_of_feeds}
use Rattle.nms_live.proofs.feed_workers.run_feeds.Goals as goal

pub end_feeds-requires-clause-ends : goal.end_feeds-requires-clause-ends
end_feeds-requires-clause-ends g c = λ loans lives.
    let roster = c.args.given.now.setup.now.roster in
    let texts = texts_of c.args.given.now in
    let all = fed_all roster texts c.args.ends.0.items c.start_feeds-all_started.new.handles.items c.join_feeds-fed.result.items
    (c.start_feeds-all_started.ensures.started c.if-not-all_started.false) c.join_feeds-fed.ensures.kept in
    ends_back roster texts c.args.ends.0.items c.join_feeds-fed.result.items c.args.ends.1 c.take_until_ended.new.taker
    c.take_until_ended.ensures.lane.0 c.take_until_ended.ensures.lane.1 c.requires.ends.of_lane all

pub end_feeds-requires-clause-taken : goal.end_feeds-requires-clause-taken
end_feeds-requires-clause-taken g c = λ loans lives.
    c.take_until_ended.ensures.taken (λ _. c.requires.empty ∙ sym (ap changes_in c.requires.ends.none_taken))

pub returns : goal.returns
returns g c =
    let roster = c.args.given.now.setup.now.roster in
    let texts = texts_of c.args.given.now in
    let fed = c.join_feeds-fed.result.items in
    let all = fed_all roster texts c.args.ends.0.items c.start_feeds-all_started.new.handles.items fed
    (c.start_feeds-all_started.ensures.started c.if-not-all_started.false) c.join_feeds-fed.ensures.kept in
    let before = c.take_until_ended.ensures.same in
    let after = c.end_feeds.ensures.same in
    record {
      same = same_then c.args.keeper.now c.take_until_ended.new.keeper c.end_feeds.new.keeper before after;
      fault = fault_of_ends roster texts (first_stop fed) c.end_feeds.result (fault_of_fed roster texts c.args.ends.0.items fed all)
          c.end_feeds.ensures.fault;
      whole = c.end_feeds.ensures.whole;
      tape = λ none went.
          let merged = c.end_feeds.ensures.merged none went in
          let stopped = none_stopped fed (none_first (first_stop fed) c.end_feeds.result c.end_feeds.ensures.first none) in
          tape_of_feeds roster texts merged.0 (tape_of c.end_feeds.new.keeper.taped) merged.2
          (reads_of_all roster texts c.args.ends.1 c.args.ends.0.items fed merged.0 c.requires.ends.of_lane c.requires.ends.all all stopped
          merged.1);
    }

pub returns-then-is_err : goal.returns-then-is_err
returns-then-is_err g c = record { same = same_self c.args.keeper.now; fault = tt; whole = not_some; tape = not_some }

pub returns-then-not-all_started : goal.returns-then-not-all_started
returns-then-not-all_started g c = record { same = c.take_until_ended.ensures.same; fault = tt; whole = not_some; tape = not_some }

pub start_feeds-all_started-requires-clause-fresh : goal.start_feeds-all_started-requires-clause-fresh
start_feeds-all_started-requires-clause-fresh g c = λ loans lives. c.requires.ends.fresh

pub start_feeds-all_started-requires-clause-empty : goal.start_feeds-all_started-requires-clause-empty
start_feeds-all_started-requires-clause-empty g c = λ loans lives. c.reserve.ensures.items ∙ c.new-handles.ensures.items

pub join_feeds-fed-requires-clause-empty : goal.join_feeds-fed-requires-clause-empty
join_feeds-fed-requires-clause-empty g c = c.reserve-else-is_err.ensures.items ∙ c.new-back.ensures.items

-- ---- goals that `grind` closes; the search that is tried before it takes longer

pub start_feeds-all_started-requires-clause-room : goal.start_feeds-all_started-requires-clause-room
start_feeds-all_started-requires-clause-room g c = grind (arith, common_steps)

pub same-taker : goal.same-taker
same-taker g c = grind (arith, common_steps)

pub join_feeds-fed-requires-clause-room : goal.join_feeds-fed-requires-clause-room
join_feeds-fed-requires-clause-room g c = grind (arith, common_steps)

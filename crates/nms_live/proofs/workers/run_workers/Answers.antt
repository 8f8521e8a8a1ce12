-- `run_workers`: clause `done` and the call of `fault_among`, by `back_all`; what else it calls has what it was given.
use Rattle.std.proofs.Common.{arith, ℕ, ◌≡◌, ◌<◌, None, List, length, sym, ◌∙◌, subst}
use Rattle.std.proofs.lemmas.Grind.{common_steps}
use Rattle.std.specs.Prelude.{slice_index_or}
use Rattle.nms_versions.specs.Pages.{Book}
use Rattle.nms_live.specs.Crew.{AreBack}
use Rattle.nms_live.specs.Faults.{IsNoLineIfAny}
use Rattle.nms_live.specs.declared.desk_work.Desked.{Desked}
use Rattle.nms_live.proofs.CrewFacts.{back_all}
use Rattle.nms_live.proofs.KeeperFacts.{same_self}
use Rattle.nms_live.proofs.workers.run_workers.Goals as goal

pub fault_among-requires : goal.fault_among-requires
fault_among-requires g c =
    let desks = c.join_desks-desks.result.items in
    let back = back_all c.args.given.now.setup.now c.args.given.now.orders.items c.args.keeper.now.taped.opening c.args.desks.items
    c.in-Ok.crew.0.items desks
    c.requires.ready c.in-Ok.ensures.all c.join_desks-desks.ensures.all c.in-Ok.ensures.started c.join_desks-desks.ensures.kept in
    let all : (k : ℕ) (d : Desked) → k < length desks → IsNoLineIfAny (slice_index_or desks k d).stop =
    λ k d below. (back k d below).stopped in
    record {
      no_line = subst (λ (l : List Desked). (k : ℕ) (d : Desked) → k < length l → IsNoLineIfAny (slice_index_or l k d).stop)
          (sym c.as_slice.ensures.value) all;
    }

pub returns-in-None-clause-done : goal.returns-in-None-clause-done
returns-in-None-clause-done g c =
    let desks = c.join_desks-desks.result.items in
    let back = back_all c.args.given.now.setup.now c.args.given.now.orders.items c.args.keeper.now.taped.opening c.args.desks.items
    c.in-Ok.crew.0.items desks
    c.requires.ready c.in-Ok.ensures.all c.join_desks-desks.ensures.all c.in-Ok.ensures.started c.join_desks-desks.ensures.kept in
    let none = c.fault_among.ensures.none c.in-None.is in
    let both = c.first_of.ensures.none none.0 in
    let went_on : c.run_feeds-fed.new.keeper.stop ≡ None = sym c.stop.ensures.stop ∙ both.1 in
    record {
      went_on = went_on;
      tape = c.run_feeds-fed.ensures.tape both.0 went_on;
      whole = c.run_feeds-fed.ensures.whole both.0 went_on;
      back = subst (λ (o : Book). AreBack c.args.given.now.setup.now c.args.given.now.orders.items o desks)
          (sym c.run_feeds-fed.ensures.same.opening) back;
      all = c.join_desks-desks.ensures.all ∙ (c.in-Ok.ensures.all ∙ c.requires.desks);
      ended = subst (λ (l : List Desked). (k : ℕ) (d : Desked) → k < length l → (slice_index_or l k d).stop ≡ None) c.as_slice.ensures.value
          none.1;
    }

pub run_feeds-fed-requires-clause-ends : goal.run_feeds-fed-requires-clause-ends
run_feeds-fed-requires-clause-ends g c = λ loans lives. c.requires.ends

pub run_feeds-fed-requires-clause-empty : goal.run_feeds-fed-requires-clause-empty
run_feeds-fed-requires-clause-empty g c = λ loans lives. c.requires.empty

pub start_crew-requires-clause-all : goal.start_crew-requires-clause-all
start_crew-requires-clause-all g c = λ loans lives. c.requires.desks

pub start_crew-requires-clause-sizes : goal.start_crew-requires-clause-sizes
start_crew-requires-clause-sizes g c = λ loans lives k d below. (c.requires.ready k d below).1

pub join_desks-desks-requires : goal.join_desks-desks-requires
join_desks-desks-requires g c = record { empty = c.in-Ok.ensures.empty; room = c.in-Ok.ensures.room }

pub returns-in-Err-clause-same : goal.returns-in-Err-clause-same
returns-in-Err-clause-same g c = same_self c.args.keeper.now

pub returns-in-Some-clause-same : goal.returns-in-Some-clause-same
returns-in-Some-clause-same g c = c.run_feeds-fed.ensures.same

-- ---- goals that `grind` closes; the search that is tried before it takes longer

pub returns-in-Some-clause-fault : goal.returns-in-Some-clause-fault
returns-in-Some-clause-fault g c = grind (arith, common_steps)

pub returns-in-Err-clause-fault : goal.returns-in-Err-clause-fault
returns-in-Err-clause-fault g c = grind (arith, common_steps)

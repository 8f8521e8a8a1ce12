-- `make_desks`: its loop, where each turn makes one desk more, by `replicate-append-replicate`, and what it leaves.
use Rattle.std.proofs.Common.{◌≡◌, ◌++◌, ◌∷◌, [], ◌∙◌, refl, arith, rules}
use Rattle.std.proofs.lemmas.List.{replicate-append-replicate}
use Rattle.nms_versions.proofs.opening.make_desks.Goals as goal

pub loop-init : goal.loop-init
loop-init c = record { desks = c.in-Ok.ensures.items; shown = refl; waiting = refl; knows = refl }

pub make_desk-requires-clause-named : goal.make_desk-requires-clause-named
make_desk-requires-clause-named c = rw c.loop.invariant.knows c.requires.named

pub loop-preserved : goal.loop-preserved
loop-preserved c =
    let inv = c.loop.invariant in
    let pushed : c.push.new.self.items ≡ c.loop.desks.items ++ c.in_ok-desk.desk ∷ [] = search rules in
    record {
      desks = rw (pushed, inv.desks, c.in_ok-desk.ensures.desk, inv.knows) (replicate-append-replicate c.loop.counter 1 _);
      shown = c.make_desk.ensures.shown ∙ inv.shown;
      waiting = c.make_desk.ensures.waiting ∙ inv.waiting;
      knows = c.make_desk.ensures.knows ∙ inv.knows;
    }

pub returns-in_err-desk-clause-shown : goal.returns-in_err-desk-clause-shown
returns-in_err-desk-clause-shown c = c.make_desk.ensures.shown ∙ c.loop.invariant.shown

pub returns-in_err-desk-clause-waiting : goal.returns-in_err-desk-clause-waiting
returns-in_err-desk-clause-waiting c = c.make_desk.ensures.waiting ∙ c.loop.invariant.waiting

pub returns-then-is_err-clause-shown : goal.returns-then-is_err-clause-shown
returns-then-is_err-clause-shown c = c.make_desk.ensures.shown ∙ c.loop.invariant.shown

pub returns-then-is_err-clause-waiting : goal.returns-then-is_err-clause-waiting
returns-then-is_err-clause-waiting c = c.make_desk.ensures.waiting ∙ c.loop.invariant.waiting

pub returns-clause-desks : goal.returns-clause-desks
returns-clause-desks c =
    let all : c.loop.counter ≡ c.args.count = omega (arith, c.loop.auto.counter-end, c.loop-test.false) in
    rw (← all) c.loop.invariant.desks

pub returns-clause-shown : goal.returns-clause-shown
returns-clause-shown c = c.loop.invariant.shown

pub returns-clause-waiting : goal.returns-clause-waiting
returns-clause-waiting c = c.loop.invariant.waiting

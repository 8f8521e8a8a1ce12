-- `Keeper::publish`: the invariant of what it leaves, by `kept_more` and `kept_with`, and its early returns, which leave the tape.
use Rattle.std.proofs.Common.{ℕ, ◌++◌, ◌∷◌, [], List, Some, length, refl, ap, sym, ◌∙◌, arith}
use Rattle.std.proofs.lemmas.Grind.{common_steps}
use Rattle.nms_versions.specs.Taped.{tape_of}
use Rattle.nms_live.specs.declared.live_fault.LiveFault.TheVariants as fault
use Rattle.nms_live.specs.Keeping.{Keeping}
use Rattle.nms_live.proofs.FaultFacts.{not_some, some_not_none}
use Rattle.nms_live.proofs.KeeperFacts.{kept_more, kept_with, same_taped}
use Rattle.nms_live.proofs.keeper.Keeper.publish.Goals as goal

pub invariant_of-self-then-is_err : goal.invariant_of-self-then-is_err
invariant_of-self-then-is_err g c =
    let p = c.self.inside.publisher in (
      rw c.reserve.ensures.items (kept_with p p c.self.inside.listed.items c.self.inside.stop (Some fault.NoMemory) refl tt
          c.self.invariant.0),
      omega arith,
    )

pub invariant_of-self-then-not-passes : goal.invariant_of-self-then-not-passes
invariant_of-self-then-not-passes g c =
    let p = c.self.inside.publisher in (
      rw c.reserve.ensures.items (kept_with p p c.self.inside.listed.items c.self.inside.stop (Some fault.GateLimit) refl tt
          c.self.invariant.0),
      omega arith,
    )

pub invariant_of-self-2 : goal.invariant_of-self-2
invariant_of-self-2 g c =
    let n = length (tape_of c.self.inside.publisher) in (
      kept_more c.self.inside.publisher c.publish_now.new.publisher c.self.inside.listed.items c.publish_now.new.listed.items
          c.self.inside.stop
          c.publish_now.ensures.publications c.publish_now.ensures.whole
          (c.publish_now.ensures.listed ∙ ap (λ (l : List ℕ). l ++ n ∷ []) c.reserve.ensures.items)
          c.self.invariant.0,
      omega arith,
    )

pub returns-then-is_some : goal.returns-then-is_some
returns-then-is_some g c =
    let stop = c.self.inside.stop in
    let some = sym c.is_some.ensures ∙ c.if-is_some.true in
    record {
      same = same_taped c.args.self.now _ (ap (λ (k : Keeping). k.taped) c.self.view_is);
      tape = some_not_none stop some;
      whole = some_not_none stop some;
    }

pub returns-then-is_err : goal.returns-then-is_err
returns-then-is_err g c = record {
  same = same_taped c.args.self.now _ (ap (λ (k : Keeping). k.taped) c.self.view_is);
  tape = not_some;
  whole = not_some;
}

pub returns-then-not-passes : goal.returns-then-not-passes
returns-then-not-passes g c = record {
  same = same_taped c.args.self.now _ (ap (λ (k : Keeping). k.taped) c.self.view_is);
  tape = not_some;
  whole = not_some;
}

-- ---- goals that `grind` closes; the search that is tried before it takes longer

pub publish_now-requires : goal.publish_now-requires
publish_now-requires g c = grind (arith, common_steps)

pub returns-clause-whole : goal.returns-clause-whole
returns-clause-whole g c = grind (arith, common_steps)

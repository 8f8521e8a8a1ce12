-- `apply_best`: how far it came, and what is left then.
use Rattle.std.proofs.Common.{◌≡◌, ◌∙◌, ◌+◌, ℕ, None, ap, arith, get_or, refl, rules, slice_set, subst, sym, take}
use Rattle.std.proofs.lemmas.List.{length-set}
use Rattle.nms_calls.specs.Batches.{AreFollowed, all_followed, followed_fault}
use Rattle.nms_calls.specs.Opened.{IsApplied, Progress, version}
use Rattle.nms_calls.specs.RowNumbers.{AreBest}
use Rattle.nms_calls.specs.declared.change_numbers.NmsChange.{NmsChange}
use Rattle.nms_calls.proofs.BatchLemmas.{followed_is, followed_more, followed_none, followed_on, stopped_following, with_room}
use Rattle.nms_calls.proofs.open_board.OpenBoard.apply_best.Goals as goal

-- the change used for one past the last
abbrev none : NmsChange
none = record {
  bid_price = 0;
  offer_price = 0;
  bid_shares = 0;
  offer_shares = 0;
  sym = 0;
  lot = 0;
  part = 0;
  kind = 0;
  state = 0;
  spare = 0;
}

pub returns-then-out-changes-clause-left : goal.returns-then-out-changes-clause-left
returns-then-out-changes-clause-left c = followed_none c.args.self.now c.args.changes.now c.args.out.now

pub loop-change-init : goal.loop-change-init
loop-change-init c = record {
  counted = refl;
  room = refl;
  settings = refl;
  version_of = omega arith;
  reached_is = refl;
  left = followed_none c.args.self.now c.args.changes.now c.args.out.now;
}

pub returns-in-Err-clause-answer : goal.returns-in-Err-clause-answer
returns-in-Err-clause-answer c =
    let opened = c.args.self.now in let n = get_or c.args.changes.now c.loop-change.change-index none in
    ap (λ (p : Progress). p.fault) (stopped_following opened c.args.changes.now c.loop-change.change-index c.loop-change.place none
    c.in-Err.fault c.loop-change-test.true c.loop-change.invariant.reached_is
    (followed_is opened c.loop-change.self c.loop-change.place n c.loop-change.invariant.settings c.loop-change.invariant.version_of
    ∙ sym c.in-Err.ensures.answer)
    ∙ with_room c.args.changes.now c.args.out.now (all_followed opened c.args.changes.now) (omega (arith, c.if-out-changes.false)))

pub returns-in-Err-clause-done : goal.returns-in-Err-clause-done
returns-in-Err-clause-done c =
    let opened = c.args.self.now in let n = get_or c.args.changes.now c.loop-change.change-index none in
    ap (λ (p : Progress). p.applied) (stopped_following opened c.args.changes.now c.loop-change.change-index c.loop-change.place none
    c.in-Err.fault c.loop-change-test.true c.loop-change.invariant.reached_is
    (followed_is opened c.loop-change.self c.loop-change.place n c.loop-change.invariant.settings c.loop-change.invariant.version_of
    ∙ sym c.in-Err.ensures.answer)
    ∙ with_room c.args.changes.now c.args.out.now (all_followed opened c.args.changes.now) (omega (arith, c.if-out-changes.false)))

pub loop-change-preserved : goal.loop-change-preserved
loop-change-preserved c =
    let opened = c.args.self.now in let now = c.loop-change.self in let new = c.follow.new.self in let best = c.follow.new.out in
    let i = c.loop-change.change-index in let n = get_or c.args.changes.now i none in
    let fine : followed_fault now.settings (version now) n ≡ None = search rules in
    let applied : IsApplied n now new = search rules in
    let shown : AreBest new n.sym best = search rules in
    let same : new.settings ≡ now.settings = search rules in
    let counted : version new ≡ version now + 1 = search rules in
    let here : c.loop-change.place ≡ i = c.loop-change.invariant.counted in
    record {
      counted = ap (λ (k : ℕ). k + 1) here;
      room = length-set c.loop-change.out c.loop-change.place best ∙ c.loop-change.invariant.room;
      settings = same ∙ c.loop-change.invariant.settings;
      version_of = omega (arith, counted, c.loop-change.invariant.version_of);
      reached_is = followed_on opened c.args.changes.now i c.loop-change.place none c.loop-change-test.true
          c.loop-change.invariant.reached_is
          (followed_is opened now c.loop-change.place n c.loop-change.invariant.settings c.loop-change.invariant.version_of ∙ fine);
      left = subst (λ (k : ℕ). AreFollowed opened (take (i + 1) c.args.changes.now) (take (i + 1) (slice_set c.loop-change.out k best)) new)
          (sym here) (followed_more opened now new c.args.changes.now c.loop-change.out i none best c.loop-change-test.true
          (omega (arith, c.loop-change-test.true, c.loop-change.invariant.room, c.if-out-changes.false))
          c.loop-change.invariant.left applied shown);
    }

-- `apply_all`: each change that is applied is counted, and at a refusal the rest alters nothing.
use Rattle.std.proofs.Common.{◌≡◌, ◌∙◌, ◌+◌, ℕ, None, ap, arith, get_or, refl, sym}
use Rattle.nms_calls.specs.Opened.{IsApplied, Progress, apply_fault, nothing, version}
use Rattle.nms_calls.specs.declared.change_numbers.NmsChange.{NmsChange}
use Rattle.nms_calls.proofs.OpenedLemmas.{applied_more, later_is, settings_kept, stopped_at, version_counted, went_on}
use Rattle.nms_calls.proofs.open_board.OpenBoard.apply_all.Goals as goal

-- the change used for one past the last
abbrev none : NmsChange
none = record {
  bid_price = 0;
  offer_price = 0;
  bid_shares = 0;
  offer_shares = 0;
  sym = 0;
  lot = 0;
  part = 0;
  kind = 0;
  state = 0;
  spare
      = 0;
}

pub loop-change-init : goal.loop-change-init
loop-change-init c = record { counted = refl; settings = refl; version_of = omega arith; reached_is = refl; left = nothing }

pub loop-change-preserved : goal.loop-change-preserved
loop-change-preserved c =
    let start = c.args.self.now in let old = c.loop-change.self in let new = c.apply.new.self in
    let changes = c.args.changes.now in let i = c.loop-change.change-index in let taken = c.loop-change.taken in
    let n : NmsChange = get_or changes i none in
    let accepted : apply_fault old n ≡ None = sym c.in_default.ensures.answer in
    let is : IsApplied n old new = record { accepted = accepted; applied = c.in_default.ensures.applied } in
    let one_more : version new ≡ version old + 1 = version_counted n old new is in
    record {
      counted = ap (λ (k : ℕ). k + 1) c.loop-change.invariant.counted;
      settings = settings_kept n old new is ∙ c.loop-change.invariant.settings;
      version_of = omega (arith, one_more, c.loop-change.invariant.version_of);
      reached_is = went_on start changes i taken none c.loop-change-test.true c.loop-change.invariant.reached_is
          (later_is start old taken n c.loop-change.invariant.settings c.loop-change.invariant.version_of ∙ accepted);
      left = applied_more start old new changes i none c.loop-change-test.true c.loop-change.invariant.left is;
    }

pub returns-in-Err-clause-answer : goal.returns-in-Err-clause-answer
returns-in-Err-clause-answer c =
    let start = c.args.self.now in let changes = c.args.changes.now in let i = c.loop-change.change-index in
    let taken = c.loop-change.taken in
    ap (λ (p : Progress). p.fault)
    (stopped_at start changes i taken none c.in-Err.fault c.loop-change-test.true c.loop-change.invariant.reached_is
    (later_is start c.loop-change.self taken (get_or changes i none) c.loop-change.invariant.settings
    c.loop-change.invariant.version_of ∙ sym c.in-Err.ensures.answer))

pub returns-in-Err-clause-applied : goal.returns-in-Err-clause-applied
returns-in-Err-clause-applied c =
    let start = c.args.self.now in let changes = c.args.changes.now in let i = c.loop-change.change-index in
    let taken = c.loop-change.taken in
    ap (λ (p : Progress). p.applied)
    (stopped_at start changes i taken none c.in-Err.fault c.loop-change-test.true c.loop-change.invariant.reached_is
    (later_is start c.loop-change.self taken (get_or changes i none) c.loop-change.invariant.settings
    c.loop-change.invariant.version_of ∙ sym c.in-Err.ensures.answer))

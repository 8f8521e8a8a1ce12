-- `apply_lines`: each line that is applied is counted and passed, and at a refusal the others alter nothing.
use Rattle.std.proofs.Common.{◌≡◌, ◌≢◌, ◌∙◌, ◌+◌, ◌∷◌, ℕ, List, Err, None, Result, Some, [], ap, arith, drop, get_or, refl, subst, sym}
use Rattle.std.proofs.lemmas.List.{take_rest}
use Rattle.nms_fees.specs.declared.setup_fault.SetupFault.TheVariants as setup
use Rattle.nms_calls.specs.Opened.{Progress, version}
use Rattle.nms_calls.specs.RecordSaid.{record_fault}
use Rattle.nms_calls.specs.TextLines.{IsAppliedRecord, all_records, line_start, nothing, records_in}
use Rattle.nms_calls.specs.declared.call_fault.CallFault.{CallFault}
use Rattle.nms_calls.specs.declared.call_fault.CallFault.TheVariants as fault
use Rattle.nms_calls.proofs.LineLemmas.{at_more, at_none, line_at, none_left}
use Rattle.nms_calls.proofs.RecordLemmas.{all_done, applied_more, later_is, settings_kept, stopped_at, version_counted, went_on}
use Rattle.nms_calls.proofs.open_board.OpenBoard.apply_lines.Goals as goal
use Rattle.nms_calls.proofs.open_board.OpenBoard.apply_lines.Goals.{In-Err}

pub loop-start-init : goal.loop-start-init
loop-start-init c =
    record { place = at_none c.args.text.now; settings = refl; version_of = omega arith; reached_is = refl; left = nothing }

pub loop-start-preserved : goal.loop-start-preserved
loop-start-preserved c =
    let opened = c.args.self.now in let old = c.loop-start.self in let new = c.apply_record.new.self in
    let text = c.args.text.now in let start = c.loop-start.start in let n : ℕ = c.loop-start.taken in
    let records : List (List ℕ) = records_in text in let rest : List ℕ = drop start text in
    let line = c.first_record-bytes.result.0.now in let bytes = c.first_record-bytes.result.1 in
    let said : records_in rest ≡ line ∷ records_in (drop bytes rest) = rw (take_rest text start) at c.first_record-bytes.ensures.line in
    let bytes_of : bytes ≡ line_start rest 1 = rw (take_rest text start) at c.first_record-bytes.ensures.bytes in
    let there = line_at text line (drop bytes rest) n start c.loop-start.invariant.place said in
    let accepted : record_fault old line ≡ None = sym (c.in_default.ensures.answer (λ e. absurd (cc e))) in
    let is : IsAppliedRecord line old new = record { accepted = accepted; applied = c.in_default.ensures.applied } in
    let one_more : version new ≡ version old + 1 = version_counted line old new is in
    let is_there : IsAppliedRecord (get_or records n []) old new = subst (λ (t : List ℕ). IsAppliedRecord t old new) (sym there.1) is in
    record {
      place = at_more text line n start bytes c.loop-start-test.true c.loop-start.invariant.place said bytes_of;
      settings = settings_kept line old new is ∙ c.loop-start.invariant.settings;
      version_of = omega (arith, one_more, c.loop-start.invariant.version_of);
      reached_is = went_on opened records n there.0 c.loop-start.invariant.reached_is
          (later_is opened old n (get_or records n []) c.loop-start.invariant.settings c.loop-start.invariant.version_of ∙ is_there.accepted);
      left = applied_more opened old new records n there.0 c.loop-start.invariant.left is_there;
    }

-- an answer that is not out of memory
abbrev HasMemory : Result (Unit {0}) CallFault → Type 0
HasMemory told = told ≢ Err (fault.Setup setup.NoMemory)

-- how far the call came if a line is refused
stopped : (c : In-Err) → HasMemory (Err c.in-Err.fault)
    → record { applied = c.loop-start.taken; fault = Some c.in-Err.fault } ≡ all_records c.args.self.now (records_in c.args.text.now)
stopped c no_memory =
    let opened = c.args.self.now in let old = c.loop-start.self in
    let text = c.args.text.now in let start = c.loop-start.start in let n : ℕ = c.loop-start.taken in
    let records : List (List ℕ) = records_in text in let rest : List ℕ = drop start text in
    let line = c.first_record-bytes.result.0.now in let bytes = c.first_record-bytes.result.1 in
    let said : records_in rest ≡ line ∷ records_in (drop bytes rest) = rw (take_rest text start) at c.first_record-bytes.ensures.line in
    let there = line_at text line (drop bytes rest) n start c.loop-start.invariant.place said in
    stopped_at opened records n c.in-Err.fault there.0 c.loop-start.invariant.reached_is
    (later_is opened old n (get_or records n []) c.loop-start.invariant.settings c.loop-start.invariant.version_of
    ∙ ap (record_fault old) there.1 ∙ sym (c.in-Err.ensures.answer no_memory))

pub returns-in-Err-clause-answer : goal.returns-in-Err-clause-answer
returns-in-Err-clause-answer c = λ no_memory. ap (λ (p : Progress). p.fault) (stopped c no_memory)

pub returns-in-Err-clause-applied : goal.returns-in-Err-clause-applied
returns-in-Err-clause-applied c = λ no_memory. ap (λ (p : Progress). p.applied) (stopped c no_memory)

pub returns-clause-answer : goal.returns-clause-answer
returns-clause-answer c = λ no_memory.
    let text = c.args.text.now in let n : ℕ = c.loop-start.taken in
    let done = none_left text n c.loop-start.start c.loop-start-test.false c.loop-start.invariant.place in
    ap (λ (p : Progress). p.fault) (all_done c.args.self.now (records_in text) n done c.loop-start.invariant.reached_is)

pub returns-clause-applied : goal.returns-clause-applied
returns-clause-applied c = λ no_memory.
    let text = c.args.text.now in let n : ℕ = c.loop-start.taken in
    let done = none_left text n c.loop-start.start c.loop-start-test.false c.loop-start.invariant.place in
    ap (λ (p : Progress). p.applied) (all_done c.args.self.now (records_in text) n done c.loop-start.invariant.reached_is)

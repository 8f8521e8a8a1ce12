-- `take_records`: one record more has the next number; at the end there is none left, or there are too many.
use Rattle.std.proofs.Common.{Bool, Ok, ap, arith, refl, subst, ◌≡◌, ◌+◌, ◌-◌, ◌<◌, ◌++◌, ◌∷◌, [], length}
use Rattle.std.proofs.lemmas.List.{length_push}
use Rattle.csv.specs.Records.{fields_of}
use Rattle.nms_lines.specs.Layout.{Record}
use Rattle.nms_trades.specs.Answers.{AreNumbered}
use Rattle.nms_trades.specs.Files.{IsReadingFault}
use Rattle.nms_trades.specs.declared.TheConstants.{MOST_EXECUTIONS}
use Rattle.nms_trades.proofs.OkFacts.{same_err}
use Rattle.nms_trades.proofs.execution_file.take_records.Goals as goal

pub loop-number-init : goal.loop-number-init
loop-number-init g c = record {
  on = c.requires.on;
  window = c.requires.window;
  numbered = c.requires.none;
  reads = λ bytes reads. ([], reads, refl);
}

pub loop-number-preserved : goal.loop-number-preserved
loop-number-preserved g c =
    let number = c.loop-number.number in
    let some : 0 < number = omega (arith, c.loop-number.auto.number) in
    let next : number ≡ number + 1 - 1 = omega arith in
    let last : number ≡ number - 1 + 1 = omega (arith, some) in
    record {
      on = c.take_record.ensures.on;
      window = c.take_record.ensures.window;
      numbered = subst (λ n. AreNumbered n c.take_record.new.records.executions.items c.take_record.new.records.refused.items) next
          (c.in_ok-take_record-in-Ok-true.ensures.numbered (number - 1) last c.loop-number.invariant.numbered);
      reads = λ bytes reads.
          let had = c.loop-number.invariant.reads bytes reads in
          let row : Record = fields_of c.read_next.new.row in
          let found = c.in-Ok-true.ensures.found bytes had.0 had.1 (ap (λ (b : Bool). Ok b) c.in-Ok-true.field-0-test) in
          let count : length (had.0 ++ row ∷ []) ≡ number + 1 - 1 = omega (arith, length_push had.0 row, had.2, some) in
          (had.0 ++ row ∷ [], found, count);
    }

pub returns-in_err-take_record-in-Ok-true-clause-refused : goal.returns-in_err-take_record-in-Ok-true-clause-refused
returns-in_err-take_record-in-Ok-true-clause-refused g c = λ bytes reads.
    same_err (IsReadingFault bytes) _ c.from_residual.result c.from_residual.ensures.1
    (c.in_err-take_record-in-Ok-true.ensures.refused bytes)

pub returns-in-Ok-true-read_next-clause-refused : goal.returns-in-Ok-true-read_next-clause-refused
returns-in-Ok-true-read_next-clause-refused g c = λ bytes reads.
    let had = c.loop-number.invariant.reads bytes reads in
    let row : Record = fields_of c.read_next-2.new.row in
    let found = c.in-Ok-true-read_next.ensures.found bytes had.0 had.1 (ap (λ (b : Bool). Ok b) c.in-Ok-true-read_next.field-0-test) in
    let more : MOST_EXECUTIONS < length (had.0 ++ row ∷ []) =
    omega (arith, length_push had.0 row, had.2, c.loop-number-test.false, c.loop-number.auto.number-end) in
    record { fields = had.0 ++ row ∷ []; first = found.begins; more = more }

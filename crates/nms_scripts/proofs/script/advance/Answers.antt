-- `advance`: clause `came`, by `breaks_off`, `comes_on`, `ends_before` and `stops_after`.
use Rattle.std.proofs.Common.{arith, rules, ◌≡◌, Bool, Ok, Err, ap, ◌∙◌}
use Rattle.std.proofs.lemmas.Grind.{common_steps}
use Rattle.csv.specs.Records.{fields_of}
use Rattle.nms_text.specs.declared.script_fault.ScriptFault.TheVariants as fault
use Rattle.nms_scripts.proofs.ProgressFacts.{breaks_off, comes_on, ends_before, stops_after}
use Rattle.nms_scripts.proofs.script.advance.Goals as goal

pub returns-then-not-branch-clause-came : goal.returns-then-not-branch-clause-came
returns-then-not-branch-clause-came g c bytes old refused come =
    (come.so_far, c.read.ensures.end bytes come.so_far.records come.reads (c.in_ok-read.was ∙ ap (λ (b : Bool). Ok b) c.if-not-branch.true))

pub returns-clause-came : goal.returns-clause-came
returns-clause-came g c bytes old refused come =
    let found = c.read.ensures.found bytes come.so_far.records come.reads (c.in_ok-read.was ∙ ap (λ (b : Bool). Ok b) c.if-not-branch.false)
    in
    comes_on g.R.Read.remaining c.args.setup.now bytes c.args.reader.now c.read.new.reader c.args.script.now.flow c.serve.new.flow old
    (g.W.Write.contents c.args.writer.now) (g.W.Write.contents c.tell_answer.new.writer)
    c.args.done refused (fields_of c.read.new.row) c.clear.new.self.items c.serve.new.out.items c.deref.result.now c.in-Ok.refused
    come found c.clear.ensures.items c.in-Ok.ensures.served c.in-Ok.ensures.room c.deref.ensures.value c.in_ok-tell_answer.ensures.written

-- the answers to what was read before stay
pub returns-in_err-read-clause-came : goal.returns-in_err-read-clause-came
returns-in_err-read-clause-came g c bytes old refused come =
    let stops = stops_after g.R.Read.remaining c.args.setup.now bytes c.args.reader.now c.args.script.now.flow old
    (g.W.Write.contents c.args.writer.now) c.args.done refused c.in_err-read.field-0.0
    come come.reads.begins c.in_err-read.ensures.short in
    let is_fault : c.from_residual.result ≡ Err c.in_err-read.field-0.0 = search rules in
    rw is_fault (ends_before c.args.setup.now bytes old (g.W.Write.contents c.args.writer.now) c.args.done refused c.in_err-read.field-0.0
    c.in_err-read.ensures.unwritten stops)

pub returns-then-done-eq-MOST_RECORDS-clause-came : goal.returns-then-done-eq-MOST_RECORDS-clause-came
returns-then-done-eq-MOST_RECORDS-clause-came g c bytes old refused come =
    let is_found = c.in_ok-read.was ∙ ap (λ (b : Bool). Ok b) c.if-not-branch.false in
    ends_before c.args.setup.now bytes old (g.W.Write.contents c.args.writer.now) c.args.done refused fault.TooLong (λ e. cc) (
      c.args.script.now.flow,
      come.so_far,
      come.reads.begins,
      λ _. (
        come.so_far.counted ∙ c.if-done-eq-MOST_RECORDS.true,
        fields_of c.read.new.row,
        (c.read.ensures.found bytes come.so_far.records come.reads is_found).begins,
      ),
    )

pub returns-in_default-clause-came : goal.returns-in_default-clause-came
returns-in_default-clause-came g c bytes old refused come =
    ends_before c.args.setup.now bytes old (g.W.Write.contents c.args.writer.now) c.args.done refused fault.NoMemory (λ e. cc)
    (stops_after g.R.Read.remaining c.args.setup.now bytes c.args.reader.now c.args.script.now.flow old
    (g.W.Write.contents c.args.writer.now) c.args.done refused fault.NoMemory
    come come.reads.begins (λ e. cc))

-- the writer failed within the answer to the last record that was read
pub returns-in_err-tell_answer-clause-came : goal.returns-in_err-tell_answer-clause-came
returns-in_err-tell_answer-clause-came g c bytes old refused come =
    let found = c.read.ensures.found bytes come.so_far.records come.reads (c.in_ok-read.was ∙ ap (λ (b : Bool). Ok b) c.if-not-branch.false)
    in
    let off = breaks_off g.R.Read.remaining c.args.setup.now bytes c.args.reader.now c.read.new.reader c.args.script.now.flow
    c.serve.new.flow old (g.W.Write.contents c.args.writer.now) (g.W.Write.contents c.tell_answer.new.writer)
    c.args.done refused (fields_of c.read.new.row) c.clear.new.self.items c.serve.new.out.items c.deref.result.now c.in-Ok.refused
    come found c.clear.ensures.items c.in-Ok.ensures.served c.in-Ok.ensures.room c.deref.ensures.value c.in_err-tell_answer.ensures.part in
    let is_fault : c.from_residual-in_err-tell_answer.result ≡ Err c.in_err-tell_answer.field-0.0 = search rules in
    rw is_fault (record { stopped = λ other. absurd (other c.in_err-tell_answer.ensures.refused); cut = λ _. off })

-- ---- goals that `grind` closes; the search that is tried before it takes longer

pub returns-in_default-clause-failed : goal.returns-in_default-clause-failed
returns-in_default-clause-failed g c = grind (arith, common_steps)

pub returns-clause-most : goal.returns-clause-most
returns-clause-most g c = grind (arith, common_steps)

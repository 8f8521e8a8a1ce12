-- `advance`: clause `came`, by `breaks_off`, `comes_on` and `ends_anyhow`.
use Rattle.std.proofs.Common.{Bool, Ok, ap, refl}
use Rattle.csv.specs.Records.{fields_of}
use Rattle.nms_answers.proofs.ProgressFacts.{breaks_off, comes_on, ends_anyhow}
use Rattle.nms_answers.proofs.request_stream.advance.Goals as goal

pub returns-in-Ok-false-clause-came : goal.returns-in-Ok-false-clause-came
returns-in-Ok-false-clause-came g c bytes before first refused come = (
  come.requests,
  come.answered,
  c.in-Ok-false.ensures.end bytes come.requests come.reads (ap (λ (b : Bool). Ok b) c.in-Ok-false.field-0-test),
  come.looked,
  come.refusals,
)

pub returns-in-Err-clause-came : goal.returns-in-Err-clause-came
returns-in-Err-clause-came g c bytes before first refused come =
    ends_anyhow g.R.Read.remaining c.args.setup.now bytes c.args.reader.now first c.args.desk.now c.answer_latest.new.desk before
    (g.W.Write.contents c.args.answers.now) c.args.done refused c.in-Err.fault come c.answer_latest.ensures.knows

pub returns-in-Ok-tell-clause-came : goal.returns-in-Ok-tell-clause-came
returns-in-Ok-tell-clause-came g c bytes before first refused come =
    let found = c.in-Ok-true.ensures.found bytes come.requests come.reads (ap (λ (b : Bool). Ok b) c.in-Ok-true.field-0-test) in
    comes_on g.R.Read.remaining c.args.setup.now bytes c.args.reader.now c.read_next.new.reader first c.args.desk.now
    c.answer_latest.new.desk before (g.W.Write.contents c.args.answers.now) (g.W.Write.contents c.tell.new.writer) c.args.done refused
    (fields_of c.read_next.new.row) c.answer_latest.new.text.items c.deref-2.result.now c.in-Ok.refused come found
    c.in-Ok.ensures.answered c.deref-2.ensures.value c.in-Ok-tell.ensures.written

pub returns-in-Err-tell-clause-came : goal.returns-in-Err-tell-clause-came
returns-in-Err-tell-clause-came g c bytes before first refused come =
    let found = c.in-Ok-true.ensures.found bytes come.requests come.reads (ap (λ (b : Bool). Ok b) c.in-Ok-true.field-0-test) in
    let off = breaks_off g.R.Read.remaining c.args.setup.now bytes c.args.reader.now c.read_next.new.reader first c.args.desk.now
    c.answer_latest.new.desk before (g.W.Write.contents c.args.answers.now) (g.W.Write.contents c.tell.new.writer) c.args.done refused
    (fields_of c.read_next.new.row) c.answer_latest.new.text.items c.deref-2.result.now c.in-Ok.refused come found
    c.in-Ok.ensures.answered c.deref-2.ensures.value c.in-Err-tell.ensures.part in
    record { stopped = λ other. absurd (other refl); cut = λ _. off }

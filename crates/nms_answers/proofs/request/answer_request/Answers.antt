-- `answer_request`: clause `answered`, by `answered_line` and `answered_refused`.
use Rattle.std.proofs.Common.{refl, sym}
use Rattle.csv.specs.Records.{fields_of}
use Rattle.nms_answers.proofs.RequestFacts.{answered_line, answered_refused}
use Rattle.nms_answers.proofs.request.answer_request.Goals as goal

pub returns-in_ok-answer_line-in-Ok-clause-answered : goal.returns-in_ok-answer_line-in-Ok-clause-answered
returns-in_ok-answer_line-in-Ok-clause-answered c =
    answered_line c.args.setup.now c.args.number (fields_of c.args.row.now) c.in-Ok.line c.args.desk.now c.answer_line.new.desk
    c.args.out.now.items c.answer_line.new.out.items (sym c.in-Ok.ensures.said) c.in_ok-answer_line-in-Ok.ensures.told

pub returns-in_ok-refuse-in-Err-clause-answered : goal.returns-in_ok-refuse-in-Err-clause-answered
returns-in_ok-refuse-in-Err-clause-answered c =
    answered_refused c.args.setup.now c.args.number (fields_of c.args.row.now) c.in-Err.fault c.args.desk.now c.args.desk.now
    c.args.out.now.items c.refuse.new.out.items (sym c.in-Err.ensures.said) refl c.in_ok-refuse-in-Err.ensures

-- `PlanWalk::next`: the walk passed one record more, by `passed_more`; so its count says whether that is one too many.
use Rattle.std.proofs.Common.{sym}
use Rattle.csv.specs.Records.{fields_of}
use Rattle.nms_explain.proofs.WalkFacts.{not_too_many, one_too_many, passed_more}
use Rattle.nms_explain.proofs.places.plan_walk.PlanWalk.next.Goals as goal

pub returns-in-Some-clause-passed : goal.returns-in-Some-clause-passed
returns-in-Some-clause-passed c = λ before was.
    passed_more before (fields_of c.args.row.now) c.text_at.result.now c.args.self.now c.after.result c.text_at.ensures was
    c.after.ensures.due c.after.ensures.count

pub returns-in-None-clause-passed : goal.returns-in-None-clause-passed
returns-in-None-clause-passed c = λ before was.
    passed_more before (fields_of c.args.row.now) c.text_at.result.now c.args.self.now c.after.result c.text_at.ensures was
    c.after.ensures.due c.after.ensures.count

pub returns-in-None-2-clause-passed : goal.returns-in-None-2-clause-passed
returns-in-None-2-clause-passed c = λ before was.
    passed_more before (fields_of c.args.row.now) c.text_at.result.now c.args.self.now c.after.result c.text_at.ensures was
    c.after.ensures.due c.after.ensures.count

pub returns-in-None-clause-trouble : goal.returns-in-None-clause-trouble
returns-in-None-clause-trouble c = λ before was.
    let passed =
    passed_more before (fields_of c.args.row.now) c.text_at.result.now c.args.self.now c.after.result c.text_at.ensures was
    c.after.ensures.due c.after.ensures.count in
    one_too_many c.args.roster.now before (fields_of c.args.row.now) c.args.self.now c.after.result was passed
    (sym c.in-None.ensures) c.if-self-gt-MOST.true

pub returns-in-None-2-clause-trouble : goal.returns-in-None-2-clause-trouble
returns-in-None-2-clause-trouble c = λ before was.
    let passed =
    passed_more before (fields_of c.args.row.now) c.text_at.result.now c.args.self.now c.after.result c.text_at.ensures was
    c.after.ensures.due c.after.ensures.count in
    not_too_many c.args.roster.now before (fields_of c.args.row.now) c.args.self.now c.after.result was passed
    (sym c.in-None-2.ensures) c.if-self-gt-MOST.false

-- `explain_record`: one record more came, right or wrong.
use Rattle.std.proofs.Common.{refl}
use Rattle.csv.specs.Records.{fields_of}
use Rattle.nms_explain.proofs.PlanFacts.{one_right, one_wrong}
use Rattle.nms_explain.proofs.plan_text.explain_record.Goals as goal

pub returns-in-Some-clause-come : goal.returns-in-Some-clause-come
returns-in-Some-clause-come g c = λ seen before.
    one_wrong c.args.asked.now.roster.now seen (fields_of c.args.row.now) c.args.came.now _ before refl
    (c.in-Some.ensures.passed seen before.walk) c.in-Some.trouble (c.in-Some.ensures.trouble seen before.walk) refl

pub returns-in-None-clause-come : goal.returns-in-None-clause-come
returns-in-None-clause-come g c = λ seen before.
    one_right c.args.asked.now.roster.now seen (fields_of c.args.row.now) c.args.came.now _ before refl
    (c.in-None.ensures.passed seen before.walk) (c.in-None.ensures.trouble seen before.walk) refl

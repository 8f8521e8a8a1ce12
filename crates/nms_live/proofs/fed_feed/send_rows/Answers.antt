-- `send_rows`: clauses `read` and `refused` and the turns of its loop, by `all_push`, `first_refused` and
-- `says_more`.
use Rattle.std.proofs.Common.{ap, Ok, Bool, ◌∙◌, ◌+◌, ◌++◌, ◌∷◌, [], Some, length, arith, length-append}
use Rattle.std.proofs.lemmas.Grind.{common_steps}
use Rattle.nms_lines.specs.Rows.{fields_of}
use Rattle.nms_lines.specs.ChangeReading.{IsOwn}
use Rattle.nms_live.proofs.NumberFacts.{all_push}
use Rattle.nms_live.proofs.FaultFacts.{first_refused}
use Rattle.nms_live.proofs.FeedFacts.{says_more}
use Rattle.nms_live.proofs.fed_feed.send_rows.Goals as goal

pub loop-index-preserved : goal.loop-index-preserved
loop-index-preserved g c =
    let sent = c.in-Ok.ensures.sent in
    record {
      lane = c.send_record.ensures.same.0 ∙ c.loop-index.invariant.lane;
      feed = c.send_record.ensures.same.1 ∙ c.loop-index.invariant.feed;
      count = omega (arith, ap length sent.3, length-append c.loop-index.sender.sent (sent.0 ∷ []), c.loop-index.invariant.count);
      read = λ text reads.
          let had = c.loop-index.invariant.read text reads in (
            had.0 ++ fields_of c.read_next.new.row ∷ [],
            c.in-Ok-true.ensures.found (Some text) had.0 had.1 (ap (λ (b : Bool). Ok b) c.in-Ok-true.field-0-test),
            says_more c.args.setup.now.roster c.args.feed had.0 (fields_of c.read_next.new.row) c.loop-index.sender.sent
                c.send_record.new.sender.sent sent.0 sent.1 sent.3 had.2,
            omega (arith, length-append had.0 (fields_of c.read_next.new.row ∷ []), had.3),
          );
      own = rw sent.3 (all_push (IsOwn c.args.setup.now.roster c.args.feed) c.loop-index.sender.sent sent.0 c.loop-index.invariant.own
          sent.2);
    }

pub returns-in-Ok-false-clause-read : goal.returns-in-Ok-false-clause-read
returns-in-Ok-false-clause-read g c = λ text reads.
    let had = c.loop-index.invariant.read text reads in
    record {
      records = had.0;
      all = c.in-Ok-false.ensures.end (Some text) had.0 had.1 (ap (λ (b : Bool). Ok b) c.in-Ok-false.field-0-test);
      said = had.2;
      own = c.loop-index.invariant.own;
    }

pub returns-in-Err-send_record-clause-refused : goal.returns-in-Err-send_record-clause-refused
returns-in-Err-send_record-clause-refused g c = λ text reads.
    let had = c.loop-index.invariant.read text reads in
    let found = c.in-Ok-true.ensures.found (Some text) had.0 had.1 (ap (λ (b : Bool). Ok b) c.in-Ok-true.field-0-test) in
    first_refused c.args.setup.now.roster c.args.feed text had.0 (fields_of c.read_next.new.row) c.loop-index.sender.sent
    (c.loop-index.index + 1) c.in-Err-send_record.fault
    found.begins had.2 (omega (arith, had.3)) c.in-Err-send_record.ensures.refused

-- ---- goals that `grind` closes; the search that is tried before it takes longer

pub returns-in-Err-send_record-clause-same : goal.returns-in-Err-send_record-clause-same
returns-in-Err-send_record-clause-same g c = grind (arith, common_steps)

pub loop-index-init : goal.loop-index-init
loop-index-init g c = grind (arith, common_steps)

pub returns-in-Err-send_record-clause-read : goal.returns-in-Err-send_record-clause-read
returns-in-Err-send_record-clause-read g c = grind (arith, common_steps)

pub returns-in-Err-clause-read : goal.returns-in-Err-clause-read
returns-in-Err-clause-read g c = grind (arith, common_steps)

pub returns-in-Ok-false-clause-same : goal.returns-in-Ok-false-clause-same
returns-in-Ok-false-clause-same g c = grind (arith, common_steps)

pub send_record-requires-clause-few : goal.send_record-requires-clause-few
send_record-requires-clause-few g c = grind (arith, common_steps)

pub returns-in-Ok-false-clause-refused : goal.returns-in-Ok-false-clause-refused
returns-in-Ok-false-clause-refused g c = grind (arith, common_steps)

pub returns-in-Err-clause-refused : goal.returns-in-Err-clause-refused
returns-in-Err-clause-refused g c = grind (arith, common_steps)

pub returns-in-Err-clause-same : goal.returns-in-Err-clause-same
returns-in-Err-clause-same g c = grind (arith, common_steps)

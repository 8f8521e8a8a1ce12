-- `send_rows`: clause `refused` and the turns of its loop, by `sent_more` and `refused_at`.
use Rattle.std.proofs.Common.{ap, subst, Bool, Ok, ◌+◌, ◌++◌, ◌∷◌, ◌∙◌, []}
use Rattle.csv.specs.Records.{fields_of}
use Rattle.nms_quote.specs.declared.feed.Feed.{Feed}
use Rattle.nms_lines.specs.ChangeReading.{feed_reading}
use Rattle.nms_feeds.specs.Streams.{IsRefusal, IsSentOf}
use Rattle.nms_feeds.proofs.SentFacts.{refused_at, sent_more}
use Rattle.nms_feeds.proofs.sending.send_rows.Goals as goal

pub loop-preserved : goal.loop-preserved
loop-preserved g c =
    let roster = c.args.setup.now.roster in
    let fields = fields_of c.read_next.new.row in
    let now = c.loop.sender.sent in
    let then = c.send_record.new.sender.sent in
    let one = subst (λ (f : Feed). IsSentOf roster f (fields ∷ []) now then c.loop.counts c.send_record.new.counts) c.loop.invariant.feed
    c.in-Ok.ensures.sent in
    record {
      lane = c.send_record.ensures.same.0 ∙ c.loop.invariant.lane;
      feed = c.send_record.ensures.same.1 ∙ c.loop.invariant.feed;
      counted = c.send_record.ensures.counted;
      come = λ bytes reads.
          let had = c.loop.invariant.come bytes reads in (
            had.0 ++ fields ∷ [],
            c.in-Ok-true.ensures.found bytes had.0 had.1 (ap (λ (b : Bool). Ok b) c.in-Ok-true.field-0-test),
            sent_more roster c.args.sender.now.feed had.0 (fields ∷ []) c.args.sender.now.sent now then c.args.counts.now c.loop.counts
                c.send_record.new.counts had.2 one,
          );
      strict = λ strict. c.send_record.ensures.strict strict ∙ c.loop.invariant.strict strict;
    }

pub returns-in-Err-clause-refused : goal.returns-in-Err-clause-refused
returns-in-Err-clause-refused g c = λ bytes reads.
    let roster = c.args.setup.now.roster in
    let fields = fields_of c.read_next.new.row in
    let had = c.loop.invariant.come bytes reads in
    let found = c.in-Ok-true.ensures.found bytes had.0 had.1 (ap (λ (b : Bool). Ok b) c.in-Ok-true.field-0-test) in
    refused_at roster c.args.sender.now.feed bytes had.0 fields c.args.counts.now c.loop.counts c.args.strict c.in-Err.fault
    had.2.counted found.begins
    (subst (λ (f : Feed). IsRefusal c.args.strict (c.loop.counts.records + 1) (feed_reading roster f fields) c.in-Err.fault)
    c.loop.invariant.feed c.in-Err.ensures.refused)

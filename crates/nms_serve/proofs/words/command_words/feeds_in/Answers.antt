-- `feeds_in`: its faults and the turns of its loop, by the value at hand.
use Rattle.std.proofs.Common.{◌∙◌, ◌==◌, List, map, option_map, ap, sym}
use Rattle.std.specs.List.{list_any}
use Rattle.nms_serve.specs.CommandLine.{shown_feed}
use Rattle.nms_serve.specs.declared.words.request.FeedPath.{FeedPath}
use Rattle.nms_serve.proofs.FeedLemmas.{among_shown, no_form, once_more, one_read, stands_twice}
use Rattle.nms_serve.proofs.words.command_words.feeds_in.Goals as goal

pub returns-in_default-clause-refused : goal.returns-in_default-clause-refused
returns-in_default-clause-refused c = no_form c.args.values.now c.loop-value.value-index _ (map shown_feed c.loop-value.feeds.items)
    c.loop-value-test.true c.loop-value.invariant.read c.loop-value.invariant.apart
    (sym c.in_ok-feed.ensures ∙ ap (option_map shown_feed) c.in_default.is)

pub returns-then-has_place-clause-refused : goal.returns-then-has_place-clause-refused
returns-then-has_place-clause-refused c =
    let feeds = c.loop-value.feeds.items in
    let places = ap (λ (fs : List FeedPath). list_any (λ feed. feed.place == c.in-Some.feed.place) fs) c.deref.ensures.value in
    stands_twice c.args.values.now c.loop-value.value-index _ (map shown_feed feeds) (shown_feed c.in-Some.feed)
    c.loop-value-test.true c.loop-value.invariant.read c.loop-value.invariant.apart
    (sym c.in_ok-feed.ensures ∙ ap (option_map shown_feed) c.in-Some.is)
    (among_shown feeds c.in-Some.feed ∙ sym places ∙ sym c.has_place.ensures ∙ c.if-has_place.true)

pub loop-value-preserved : goal.loop-value-preserved
loop-value-preserved c =
    let feeds = c.loop-value.feeds.items in
    let feed = c.in-Some.feed in
    let places = ap (λ (fs : List FeedPath). list_any (λ f. f.place == feed.place) fs) c.deref.ensures.value in
    record {
      read = one_read c.args.values.now c.loop-value.value-index _ feeds c.add.new.items.items feed c.loop-value-test.true
          c.loop-value.invariant.read (sym c.in_ok-feed.ensures ∙ ap (option_map shown_feed) c.in-Some.is) c.in_ok-add.ensures;
      apart = once_more feeds c.add.new.items.items feed c.loop-value.invariant.apart
          (sym places ∙ sym c.has_place.ensures ∙ c.if-has_place.false) c.in_ok-add.ensures;
    }

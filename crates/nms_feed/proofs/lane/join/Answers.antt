-- `join`: what was taken is a merge of what was sent, by `joins` and `merged`.
use Rattle.std.proofs.Common.{arith, ◌≡◌, ◌++◌, [], List, ap, sym, subst, ◌∙◌}
use Rattle.std.proofs.lemmas.Grind.{common_steps}
use Rattle.std.proofs.lemmas.List.{append-nil, nil_from_length}
use Rattle.std.specs.Vec.Iter.{into_iter_items}
use Rattle.std.specs.List.{AllByRecursion}
use Rattle.nms_quote.specs.Merge.{of_feed}
use Rattle.nms_feed.specs.Known.{taken_in}
use Rattle.nms_feed.specs.Lane.{Sending}
use Rattle.nms_feed.specs.declared.known.Known.{Known}
use Rattle.nms_feed.proofs.Ends.{joined, merged}
use Rattle.nms_feed.proofs.lane.join.Goals as goal

pub returns : goal.returns
returns c =
    let taker = c.args.taker in
    let tallies = c.learn_as.ensures.rule in
    let whole : c.loop-sender.yielded ≡ c.args.senders.items =
    let nothing : into_iter_items c.loop-sender.sender-iterator ≡ [] =
    nil_from_length _ (sym c.loop-sender.sender-iterator.rest.ok.0 ∙ c.in-None.ensures.steps.0) in
    sym (append-nil c.loop-sender.yielded) ∙ ap (λ (rest : List Sending). c.loop-sender.yielded ++ rest) (sym nothing)
    ∙ c.loop-sender.invariant.parted in
    let all = subst (λ (k : Known). AllByRecursion (λ s. s.changes ≡ of_feed s.feed (taken_in k ++ tallies.0)) k.sent)
    (c.loop-sender.invariant.knows ∙ ap (joined taker.senders taker.taken) whole) tallies.1 in
    merged taker.senders c.args.senders.items taker.taken tallies.0 c.requires.all.in_order all c.requires.taken

-- ---- goals that `grind` closes; the search that is tried before it takes longer

pub loop-sender-init : goal.loop-sender-init
loop-sender-init c = grind (arith, common_steps)

pub loop-sender-preserved : goal.loop-sender-preserved
loop-sender-preserved c = grind (arith, common_steps)

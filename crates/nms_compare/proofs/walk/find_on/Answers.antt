-- `find_on`: all that it promises, by `quoted_stands`.
use Rattle.std.proofs.Common.{ap, ◌∙◌}
use Rattle.nms_quote.specs.Roster.{Sizes}
use Rattle.nms_quote.specs.Tape.{version}
use Rattle.nms_stream.specs.Quoted.{quoted_at}
use Rattle.nms_stream.specs.Tapes.{sizes_in}
use Rattle.nms_stream.specs.declared.quoted.Quoted.{Quoted}
use Rattle.nms_compare.specs.Finding.{finding_of}
use Rattle.nms_compare.proofs.QuotedFacts.{quoted_stands}
use Rattle.nms_compare.proofs.walk.find_on.Goals as goal

pub returns : goal.returns
returns c =
    let walk = c.args.walk.now in
    let replay = walk.replay in
    let tape = replay.tape.now.changes.items in
    c.find_between.ensures
    ∙ ap (λ (ours : Quoted). finding_of ours c.args.theirs.now)
    (c.quoted_on.ensures.best
    ∙ quoted_stands replay.board (version replay.board.applied tape) c.args.theirs.now.sym replay.at.stands
    ∙ ap (λ (sizes : Sizes). quoted_at sizes (version replay.board.applied tape) c.args.theirs.now.sym) replay.at.same
    ∙ ap (λ n. quoted_at (sizes_in replay.tape.now) (version n tape) c.args.theirs.now.sym) walk.at)

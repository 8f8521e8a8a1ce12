-- `shown_on`: clause `shown`, by `quoted_stands`.
use Rattle.std.proofs.Common.{ap, ◌∙◌, arith, Some}
use Rattle.std.proofs.lemmas.List.{length-map}
use Rattle.nms_quote.specs.Roster.{sizes_of}
use Rattle.nms_stream.proofs.QuotedFacts.{quoted_stands}
use Rattle.nms_stream.proofs.following.shown_on.Goals as goal

pub returns-clause-shown : goal.returns-clause-shown
returns-clause-shown c tape stands symbol below =
    c.loop-place.invariant.each symbol
    (omega (arith, below, length-map c.args.roster.now.syms (λ entry. entry.1), c.loop-place-test.false, c.syms-place-end.ensures.count))
    ∙ ap Some (quoted_stands c.args.board.now tape (sizes_of c.args.roster.now) symbol stands c.requires)

-- `state_line`: what it reads is a line of the roster from its source; a feed brings its own by `sent_by`.
use Rattle.std.proofs.Common.{arith, ◌≡◌, false, rules}
use Rattle.std.proofs.lemmas.Grind.{common_steps}
use Rattle.nms_quote.specs.Roster.{feed_of_change}
use Rattle.nms_quote.specs.declared.change.Change.{Change}
use Rattle.nms_quote.specs.declared.change.Change.TheVariants as change
use Rattle.nms_lines.specs.Sources.{is_foreign}
use Rattle.nms_lines.proofs.SourceFacts.{both_there, sent_by}
use Rattle.nms_lines.proofs.change_line.state_line.Goals as goal

pub returns-clause-of : goal.returns-clause-of
returns-clause-of c = λ brought.
    let state : Change = change.State c.in_ok-part.part c.in_ok-sym.sym c.in_ok-state.state in
    let own : is_foreign c.args.from (feed_of_change c.args.roster.now state) ≡ false = search rules in
    record {
      there = both_there c.args.roster.now c.in_ok-part.part c.in_ok-sym.sym c.in_ok-part.ensures.there c.in_ok-sym.ensures.there;
      brought = brought;
      sent = sent_by c.args.roster.now c.args.from state own;
    }

-- ---- goals that `grind` closes; the search that is tried before it takes longer

pub returns-clause-line : goal.returns-clause-line
returns-clause-line c = grind (arith, common_steps)

pub feed_of-requires : goal.feed_of-requires
feed_of-requires c = grind (arith, common_steps)

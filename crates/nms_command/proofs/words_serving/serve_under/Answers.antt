-- `serve_under`: what a live run is given, or what is left if there is none.
use Rattle.std.proofs.Common.{arith, ◌∙◌, ap, length, refl, sym}
use Rattle.std.proofs.lemmas.Grind.{common_steps}
use Rattle.std.specs.String.{string_bytes}
use Rattle.std.proofs.lemmas.List.{length-map}
use Rattle.nms_words.specs.CommandLine.{shown}
use Rattle.nms_command.proofs.FailedFacts.{not_given_stopped}
use Rattle.nms_command.proofs.words_serving.serve_under.Goals as goal

pub returns-in-Ok-clause-met : goal.returns-in-Ok-clause-met
returns-in-Ok-clause-met g c = (
  record {
    live = c.in-Live.is;
    setup = c.requires.said;
    files = length-map c.args.request.now.words.items string_bytes ∙ ap length (sym c.deref.ensures.value) ∙ c.in-Ok.ensures.files;
    feeds = c.in-Ok.ensures.feeds;
    within = c.in-Ok.ensures.within;
    orders = c.in-Ok.ensures.orders;
    desks = c.in-Ok.ensures.desks;
  },
  refl,
)

pub returns-in-Err-clause-left : goal.returns-in-Err-clause-left
returns-in-Err-clause-left g c =
    not_given_stopped c.in-Err.fault (shown c.args.request.now) c.args.setup (length c.deref.result.now) (g.R.Read.remaining c.args.input.now)
    (g.W.Write.contents c.args.answers.now) (g.W.Write.contents c.args.answers.now) c.in-Err.ensures.refused refl

pub returns-in-Script : goal.returns-in-Script
returns-in-Script g c = c.serve_to_end.ensures

-- ---- goals that `grind` closes; the search that is tried before it takes longer

pub serve_to_end-requires : goal.serve_to_end-requires
serve_to_end-requires g c = grind (arith, common_steps)

pub returns-in-Err-clause-met : goal.returns-in-Err-clause-met
returns-in-Err-clause-met g c = grind (arith, common_steps)

pub same-setup : goal.same-setup
same-setup g c = grind (arith, common_steps)

-- `serve`: all that it promises, by `ended_apart`, `ended_live` and `stopped_live`.
use Rattle.std.proofs.Common.{arith, Bor, List, ℕ, map}
use Rattle.std.proofs.lemmas.Grind.{common_steps}
use Rattle.nms_tool.proofs.ServedFacts.{ended_apart, ended_live, stopped_live}
use Rattle.nms_tool.proofs.program.serve.Goals as goal

pub returns-in-Ok-Ended-clause-done : goal.returns-in-Ok-Ended-clause-done
returns-in-Ok-Ended-clause-done g c =
    ended_apart c.in-Ok-Ended.field-0 c.in-Ok-Ended.ending (map {A = Bor (List ℕ)} {B = List ℕ} (λ word. word.now) c.args.words.now)
    (g.R.Read.remaining c.args.input.now)
    (g.W.Write.contents c.args.answers.now) (g.W.Write.contents c.serve_words.new.answers) c.in-Ok-Ended.field-0-is c.in-Ok-Ended.ensures.met

pub returns-in-Ok-Live-clause-done : goal.returns-in-Ok-Live-clause-done
returns-in-Ok-Live-clause-done g c =
    ended_live c.serve_live.result c.in-Ok-Live.field-0 (map {A = Bor (List ℕ)} {B = List ℕ} (λ word. word.now) c.args.words.now) c.in-Ok-Live.setup
    c.in-Ok-Live.input (g.R.Read.remaining c.args.input.now)
    (g.W.Write.contents c.args.answers.now) (g.W.Write.contents c.serve_words.new.answers) (g.W.Write.contents c.serve_live.new.answers)
    c.in-Ok-Live.field-0-is c.in-Ok-Live.ensures.met c.serve_live.ensures.done

pub returns-in-Ok-Live-clause-left : goal.returns-in-Ok-Live-clause-left
returns-in-Ok-Live-clause-left g c =
    stopped_live c.serve_live.result c.in-Ok-Live.field-0 (map {A = Bor (List ℕ)} {B = List ℕ} (λ word. word.now) c.args.words.now)
    c.in-Ok-Live.setup c.in-Ok-Live.input (g.R.Read.remaining c.args.input.now)
    (g.W.Write.contents c.args.answers.now) (g.W.Write.contents c.serve_words.new.answers) (g.W.Write.contents c.serve_live.new.answers)
    c.in-Ok-Live.field-0-is c.in-Ok-Live.ensures.met c.serve_live.ensures.left

-- ---- goals that `grind` closes; the search that is tried before it takes longer

pub serve_live-requires-clause-orders : goal.serve_live-requires-clause-orders
serve_live-requires-clause-orders g c = grind (arith, common_steps)

pub serve_live-requires-clause-feeds : goal.serve_live-requires-clause-feeds
serve_live-requires-clause-feeds g c = grind (arith, common_steps)

pub serve_live-requires-clause-desks : goal.serve_live-requires-clause-desks
serve_live-requires-clause-desks g c = grind (arith, common_steps)

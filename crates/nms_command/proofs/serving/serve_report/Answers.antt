-- `serve_report`: the report of the symbol, or what is left of it.
use Rattle.std.proofs.Common.{arith, ◌≡◌, ℕ, List, Option, Some, map, refl}
use Rattle.std.proofs.lemmas.Grind.{common_steps}
use Rattle.std.specs.String.{string_bytes}
use Rattle.nms_quote.specs.Roster.{place_in}
use Rattle.nms_lines.specs.Layout.{field}
use Rattle.nms_command.specs.Served.{Reports}
use Rattle.nms_command.specs.declared.ending.Ending.{Ending}
use Rattle.nms_command.specs.declared.ending.Ending.TheVariants as ending
use Rattle.nms_command.proofs.FailedFacts.{report_cut, unread_cut}
use Rattle.nms_command.proofs.serving.serve_report.Goals as goal

pub returns-in-Err-clause-cut : goal.returns-in-Err-clause-cut
returns-in-Err-clause-cut g c =
    let old = g.W.Write.contents c.args.answers.now in
    unread_cut c.in-Err.fault (λ whole ends. (ends ≡ ending.Done) × Reports c.args.setup.now (map string_bytes c.args.words.now) old whole)
    old old c.in-Err.ensures.refused refl

pub returns-in-Ok-report_changes-clause-served : goal.returns-in-Ok-report_changes-clause-served
returns-in-Ok-report_changes-clause-served g c =
    let place : place_in c.args.setup.now.roster.syms (field (map string_bytes c.args.words.now) 1) ≡ Some c.in-Some.sym =
    grind (arith, common_steps) in
    (refl, (_, c.in-Some.sym, place, c.in-Ok-report_changes.ensures.written))

pub returns-in-Err-report_changes-clause-cut : goal.returns-in-Err-report_changes-clause-cut
returns-in-Err-report_changes-clause-cut g c =
    let old = g.W.Write.contents c.args.answers.now in
    let new = g.W.Write.contents c.report_changes.new.writer in
    let place : place_in c.args.setup.now.roster.syms (field (map string_bytes c.args.words.now) 1) ≡ Some c.in-Some.sym =
    grind (arith, common_steps) in
    let shows = λ (whole : Option (List ℕ)) (ends : Ending).
    (ends ≡ ending.Done) × Reports c.args.setup.now (map string_bytes c.args.words.now) old whole in
    report_cut c.in-Err-report_changes.fault shows c.args.setup.now _ old new c.in-Some.sym ending.Done
    (λ whole reports. (refl, (_, c.in-Some.sym, place, reports))) c.in-Err-report_changes.ensures.cut
    c.in-Err-report_changes.ensures.unwritten

-- ---- goals that `grind` closes; the search that is tried before it takes longer

pub report_changes-requires : goal.report_changes-requires
report_changes-requires g c = grind (arith, common_steps)

pub bounds-words-1 : goal.bounds-words-1
bounds-words-1 g c = grind (arith, common_steps)

pub returns-in-Err-clause-served : goal.returns-in-Err-clause-served
returns-in-Err-clause-served g c = grind (arith, common_steps)

pub returns-in_default-find_sym-clause-cut : goal.returns-in_default-find_sym-clause-cut
returns-in_default-find_sym-clause-cut g c = grind (arith, common_steps)

pub bounds-words-0 : goal.bounds-words-0
bounds-words-0 g c = grind (arith, common_steps)

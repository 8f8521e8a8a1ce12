-- `first_record`: a line ends at the first line feed, if there is one.
use Rattle.std.proofs.Common.{◌∙◌, ◌+◌, ◌∷◌, ℕ, List, ap, drop, sym}
use Rattle.std.specs.Str.Lines.{lines}
use Rattle.nms_calls.proofs.LineLemmas.{line_alone, line_found, start_alone, start_found}
use Rattle.nms_calls.proofs.lines_calls.first_record.Goals as goal

pub returns-in-Some-clause-line : goal.returns-in-Some-clause-line
returns-in-Some-clause-line c =
    line_found c.args.text.now c.in-Some.end (sym c.first_feed.ensures ∙ c.in-Some.is)
    ∙ ap (λ (record_is : List ℕ). record_is ∷ lines (drop (c.in-Some.end + 1) c.args.text.now)) (sym c.without_return.ensures)

pub returns-in-Some-clause-bytes : goal.returns-in-Some-clause-bytes
returns-in-Some-clause-bytes c = start_found c.args.text.now c.in-Some.end (sym c.first_feed.ensures ∙ c.in-Some.is)

pub returns-in-None-clause-line : goal.returns-in-None-clause-line
returns-in-None-clause-line c = line_alone c.args.text.now c.requires (sym c.first_feed.ensures ∙ c.in-None.is)

pub returns-in-None-clause-bytes : goal.returns-in-None-clause-bytes
returns-in-None-clause-bytes c = start_alone c.args.text.now (sym c.first_feed.ensures ∙ c.in-None.is)

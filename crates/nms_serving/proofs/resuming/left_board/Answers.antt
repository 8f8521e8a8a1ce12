-- `left_board`, `goes_on`: what the end of a process leaves is cut where it has to be, by the lemmas of `LeftFacts`, and its board is
-- that of the changes before the cut, by `board_of`.
use Rattle.std.proofs.Common.{ℕ, ◌≡◌, ◌∙◌, ◌-◌, List, None, true, sym, ap, arith, length}
use Rattle.nms_quote.specs.Tape.{version}
use Rattle.nms_serving.specs.Resuming.{lengths_text, lines_begun, most_behind}
use Rattle.nms_serving.proofs.LeftFacts.{after_shown, are_listed, few_behind, fits_shown, has_lines, limit_shown, many_shown}
use Rattle.nms_serving.proofs.LeftFacts.{parts_listed, rest_none, rest_some, tape_limit_within, text_shown}
use Rattle.nms_serving.proofs.ResumeFacts.{listed_at}
use Rattle.nms_serving.proofs.resuming.left_board.Goals as goal

pub returns-in_default-clause-goes_on : goal.returns-in_default-clause-goes_on
returns-in_default-clause-goes_on c = λ tape lengths published left.
    let settings = c.args.setup.now in
    let limit = tape_limit_within settings.tape_limit c.tape_limit-limit.result c.tape_limit-limit.ensures.value c.tape_limit-limit.ensures.high in
    let found = c.listed_lengths.ensures.found lengths published left.torn
    (are_listed settings tape lengths published c.args.text.now c.args.listed.now left limit) in
    let nothing : None ≡ listed_at published (length (lengths_text lengths)) = sym c.in_default.is ∙ found in
    absurd (cc)

pub returns-in_default-after_lines-clause-goes_on : goal.returns-in_default-after_lines-clause-goes_on
returns-in_default-after_lines-clause-goes_on c = λ tape lengths published left.
    let settings = c.args.setup.now in
    let limit = tape_limit_within settings.tape_limit c.tape_limit-limit.result c.tape_limit-limit.ensures.value c.tape_limit-limit.ensures.high in
    let found = c.listed_lengths.ensures.found lengths published left.torn
    (are_listed settings tape lengths published c.args.text.now c.args.listed.now left limit) in
    let parts = parts_listed c.listed_lengths.result c.in-Some.lengths published (length (lengths_text lengths)) c.in-Some.is found in
    let lines = has_lines c.roster.result.now settings.roster c.roster.ensures
    (record { behind = c.each_change_is_a_line.ensures.behind; begun = c.each_change_is_a_line.ensures.begun }) in
    let after = after_shown settings tape lengths published c.args.text.now c.args.listed.now left lines in
    absurd (rest_none c.after_lines.result c.in-Some.lengths.length published c.args.text.now left.behind c.after_lines.ensures.rest
    parts.0 after c.in_default-after_lines.is)

pub returns-then-cut-most_behind-clause-goes_on : goal.returns-then-cut-most_behind-clause-goes_on
returns-then-cut-most_behind-clause-goes_on c = λ tape lengths published left.
    let settings = c.args.setup.now in
    let limit = tape_limit_within settings.tape_limit c.tape_limit-limit.result c.tape_limit-limit.ensures.value c.tape_limit-limit.ensures.high in
    let found = c.listed_lengths.ensures.found lengths published left.torn
    (are_listed settings tape lengths published c.args.text.now c.args.listed.now left limit) in
    let parts = parts_listed c.listed_lengths.result c.in-Some.lengths published (length (lengths_text lengths)) c.in-Some.is found in
    let lines = has_lines c.roster.result.now settings.roster c.roster.ensures
    (record { behind = c.each_change_is_a_line.ensures.behind; begun = c.each_change_is_a_line.ensures.begun }) in
    let after = after_shown settings tape lengths published c.args.text.now c.args.listed.now left lines in
    let rest = rest_some c.after_lines.result c.in-Some-after_lines.behind c.in-Some.lengths.length published c.args.text.now left.behind
    c.after_lines.ensures.rest parts.0 after c.in-Some-after_lines.is in
    let cut = c.lines_begun-cut.ensures ∙ ap (lines_begun true) rest in
    let most = c.most_behind.ensures ∙ ap (most_behind settings.roster) parts.0 in
    let few = few_behind settings tape lengths published c.args.text.now c.args.listed.now left lines in
    absurd (omega (arith, cut, most, few, c.if-cut-most_behind.true))

pub returns-in-Err-clause-goes_on : goal.returns-in-Err-clause-goes_on
returns-in-Err-clause-goes_on c = λ tape lengths published left.
    let settings = c.args.setup.now in
    let limit = tape_limit_within settings.tape_limit c.tape_limit-limit.result c.tape_limit-limit.ensures.value c.tape_limit-limit.ensures.high in
    let found = c.listed_lengths.ensures.found lengths published left.torn
    (are_listed settings tape lengths published c.args.text.now c.args.listed.now left limit) in
    let parts = parts_listed c.listed_lengths.result c.in-Some.lengths published (length (lengths_text lengths)) c.in-Some.is found in
    let lines = has_lines c.roster.result.now settings.roster c.roster.ensures
    (record { behind = c.each_change_is_a_line.ensures.behind; begun = c.each_change_is_a_line.ensures.begun }) in
    let after = after_shown settings tape lengths published c.args.text.now c.args.listed.now left lines in
    let rest = rest_some c.after_lines.result c.in-Some-after_lines.behind c.in-Some.lengths.length published c.args.text.now left.behind
    c.after_lines.ensures.rest parts.0 after c.in-Some-after_lines.is in
    let end = length c.args.text.now - length c.in-Some-after_lines.behind.now in
    let text = text_shown settings tape lengths published c.args.text.now c.args.listed.now left end
    (ap (λ (bytes : List ℕ). length c.args.text.now - length bytes) rest) in
    let count = parts.0 ∙ sym (many_shown settings tape lengths published c.args.text.now c.args.listed.now left) in
    let fits = fits_shown settings tape lengths published c.args.text.now c.args.listed.now left in
    let within = limit_shown settings tape lengths published c.args.text.now c.args.listed.now left in
    c.in-Err.ensures.taken (version published tape) fits within text.1 count

pub returns-in-Ok-clause-goes_on : goal.returns-in-Ok-clause-goes_on
returns-in-Ok-clause-goes_on c = λ tape lengths published left.
    let settings = c.args.setup.now in
    let limit = tape_limit_within settings.tape_limit c.tape_limit-limit.result c.tape_limit-limit.ensures.value c.tape_limit-limit.ensures.high in
    let found = c.listed_lengths.ensures.found lengths published left.torn
    (are_listed settings tape lengths published c.args.text.now c.args.listed.now left limit) in
    let parts = parts_listed c.listed_lengths.result c.in-Some.lengths published (length (lengths_text lengths)) c.in-Some.is found in
    let lines = has_lines c.roster.result.now settings.roster c.roster.ensures
    (record { behind = c.each_change_is_a_line.ensures.behind; begun = c.each_change_is_a_line.ensures.begun }) in
    let after = after_shown settings tape lengths published c.args.text.now c.args.listed.now left lines in
    let rest = rest_some c.after_lines.result c.in-Some-after_lines.behind c.in-Some.lengths.length published c.args.text.now left.behind
    c.after_lines.ensures.rest parts.0 after c.in-Some-after_lines.is in
    let end = length c.args.text.now - length c.in-Some-after_lines.behind.now in
    let text = text_shown settings tape lengths published c.args.text.now c.args.listed.now left end
    (ap (λ (bytes : List ℕ). length c.args.text.now - length bytes) rest) in
    let count = parts.0 ∙ sym (many_shown settings tape lengths published c.args.text.now c.args.listed.now left) in
    let fits = fits_shown settings tape lengths published c.args.text.now c.args.listed.now left in
    let within = limit_shown settings tape lengths published c.args.text.now c.args.listed.now left in
    record {
      board = c.in-Ok.ensures.taken (version published tape) fits within text.1 count;
      count = parts.0;
      text = text.0;
      listed = parts.1;
    }

-- `seconds_of`: what `parse` reads of digits, and when it refuses them.
use Rattle.std.proofs.Common.{◌∙◌, Bool, List, ℕ, ap, sym}
use Rattle.std.specs.Char.{is_ascii_digit}
use Rattle.std.specs.List.{list_all}
use Rattle.nms_serve.proofs.SecondLemmas.{read_none, read_some}
use Rattle.nms_serve.proofs.words.command_words.seconds_of.Goals as goal

abbrev are_digits : List ℕ → Bool
are_digits = list_all is_ascii_digit

pub returns-in-Ok : goal.returns-in-Ok
returns-in-Ok c =
    let all = ap are_digits (sym c.as_bytes.ensures.value) ∙ sym c.are_digits.ensures ∙ c.if-not-are_digits.false in
    let read = c.in-Ok.ensures.value.0 in
    c.if_in_a_day.ensures ∙ sym (read_some c.args.value.now c.in-Ok.seconds all read.0 read.1)

pub returns-in-Err : goal.returns-in-Err
returns-in-Err c =
    let all = ap are_digits (sym c.as_bytes.ensures.value) ∙ sym c.are_digits.ensures ∙ c.if-not-are_digits.false in
    sym (read_none c.args.value.now all c.in-Err.ensures.value.0)

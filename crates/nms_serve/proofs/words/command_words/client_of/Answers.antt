-- `client_of`: each way out, by the parts that `split_once` gives.
use Rattle.std.proofs.Common.{◌∙◌, arith, sym, true≢false}
use Rattle.std.proofs.lemmas.Result.{IfOk-weaker}
use Rattle.std.proofs.lemmas.Str.Pattern.{contains_char, split_parts}
use Rattle.nms_serve.proofs.ClientLemmas.{client_with, client_with_more, client_without}
use Rattle.nms_serve.proofs.words.command_words.client_of.Goals as goal

pub returns-in_default : goal.returns-in_default
returns-in_default c =
    let lacks = rw c.in_default.is at (split_parts 44 c.args.value.now c.split_once.result c.split_once.ensures.cases (omega arith)) in
    sym (client_without c.args.value.now lacks)

pub returns-then-contains : goal.returns-then-contains
returns-then-contains c =
    let cut = rw c.in-Some.is at (split_parts 44 c.args.value.now c.split_once.result c.split_once.ensures.cases (omega arith)) in
    let found = contains_char 44 c.in-Some.output.now c.contains.result c.contains.ensures.cases (omega arith) in
    let comma = found.0 c.if-contains.true in
    sym (client_with_more c.args.value.now c.in-Some.input.now c.in-Some.output.now cut.0 cut.1 comma.0 comma.1 comma.2)

pub returns : goal.returns
returns c =
    let cut = rw c.in-Some.is at (split_parts 44 c.args.value.now c.split_once.result c.split_once.ensures.cases (omega arith)) in
    let found = contains_char 44 c.in-Some.output.now c.contains.result c.contains.ensures.cases (omega arith) in
    IfOk-weaker c.client_in.result _ _
    (λ client is. is ∙ sym (client_with c.args.value.now c.in-Some.input.now c.in-Some.output.now cut.0 cut.1
    (λ i within comma. true≢false (sym (found.1 i within comma) ∙ c.if-contains.false))))
    c.client_in.ensures

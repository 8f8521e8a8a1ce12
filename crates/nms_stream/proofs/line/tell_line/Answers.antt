-- `tell_line`: all that it promises, by `line_text`.
use Rattle.std.proofs.Common.{◌≡◌, ◌++◌, ap, drop, take, ◌∙◌, ◌-◌, ◌∷◌, [], arith, List, ℕ, Option, rules}
use Rattle.std.proofs.lemmas.List.{length-drop, take_all}
use Rattle.std.proofs.lemmas.Result.{on_ok_weaker}
use Rattle.std.specs.Fmt.{decimal}
use Rattle.std.specs.Prelude.{OnOk, unwrap_or}
use Rattle.nms_lines.specs.Text.{later_fields}
use Rattle.nms_text.specs.Answers.{market_word}
use Rattle.nms_stream.proofs.LineFacts.{line_text}
use Rattle.nms_stream.proofs.line.tell_line.Goals as goal

pub returns : goal.returns
returns c =
    let told : List ℕ = drop c.head_before-start.result c.head_before-start.new.buf in
    let head : List ℕ = decimal c.args.number ++ later_fields (c.sym_name.result.now ∷ c.word_of_market-market.result.now ∷ []) in
    let whole : take (144 - c.head_before-start.result) told ≡ told =
    take_all (144 - c.head_before-start.result) told
    (omega (
      arith,
      length-drop c.head_before-start.result c.head_before-start.new.buf,
      c.head_before-start.auto.buf,
      c.rows_before-rows.auto.buf,
    )) in
    let appended : OnOk c.extend_from_slice.result (c.extend_from_slice.new.self.items ≡ c.args.out.now.items ++ told) =
    search (rules, whole) in
    on_ok_weaker c.extend_from_slice.result
    (λ written. written ∙ ap (λ (t : List ℕ). c.args.out.now.items ++ t)
    (line_text c.args.roster.now c.args.number c.args.sym c.args.quoted.now told c.sym_name.result.now
    c.word_of_market-market.result.now
    (c.head_before-start.ensures.written ∙ ap (λ (t : List ℕ). head ++ t) c.rows_before-rows.ensures.written)
    (ap (λ (o : Option (List ℕ)). unwrap_or o []) c.sym_name.ensures.name)
    (c.word_of_market-market.ensures.word ∙ ap market_word c.market_between.ensures)))
    appended

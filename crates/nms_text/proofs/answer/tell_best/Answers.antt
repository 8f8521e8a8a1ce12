-- `tell_best`: all that it promises, by `best_written`.
use Rattle.std.proofs.Common.{◌≡◌, ◌++◌, ap, sym, drop, take, ◌∙◌, ◌-◌, arith, List, ℕ, Option, [], rules}
use Rattle.std.proofs.lemmas.Grind.{common_steps}
use Rattle.std.proofs.lemmas.List.{length-drop, take_all}
use Rattle.std.proofs.lemmas.Result.{on_ok_weaker}
use Rattle.std.specs.Prelude.{OnOk, unwrap_or, option_map, slice_get}
use Rattle.nms_text.specs.Answers.{look_text, market_word}
use Rattle.nms_text.proofs.Texts.{best_written}
use Rattle.nms_text.proofs.answer.tell_best.Goals as goal

pub returns : goal.returns
returns c seen is_sym is_version =
    let look : List ℕ = look_text c.args.desk c.sym_name.result.now c.args.version c.word_of_market-market.result.now in
    let told : List ℕ = drop c.look_before-start.result c.look_before-start.new.buf in
    let whole : take (224 - c.look_before-start.result) told ≡ told =
    take_all (224 - c.look_before-start.result) told
    (omega (
      arith,
      length-drop c.look_before-start.result c.look_before-start.new.buf,
      c.look_before-start.auto.buf,
      c.rows_before-rows.auto.buf,
    )) in
    let appended : OnOk c.extend_from_slice.result (c.extend_from_slice.new.self.items ≡ c.args.out.now.items ++ told) =
    search (rules, whole) in
    on_ok_weaker c.extend_from_slice.result
    (λ written. written ∙ ap (λ (t : List ℕ). c.args.out.now.items ++ t)
    (best_written c.args.roster.now c.args.desk seen c.args.bid.now c.args.offer.now told c.sym_name.result.now
    c.word_of_market-market.result.now c.args.version
    (c.look_before-start.ensures.written ∙ ap (λ (t : List ℕ). look ++ t) c.rows_before-rows.ensures.written)
    (ap (λ (o : Option (List ℕ)). unwrap_or o [])
    (ap (λ (n : ℕ). option_map (λ (entry : List ℕ × ℕ). entry.0) (slice_get c.args.roster.now.syms n)) is_sym ∙ c.sym_name.ensures.name))
    (sym is_version)
    (c.word_of_market-market.ensures.word ∙ ap market_word c.market_between.ensures)))
    appended

-- ---- goals that `grind` closes; the search that is tried before it takes longer

pub sym_name-requires : goal.sym_name-requires
sym_name-requires c = grind (arith, common_steps)

pub look_before-start-requires-clause-sym : goal.look_before-start-requires-clause-sym
look_before-start-requires-clause-sym c = grind (arith, common_steps)

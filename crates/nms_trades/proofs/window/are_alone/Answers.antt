-- `are_alone`: one execution more, by `All-more`.
use Rattle.std.proofs.Common.{◌≡◌, ◌∙◌, All, arith, subst, sym, take, true}
use Rattle.std.proofs.lemmas.List.{take_all}
use Rattle.std.proofs.lemmas.List.Elements.{All-more}
use Rattle.nms_trades.specs.Found.{is_alone}
use Rattle.nms_trades.specs.declared.execution.Execution.{Execution}
use Rattle.nms_trades.proofs.window.are_alone.Goals as goal

pub loop-execution-preserved : goal.loop-execution-preserved
loop-execution-preserved c =
    let alone : is_alone c.execution-item.result ≡ true = sym c.is_alone.ensures ∙ c.if-not-is_alone.false in
    All-more (λ (e : Execution). is_alone e ≡ true) c.args.executions.now c.loop-execution.execution-index c.execution-item.result
    c.loop-execution-test.true c.loop-execution.invariant
    (subst (λ (e : Execution). is_alone e ≡ true) c.execution-item.is alone)

pub returns : goal.returns
returns c = λ _.
    let all : take c.loop-execution.execution-index c.args.executions.now ≡ c.args.executions.now =
    take_all c.loop-execution.execution-index c.args.executions.now (omega (arith, c.loop-execution-test.false)) in
    subst (All (λ (e : Execution). is_alone e ≡ true)) all c.loop-execution.invariant

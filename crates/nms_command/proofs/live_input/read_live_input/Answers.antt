-- `read_live_input`: the arguments name the right number of files, and why a file was not read is why the input was not.
use Rattle.std.proofs.Common.{arith, ◌≡◌, ◌+◌, length}
use Rattle.std.proofs.lemmas.Grind.{common_steps}
use Rattle.std.proofs.lemmas.Result.{IfOk-weaker}
use Rattle.nms_command.proofs.FailedFacts.{unread_given}
use Rattle.nms_command.proofs.live_input.read_live_input.Goals as goal

pub returns-in-Err-clause-counted : goal.returns-in-Err-clause-counted
returns-in-Err-clause-counted g c other =
    absurd (other (omega (arith, c.in-Some.ensures.cases.1, c.if-feeds-from.false, c.from.ensures, c.feeds.ensures.value)))

pub returns-in-Err-clause-refused : goal.returns-in-Err-clause-refused
returns-in-Err-clause-refused g c =
    unread_given c.args.setup.now (length c.args.words.now) c.in-Err.fault c.in-Err.ensures.refused

pub returns-in-Err-read_feeds-clause-counted : goal.returns-in-Err-read_feeds-clause-counted
returns-in-Err-read_feeds-clause-counted g c other =
    absurd (other (omega (arith, c.in-Some.ensures.cases.1, c.if-feeds-from.false, c.from.ensures, c.feeds.ensures.value)))

pub returns-in-Err-read_feeds-clause-refused : goal.returns-in-Err-read_feeds-clause-refused
returns-in-Err-read_feeds-clause-refused g c = c.in-Err-read_feeds.ensures.refused c.args.setup.now (length c.args.words.now)

pub returns-clause-files : goal.returns-clause-files
returns-clause-files g c =
    let as_many : length c.args.words.now ≡ 1 + c.args.setup.now.feeds =
    omega (arith, c.in-Some.ensures.cases.1, c.if-feeds-from.false, c.from.ensures, c.feeds.ensures.value) in
    IfOk-weaker c.with_orders.result _ _ (λ _ _. as_many) c.with_orders.ensures.orders

pub returns-clause-counted : goal.returns-clause-counted
returns-clause-counted g c other =
    absurd (other (omega (arith, c.in-Some.ensures.cases.1, c.if-feeds-from.false, c.from.ensures, c.feeds.ensures.value)))

pub returns-clause-refused : goal.returns-clause-refused
returns-clause-refused g c = c.with_orders.ensures.refused (length c.args.words.now)

-- ---- goals that `grind` closes; the search that is tried before it takes longer

pub returns-clause-orders : goal.returns-clause-orders
returns-clause-orders g c = grind (arith, common_steps)

pub returns-clause-desks : goal.returns-clause-desks
returns-clause-desks g c = grind (arith, common_steps)

pub returns-clause-feeds : goal.returns-clause-feeds
returns-clause-feeds g c = grind (arith, common_steps)

pub returns-clause-within : goal.returns-clause-within
returns-clause-within g c = grind (arith, common_steps)

pub returns-in_default-clause-refused : goal.returns-in_default-clause-refused
returns-in_default-clause-refused g c = grind (arith, common_steps)

pub returns-then-feeds-from-clause-refused : goal.returns-then-feeds-from-clause-refused
returns-then-feeds-from-clause-refused g c = grind (arith, common_steps)

-- `Money::reads_what_it_prints`: all that it promises, by `money_reading-money_text`.
use Rattle.nms_units.proofs.MoneyLemmas.{money_reading-money_text}
use Rattle.nms_units.proofs.money.Money.reads_what_it_prints.Goals as goal

pub returns : goal.returns
returns c = money_reading-money_text

-- `worked_examples`: all that it promises.
use Rattle.std.proofs.Common.{refl}
use Rattle.nms_import_trades.proofs.laws.worked_examples.Goals as goal

pub returns : goal.returns
returns c = record {
  trades_are_said = refl;
  quotes_are_not_trades = refl;
  without_a_kind_they_are_quotes = refl;
  nine_columns_are_needed = refl;
  the_name_stands_last = refl;
  the_name_stands_first = refl;
  another_date = refl;
  the_same_date = refl;
  no_date = refl;
  the_first_day_stays = refl;
  no_day_without_an_execution = refl;
}

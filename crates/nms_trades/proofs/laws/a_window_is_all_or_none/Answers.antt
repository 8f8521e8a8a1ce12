-- `a_window_is_all_or_none`: by `all_through` and `none_through`.
use Rattle.nms_trades.proofs.StandingFacts.{all_through, none_through}
use Rattle.nms_trades.proofs.laws.a_window_is_all_or_none.Goals as goal

pub returns : goal.returns
returns c = record {
  all = all_through;
  none = none_through;
}

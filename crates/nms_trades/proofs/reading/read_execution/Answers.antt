-- `read_execution`: what it says is known to the roster and the changes, by what each of its readers promises.
use Rattle.nms_trades.proofs.reading.read_execution.Goals as goal

pub returns-clause-on : goal.returns-clause-on
returns-clause-on c = record {
  sym = c.in-Some.ensures.within;
  part = c.in_ok-part.ensures.there;
  version = c.in_ok-when.ensures.version;
  first = c.in_ok-when.ensures.first;
  last = c.in_ok-when.ensures.last;
  second_before = c.in_ok-when.ensures.second_before;
  price = c.in-Some-millionths_in.ensures.high;
}

pub returns-clause-window : goal.returns-clause-window
returns-clause-window c = c.in_ok-when.ensures.window

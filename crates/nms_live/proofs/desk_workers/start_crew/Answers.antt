-- `start_crew`: what it calls and its returns, each from the clause of `start_desks`.
use Rattle.std.proofs.Common.{◌∙◌, rules}
use Rattle.nms_live.proofs.desk_workers.start_crew.Goals as goal

pub start_desks-requires-clause-all : goal.start_desks-requires-clause-all
start_desks-requires-clause-all g c = λ loans lives. c.requires.all

pub start_desks-requires-clause-sizes : goal.start_desks-requires-clause-sizes
start_desks-requires-clause-sizes g c = λ loans lives. c.requires.sizes

pub returns-in-Ok : goal.returns-in-Ok
returns-in-Ok g c = record {
  all = c.in-Ok.ensures.all;
  started = c.in-Ok.ensures.started;
  empty = c.reserve.ensures.items ∙ c.new-back.ensures.items;
  room = search rules;
  fault = tt;
}

pub returns-in-Err : goal.returns-in-Err
returns-in-Err g c = record { all = tt; started = tt; empty = tt; room = tt; fault = c.in-Err.ensures.fault }

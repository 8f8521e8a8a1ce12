-- `append_all`: what holds in each turn of its loop.
use Rattle.std.proofs.Common.{◌≡◌, ◌++◌, take}
use Rattle.nms_serving.proofs.keeper.Keeper.append_all.Given as goal

-- the changes so far were appended, and nothing was written
abbrev pub invariant-loop-change : goal.invariant-loop-change
invariant-loop-change g l = record {
  added : l.self.publisher ≡ record l.fn.self.publisher { pending = l.fn.self.publisher.pending ++ take l.change-index l.first };
  tape : l.self.tape ≡ l.fn.self.tape;
  lengths : l.self.lengths ≡ l.fn.self.lengths;
  roster : l.self.roster ≡ l.fn.self.roster;
  published : l.self.published ≡ l.fn.self.published;
}

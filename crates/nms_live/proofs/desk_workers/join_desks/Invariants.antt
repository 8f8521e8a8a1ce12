-- `join_desks`: what holds in each turn of its loop: `parted`, `all`, `room` and `kept`.
use Rattle.std.proofs.Common.{ℕ, ◌≡◌, ◌≤◌, ◌<◌, ◌++◌, length}
use Rattle.std.specs.Prelude.{slice_index_or}
use Rattle.std.specs.Vec.{vec_len, vec_capacity}
use Rattle.std.specs.Vec.Iter.{into_iter_items}
use Rattle.std.specs.declared.thread.PromisedHandle.{PromisedHandle}
use Rattle.nms_live.specs.Crew.{KeepsJob}
use Rattle.nms_live.specs.declared.desk_work.DeskJob.{DeskJob}
use Rattle.nms_live.specs.declared.desk_work.Desked.{Desked}
use Rattle.nms_live.proofs.desk_workers.join_desks.Given as goal

-- the workers so far are back, each with what its promise says
abbrev pub invariant-loop-handle : goal.invariant-loop-handle
invariant-loop-handle g l = record {
  parted : l.yielded ++ into_iter_items l.handle-iterator ≡ l.fn.handles.items;
  all : length l.back.items ≡ length l.yielded;
  room : vec_len l.fn.handles ≤ vec_capacity l.back;
  kept : (k : ℕ) (d : Desked) → k < length l.back.items → (h : PromisedHandle Desked DeskJob)
      → KeepsJob (slice_index_or l.fn.handles.items k h).promise (slice_index_or l.back.items k d);
}

-- The parts of a run, and the bytes of a guarded stream. This product's own rule.
use Rattle.std.specs.Prelude.{ℕ, ◌≡◌, ◌⊎◌, List, Option, Result, Ok}
use Rattle.std.specs.Io.KnownBytes.{ReadConsumes}
use Rattle.nms_serving.specs.declared.door.Door.{Door}
use Rattle.nms_serving.specs.declared.guarded.Guarded.{Guarded}
use Rattle.nms_serving.specs.declared.on_disk.OnDisk.{OnDisk}
use Rattle.nms_serving.specs.declared.timed.Timed.{Timed}

-- the path of a door
abbrev pub path_of : Door → List ℕ
path_of door = door.path.now

-- the stream that is guarded
abbrev pub stream_of : {F : Type 0} → Guarded F → F
stream_of guarded = guarded.stream

-- the tape's file, next to which there may be times
abbrev pub tape_of_timed : {F : Type 0} → Timed F → F
tape_of_timed timed = timed.tape

-- the file that waits for the disk
abbrev pub file_of : {F : Type 0} → OnDisk F → F
file_of disk = disk.file

-- a read gave what the stream gave, or the end
abbrev pub GivesOrEnds : {E : Type 0} → Option (List ℕ) → Option (List ℕ) → Result ℕ E → List ℕ → Type 0
GivesOrEnds old new result buf = (result ≡ Ok 0) ⊎ ReadConsumes old new result buf

-- `written_as`: no name so far is for the key, so those that are left decide.
use Rattle.std.proofs.Common.{◌≡◌, drop, map}
use Rattle.nms_import.specs.Drafts.{name_of, written_as}
use Rattle.nms_import.proofs.draft.written_as.Given as goal

abbrev pub invariant-loop-it : goal.invariant-loop-it
invariant-loop-it l =
    written_as (map name_of l.meant) l.table l.key ≡ written_as (map name_of (drop l.it-index l.meant)) l.table l.key

-- `read_names`: what the names so far say.
use Rattle.std.proofs.Common.{◌≡◌, length, map}
use Rattle.std.specs.Prelude.{Some}
use Rattle.nms_quote.specs.Members.{nobody}
use Rattle.nms_lines.specs.Named.{AreBelow, with_named}
use Rattle.nms_lines.proofs.named.read_names.Given as goal

abbrev pub invariant-loop-name : goal.invariant-loop-name
invariant-loop-name l = record {
  can_next : (goal.iterator-loop-name).can_next l.name-iterator;
  is_finite : (goal.iterator-loop-name).is_finite l.name-iterator;
  below : AreBelow (length l.roster.parts) l.set;
  read : with_named l.roster (map (λ x. x.now) l.yielded) nobody ≡ Some l.set;
}

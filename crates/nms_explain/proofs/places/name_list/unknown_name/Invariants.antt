-- `unknown_name`: each name so far is on the roster, and how many there were.
use Rattle.std.proofs.Common.{◌≡◌, ◌≤◌, All, length, map}
use Rattle.nms_explain.specs.Names.{IsListed}
use Rattle.nms_explain.proofs.places.name_list.unknown_name.Given as goal

abbrev pub invariant-loop-name : goal.invariant-loop-name
invariant-loop-name l = record {
  can_next : (goal.iterator-loop-name).can_next l.name-iterator;
  is_finite : (goal.iterator-loop-name).is_finite l.name-iterator;
  most : l.most ≡ length l.text;
  count : length l.yielded ≤ length l.text → l.nth ≡ length l.yielded;
  listed : All (IsListed l.roster) (map (λ x. x.now) l.yielded);
}

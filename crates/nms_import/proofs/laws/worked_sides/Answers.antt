-- `worked_sides`: each example by computation.
use Rattle.std.proofs.Common.{refl}
use Rattle.nms_import.proofs.laws.worked_sides.Goals as goal

pub returns : goal.returns
returns c = record {
  the_first_side = refl;
  the_other_side_is_kept = refl;
  the_own_side_is_replaced = refl;
  a_side_ends = refl;
  another_venue = refl;
  another_symbol = refl;
  one_manual_side_is_refused = refl;
  one_manual_side_makes_both = refl;
  one_manual_side_makes_none = refl;
  both_are_manual = refl;
  the_state_of_what_is_left = refl;
  a_halt_is_of_both = refl;
  a_halt_without_a_price = refl;
  after_a_halt_one_side = refl;
  a_refused_row_withdraws = refl;
  or_keeps = refl;
}

-- `worked_faults`: each example by computation.
use Rattle.std.proofs.Common.{refl}
use Rattle.nms_import.specs.Keys.{all_keys}
use Rattle.nms_import.proofs.laws.worked_faults.Goals as goal

pub returns : goal.returns
unfolding all_keys
returns c = record {
  a_mapping_without_fault = refl;
  a_misspelt_key = refl;
  the_key_that_was_meant = refl;
  ask_is_offer = refl;
  ask_and_offer = refl;
  a_letter_in_two_lists = refl;
  sides_are_said = refl;
  rows_of_one_side = refl;
  a_column_of_both_sides = refl;
  a_word_for_both_sides = refl;
}

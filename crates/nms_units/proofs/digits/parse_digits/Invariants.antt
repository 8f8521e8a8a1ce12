-- `parse_digits`: what holds in each turn of its loop: `digits`, `value` and `small`.
use Rattle.std.proofs.Common.{◌≡◌, ◌<◌, ◌^◌, true, take}
use Rattle.std.specs.Char.{is_ascii_digit}
use Rattle.std.specs.List.{list_all}
use Rattle.std.specs.Str.Parse.{digits_value}
use Rattle.nms_units.proofs.digits.parse_digits.Given as goal

-- the text so far is digits, and the number is what they write
abbrev pub invariant-loop-digit : goal.invariant-loop-digit
invariant-loop-digit l = record {
  digits : list_all is_ascii_digit (take l.digit-index l.text) ≡ true;
  value : l.number ≡ digits_value 10 (take l.digit-index l.text);
  small : l.number < 10 ^ l.digit-index;
}

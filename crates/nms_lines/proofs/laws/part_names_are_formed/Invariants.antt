-- `part_names_are_formed`: what holds in each turn of its loop.
use Rattle.std.proofs.Common.{◌≡◌, ◌<◌, ℕ, true}
use Rattle.nms_quote.specs.Roster.{is_part_name, part_text}
use Rattle.nms_lines.proofs.laws.part_names_are_formed.Given as goal

abbrev pub invariant-loop-place : goal.invariant-loop-place
invariant-loop-place l = (part : ℕ) → part < l.place → is_part_name (part_text l.roster part) ≡ true

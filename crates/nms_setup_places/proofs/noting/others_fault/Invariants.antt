-- `others_fault`: no key so far is one that is not allowed there, so those that are left decide.
use Rattle.std.proofs.Common.{◌≡◌, not, string_bytes}
use Rattle.std.specs.List.{list_any}
use Rattle.nms_fees.specs.Places.{keys_in}
use Rattle.toml.specs.View.{table_view}
use Rattle.nms_setup_places.specs.Tables.{is_key_of}
use Rattle.nms_setup_places.proofs.noting.others_fault.Given as goal

abbrev pub invariant-loop-key : goal.invariant-loop-key
invariant-loop-key l = list_any (λ key. not (is_key_of l.table key)) (keys_in (table_view l.members)) ≡ list_any
    (λ key. not (is_key_of l.table (string_bytes key))) l.key-iterator

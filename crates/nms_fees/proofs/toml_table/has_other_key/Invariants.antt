-- `has_other_key`: no key so far is another one.
use Rattle.std.proofs.Common.{◌≡◌, not, string_bytes}
use Rattle.std.specs.List.{list_any}
use Rattle.nms_fees.specs.Places.{is_known, keys_in}
use Rattle.toml.specs.View.{table_view}
use Rattle.nms_fees.proofs.toml_table.has_other_key.Given as goal

-- no key so far is unknown, so those that are left decide
abbrev pub invariant-loop-key : goal.invariant-loop-key
invariant-loop-key l = list_any (λ key. not (is_known l.level key)) (keys_in (table_view l.table)) ≡ list_any
    (λ key. not (is_known l.level (string_bytes key))) l.key-iterator

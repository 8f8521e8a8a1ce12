-- `symbol_names_are_formed`: what holds in each turn of its loop.
use Rattle.std.proofs.Common.{◌≡◌, ◌<◌, ℕ, true}
use Rattle.nms_quote.specs.Roster.{is_symbol_name, symbol_text}
use Rattle.nms_lines.proofs.laws.symbol_names_are_formed.Given as goal

abbrev pub invariant-loop-place : goal.invariant-loop-place
invariant-loop-place l = (sym : ℕ) → sym < l.place → is_symbol_name (symbol_text l.roster sym) ≡ true

-- `clients_in`: what holds in each turn of its loop.
use Rattle.std.proofs.Common.{◌≡◌, ◌++◌, map, drop, option_map}
use Rattle.nms_serve.specs.CommandLine.{shown_client}
use Rattle.nms_serve.specs.Values.{clients_of}
use Rattle.nms_serve.proofs.words.command_words.clients_in.Given as goal

-- the clients so far are before those of the values that are left
abbrev pub invariant-loop-value : goal.invariant-loop-value
invariant-loop-value l = clients_of (map (λ value. value.now) l.values)
    ≡ option_map (λ rest. map shown_client l.clients.items ++ rest) (clients_of (map (λ value. value.now) (drop l.value-index l.values)))

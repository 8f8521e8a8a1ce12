-- `has_input_twice`: what holds in each turn of its loop.
use Rattle.std.proofs.Common.{◌≡◌, length}
use Rattle.nms_serve.specs.CommandLine.{shown_client}
use Rattle.nms_serve.specs.Values.{has_twice, is_same_input}
use Rattle.nms_serve.proofs.words.command_words.has_input_twice.Given as goal

-- no client so far has another after it with its input
abbrev pub invariant-loop-client : goal.invariant-loop-client
invariant-loop-client l = has_twice (λ one other. is_same_input (shown_client one) (shown_client other)) l.fn.clients
    ≡ has_twice (λ one other. is_same_input (shown_client one) (shown_client other)) l.rest

abbrev pub decreases-loop-client : goal.decreases-loop-client
decreases-loop-client l = length l.rest

-- `clients_in`: its fault and the turns of its loop, by the value at hand.
use Rattle.std.proofs.Common.{◌∙◌, option_map, ap, sym}
use Rattle.nms_serve.specs.CommandLine.{shown_client}
use Rattle.nms_serve.proofs.ClientLemmas.{none_read, one_read}
use Rattle.nms_serve.proofs.words.command_words.clients_in.Goals as goal

pub returns-in_default-clause-refused : goal.returns-in_default-clause-refused
returns-in_default-clause-refused c =
    none_read c.args.values.now c.loop-value.value-index _ c.loop-value.clients.items c.loop-value-test.true c.loop-value.invariant
    (sym (ap (option_map shown_client) c.in_default.is) ∙ c.in_ok-client.ensures)

pub loop-value-preserved : goal.loop-value-preserved
loop-value-preserved c =
    one_read c.args.values.now c.loop-value.value-index _ c.loop-value.clients.items c.add.new.items.items c.in-Some.client
    c.loop-value-test.true c.loop-value.invariant (sym (ap (option_map shown_client) c.in-Some.is) ∙ c.in_ok-client.ensures)
    c.in_ok-add.ensures

-- `others_fault`: its result, from the keys of the table, by a lemma that `nms_fees` offers.
use Rattle.std.proofs.Common.{not}
use Rattle.nms_fees.proofs.Offered.{any_key-view}
use Rattle.nms_setup_places.specs.Tables.{is_key_of}
use Rattle.nms_setup_places.proofs.noting.others_fault.Goals as goal

pub loop-key-init : goal.loop-key-init
loop-key-init c =
    let all_keys = any_key-view (λ key. not (is_key_of c.args.table key)) c.args.members.now.entries in
    cc

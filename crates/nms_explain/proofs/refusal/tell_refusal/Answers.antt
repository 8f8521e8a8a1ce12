-- `tell_refusal`: the words round what was found are printable.
use Rattle.nms_explain.proofs.refusal.tell_refusal.Goals as goal

pub found-requires : goal.found-requires
found-requires c = record {
  before = c.words_round.ensures.before;
  after = c.words_round.ensures.after;
  found = c.requires.found;
}

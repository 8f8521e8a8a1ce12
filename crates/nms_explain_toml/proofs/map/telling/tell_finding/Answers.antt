-- `tell_finding`: the code and the sentence are printable, and so are the words of what was found.
use Rattle.nms_show.proofs.Offered.{no_part_added}
use Rattle.nms_explain_toml.proofs.map.telling.tell_finding.Goals as goal

pub returns-in_default : goal.returns-in_default
returns-in_default g c = record { safe = no_part_added (g.W.Write.contents c.args.answers.now) }

pub tell_refusal-requires : goal.tell_refusal-requires
tell_refusal-requires g c = record {
  code = c.code.ensures.plain;
  sentence = c.sentence_of.ensures;
  found = c.found_at.ensures;
}

-- `a_refused_line_is_one_refused_record`: by `refused_alone`.
use Rattle.std.proofs.Common.{refl}
use Rattle.nms_feeds.proofs.LineLemmas.{refused_alone}
use Rattle.nms_feeds.proofs.laws.a_refused_line_is_one_refused_record.Goals as goal

pub returns : goal.returns
returns c = (refused_alone, λ roster feed. refl)

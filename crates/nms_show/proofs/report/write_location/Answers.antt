-- `write_location`: the file's name is shown by its bytes, and the code is plain.
use Rattle.std.proofs.Common.{refl}
use Rattle.nms_show.proofs.report.write_location.Goals as goal

pub write_plain_items-requires : goal.write_plain_items-requires
write_plain_items-requires g c = rw c.requires.code refl

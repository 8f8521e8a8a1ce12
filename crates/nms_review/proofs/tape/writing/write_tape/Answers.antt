-- `write_tape`: clause `cut`: the text that was begun is that of the script's tape.
use Rattle.std.proofs.Common.{◌≡◌}
use Rattle.std.specs.Io.KnownBytes.{append_known}
use Rattle.nms_lines.proofs.Offered.{appended}
use Rattle.nms_change_text.specs.ChangeText.{changes_text}
use Rattle.nms_review.proofs.tape.writing.write_tape.Goals as goal

pub returns-in-Ok-clause-cut : goal.returns-in-Ok-clause-cut
returns-in-Ok-clause-cut g c = λ is.
    let old = g.W.Write.contents c.args.out.now in
    let text = changes_text c.args.setup.now.roster c.in-Ok.tape.items in
    let begun = rw is at c.write_changes.ensures.part in
    record {
      text = text;
      whole = append_known old text;
      leaves = (c.in-Ok.tape.items, c.in-Ok.ensures.taken, appended old text);
      meant = appended old text;
      cut = rw (c.roster.ensures, c.as_slice.ensures.value) at begun;
    }

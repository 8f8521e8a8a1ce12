-- `push_names`: one name more by `written_more` if the set has the place, none by `members_out` if it has not.
use Rattle.std.proofs.Common.{rules, ◌≡◌, ◌++◌, ◌+◌, true, false, sym}
use Rattle.std.proofs.lemmas.List.{append-nil}
use Rattle.nms_quote.specs.Members.{has_part}
use Rattle.nms_quote.specs.Roster.{part_text}
use Rattle.nms_lines.specs.Named.{members_below}
use Rattle.nms_lines.proofs.NamedFacts.{before_more, members_out, written_more}
use Rattle.nms_lines.proofs.plan_writing.push_names.Goals.{then-has+in_ok-extend_from_slice+in_ok-extend_from_slice-2, else-has}
use Rattle.nms_lines.proofs.plan_writing.push_names.Goals as goal

pub loop-place-init : goal.loop-place-init
unfolding members_below
loop-place-init c = record { written = sym (append-nil c.args.out.now.items); next = search rules }

pub loop-place-preserved : goal.loop-place-preserved
loop-place-preserved c = elim c.if-has.branch [
  | then-has+in_ok-extend_from_slice+in_ok-extend_from_slice-2 w ↦
      let is : has_part c.args.set c.loop-place.place ≡ true = search rules in
      let first : w.extend_from_slice.new.self.items ≡ c.loop-place.out.items ++ c.loop-place.between.now = search rules in
      let last : w.extend_from_slice-then-has.new.self.items ≡ w.extend_from_slice.new.self.items
      ++ part_text c.args.roster.now c.loop-place.place = search rules in
      record {
        written = rw w.out-is (written_more c.args.roster.now c.loop-place.place c.args.set c.args.out.now.items c.loop-place.out.items
            c.loop-place.between.now w.extend_from_slice.new.self.items
            w.extend_from_slice-then-has.new.self.items c.loop-place.invariant.written c.loop-place.invariant.next first last is);
        next = rw w.between-is (sym (before_more c.loop-place.place c.args.set is));
      }
  | else-has w ↦
      let not : has_part c.args.set c.loop-place.place ≡ false = search rules in
      let same : members_below (c.loop-place.place + 1) c.args.set ≡ members_below c.loop-place.place c.args.set =
      members_out c.loop-place.place c.args.set not in
      record {
        written = rw (w.out-is, same) c.loop-place.invariant.written;
        next = rw (w.between-is, same) c.loop-place.invariant.next;
      }
]

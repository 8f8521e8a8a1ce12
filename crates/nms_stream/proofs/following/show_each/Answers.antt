-- `show_each`: the turns of its loop and clause `shows`, by `shows_more`, `shows_last`, `one_told` and `texts_more`.
use Rattle.std.proofs.Common.{◌≡◌, ◌<◌, ◌++◌, ℕ, List, length, ap, subst, ◌∙◌, arith, slice_set}
use Rattle.std.proofs.lemmas.Grind.{common_steps}
use Rattle.std.proofs.lemmas.List.{length-map, length-set}
use Rattle.nms_quote.specs.Roster.{sizes_of}
use Rattle.nms_board.specs.Cells.{Board}
use Rattle.nms_board.specs.Shown.{seen_on}
use Rattle.nms_lines.specs.Text.{text_of}
use Rattle.nms_stream.specs.Quoted.{quoted_at, quoted_in}
use Rattle.nms_stream.specs.declared.quoted.Quoted.{Quoted}
use Rattle.nms_stream.proofs.FollowFacts.{each_place, shows_last, turn_shown, turn_told}
use Rattle.nms_stream.proofs.following.show_each.Goals as goal

pub loop-place-preserved : goal.loop-place-preserved
loop-place-preserved c =
    let place : c.unwrap.result ≡ c.loop-place.place = grind (arith, common_steps) in
    let had = c.loop-place.invariant in
    let roster = c.args.roster.now in
    let sizes = sizes_of roster in
    let board : c.loop-place.follower.board ≡ c.args.follower.now.board = had.board in
    let below : c.loop-place.place < length sizes.lots =
    omega (arith, c.loop-place-test.true, c.syms-place-end.ensures.count, length-map roster.syms (λ entry. entry.1)) in
    let set : c.show.new.follower.shown.items
    ≡ slice_set c.loop-place.follower.shown.items c.loop-place.place (quoted_in (seen_on c.loop-place.follower.board c.loop-place.place)) =
    c.show.ensures.shown ∙ ap (λ (k : ℕ). slice_set c.loop-place.follower.shown.items k (quoted_in (seen_on c.loop-place.follower.board k)))
    place in
    record {
      board = c.show.ensures.board ∙ board;
      of = record {
        same = ap (λ (b : Board). b.sizes) c.show.ensures.board ∙ had.of.same;
        places = ap (λ (qs : List Quoted). length qs) set
            ∙ length-set c.loop-place.follower.shown.items c.loop-place.place _ ∙ had.of.places;
      };
      shows = λ before now stands shows.
          turn_shown c.loop-place.follower.board before now sizes c.loop-place.place c.loop-place.follower.shown.items
          c.show.new.follower.shown.items (rw board stands) had.of.same below (had.shows before now stands shows) set;
      told = λ before now stands shows.
          turn_told c.loop-place.follower.board roster before now c.loop-place.place c.args.out.now.items c.loop-place.out.items
          c.show.new.out.items (rw board stands) had.of.same (had.told before now stands shows)
          (subst (λ (k : ℕ). c.show.new.out.items ≡ c.loop-place.out.items
          ++ text_of (Rattle.nms_stream.specs.Stream.line_of roster c.loop-place.follower.board.applied k
          (quoted_at sizes before c.loop-place.place) (quoted_in (seen_on c.loop-place.follower.board k)))) place
          (c.in_ok-show.ensures.told (quoted_at sizes before c.loop-place.place)
          (rw place (each_place sizes before now c.loop-place.place c.loop-place.follower.shown.items below
          (had.shows before now stands shows)))));
    }

pub returns-clause-shows : goal.returns-clause-shows
returns-clause-shows c before now stands shows =
    shows_last (sizes_of c.args.roster.now) before now c.loop-place.place c.loop-place.follower.shown.items
    (omega (arith, c.loop-place-test.false, c.syms-place-end.ensures.count, length-map c.args.roster.now.syms (λ entry. entry.1)))
    (c.loop-place.invariant.shows before now stands shows)

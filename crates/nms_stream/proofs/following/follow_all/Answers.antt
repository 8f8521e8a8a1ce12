-- `follow_all`: clauses `follows` and `told`, by `all_shown`, `lone_line`, `one_told`, `stays_beside` and `within`.
use Rattle.std.proofs.Common.{◌<◌, ◌++◌, ◌∷◌, [], List, length, ap, sym, ◌∙◌, arith}
use Rattle.std.proofs.lemmas.List.{length-map}
use Rattle.std.proofs.lemmas.Result.{on_ok_weaker}
use Rattle.nms_quote.specs.Roster.{sizes_of}
use Rattle.nms_board.specs.Cells.{Board}
use Rattle.nms_lines.specs.Layout.{Record}
use Rattle.nms_lines.specs.Text.{text_of}
use Rattle.nms_stream.specs.Quoted.{quoted_at}
use Rattle.nms_stream.proofs.FollowFacts.{all_shown, anyway, lone_line, one_told, own_below, stays_beside}
use Rattle.nms_stream.proofs.following.follow_all.Goals as goal

pub returns-in-Some-clause-follows : goal.returns-in-Some-clause-follows
returns-in-Some-clause-follows c tape follows =
    let moved = c.apply.ensures.stands tape follows.stands in
    anyway c.show.result (record {
      stands = rw c.show.ensures.board moved;
      shows = all_shown c.args.follower.now.board c.apply.new.self c.args.change.now tape (sizes_of c.args.roster.now)
          c.args.follower.now.shown.items c.show.new.follower.shown.items c.in-Some.sym c.other_symbols_stay.ensures c.apply.ensures.after
          follows.stands moved c.requires.of.same c.requires.takes (sym c.symbol_of.ensures ∙ c.in-Some.is) follows.shows
          c.show.ensures.shown;
    })

pub returns-in-Some-clause-told : goal.returns-in-Some-clause-told
returns-in-Some-clause-told c tape follows =
    let roster = c.args.roster.now in
    let now = tape ++ c.args.change.now ∷ [] in
    let moved = c.apply.ensures.stands tape follows.stands in
    let same = ap (λ (b : Board). b.sizes) c.apply.ensures.after ∙ c.requires.of.same in
    let speaks = sym c.symbol_of.ensures ∙ c.in-Some.is in
    let below : c.in-Some.sym < length (sizes_of roster).lots =
    own_below c.args.follower.now.board (sizes_of roster) c.args.change.now c.in-Some.sym c.requires.of.same c.requires.takes speaks in
    on_ok_weaker c.show.result
    (λ told. told ∙ ap (λ (rs : List Record). c.args.out.now.items ++ text_of rs)
    (one_told c.apply.new.self roster tape now c.in-Some.sym moved same
    ∙ lone_line roster tape now c.in-Some.sym (omega (arith, below, length-map roster.syms (λ entry. entry.1)))
    (λ k differ. stays_beside c.args.follower.now.board c.apply.new.self c.args.change.now tape (sizes_of roster) c.in-Some.sym k
    c.other_symbols_stay.ensures c.apply.ensures.after follows.stands moved c.requires.of.same c.requires.takes speaks differ)))
    (c.show.ensures.told (quoted_at (sizes_of roster) tape c.in-Some.sym) (follows.shows c.in-Some.sym below))

pub returns-in-None-clause-follows : goal.returns-in-None-clause-follows
returns-in-None-clause-follows c tape follows =
    let moved = c.apply.ensures.stands tape follows.stands in
    on_ok_weaker c.show_each.result (λ shows. record { stands = rw c.show_each.ensures.board moved; shows = shows })
    (c.show_each.ensures.shows tape (tape ++ c.args.change.now ∷ []) moved follows.shows)

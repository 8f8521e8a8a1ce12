-- `follow_one`: clauses `follows` and `told`, by `stays_beside`, `no_line`, `one_shown` and `one_told`.
use Rattle.std.proofs.Common.{◌≡◌, ◌≢◌, ◌++◌, ◌∷◌, [], List, ap, sym, ◌∙◌, arith, Some}
use Rattle.std.proofs.lemmas.Bool.Decides.{nat_tests}
use Rattle.std.proofs.lemmas.List.{append-nil}
use Rattle.std.proofs.lemmas.Result.{on_ok_weaker}
use Rattle.nms_quote.specs.Roster.{sizes_of}
use Rattle.nms_board.specs.Cells.{Board, StandsFor}
use Rattle.nms_lines.specs.Layout.{Record}
use Rattle.nms_lines.specs.Text.{text_of}
use Rattle.nms_stream.specs.Quoted.{quoted_at}
use Rattle.nms_stream.proofs.FollowFacts.{anyway, one_shown, one_told, stays_beside}
use Rattle.nms_stream.proofs.QuotedFacts.{no_line}
use Rattle.nms_stream.proofs.following.follow_one.Goals as goal

-- what is quoted of the symbol stays at a change of another
stays : (c : goal.Then-ne) → (tape : _) → StandsFor c.args.follower.now.board tape
    → quoted_at (sizes_of c.args.roster.now) tape c.args.sym
    ≡ quoted_at (sizes_of c.args.roster.now) (tape ++ c.args.change.now ∷ []) c.args.sym
stays c tape stands =
    let differ : c.args.sym ≢ c.in-Some.own = λ e. absurd (grind (arith, nat_tests, e, c.if-ne.true, c.ne.ensures)) in
    stays_beside c.args.follower.now.board c.apply.new.self c.args.change.now tape (sizes_of c.args.roster.now) c.in-Some.own c.args.sym
    c.other_symbols_stay.ensures c.apply.ensures.after stands (c.apply.ensures.stands tape stands) c.requires.of.same c.requires.takes
    (sym c.symbol_of.ensures ∙ c.in-Some.is) differ

pub returns-then-ne-clause-follows : goal.returns-then-ne-clause-follows
returns-then-ne-clause-follows c tape follows = record {
  stands = c.apply.ensures.stands tape follows.stands;
  shows = follows.shows ∙ ap Some (stays c tape follows.stands);
}

pub returns-then-ne-clause-told : goal.returns-then-ne-clause-told
returns-then-ne-clause-told c tape follows =
    sym (ap (λ (rs : List Record). c.args.out.now.items ++ text_of rs)
    (no_line c.args.roster.now tape (tape ++ c.args.change.now ∷ []) c.args.sym (stays c tape follows.stands))
    ∙ append-nil c.args.out.now.items)

pub returns-clause-follows : goal.returns-clause-follows
returns-clause-follows c tape follows =
    let moved = c.apply.ensures.stands tape follows.stands in
    let same = ap (λ (b : Board). b.sizes) c.apply.ensures.after ∙ c.requires.of.same in
    anyway c.show.result (record {
      stands = rw c.show.ensures.board moved;
      shows = one_shown c.apply.new.self tape (tape ++ c.args.change.now ∷ []) (sizes_of c.args.roster.now) c.args.follower.now.shown.items
          c.show.new.follower.shown.items c.args.sym moved same follows.shows c.show.ensures.shown;
    })

pub returns-clause-told : goal.returns-clause-told
returns-clause-told c tape follows =
    let moved = c.apply.ensures.stands tape follows.stands in
    let same = ap (λ (b : Board). b.sizes) c.apply.ensures.after ∙ c.requires.of.same in
    on_ok_weaker c.show.result
    (λ told. told ∙ ap (λ (rs : List Record). c.args.out.now.items ++ text_of rs)
    (one_told c.apply.new.self c.args.roster.now tape (tape ++ c.args.change.now ∷ []) c.args.sym moved same))
    (c.show.ensures.told (quoted_at (sizes_of c.args.roster.now) tape c.args.sym) follows.shows)

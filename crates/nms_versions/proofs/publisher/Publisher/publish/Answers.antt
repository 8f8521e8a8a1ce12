-- `Publisher::publish`: clauses `publications` and `whole`, the call of `close`, the call of `show` and
-- the invariant of what it leaves, by `batch_room`, `changes-push`, `committed_some`, `follows`, `no_items`,
-- `publications_push` and `taped_close`.
use Rattle.std.proofs.Common.{◌≡◌, ◌<◌, ◌↔◌, ◌⊎◌, ◌++◌, ◌∷◌, [], false, length, List, ap, sym, subst, ◌∙◌, arith, rules}
use Rattle.std.proofs.lemmas.Grind.{common_steps}
use Rattle.std.specs.List.{Contains}
use Rattle.nms_quote.specs.declared.change.Change.{Change}
use Rattle.nms_versions.specs.History.{Chronicle}
use Rattle.nms_versions.specs.Published.{Batches, changes, committed, publications}
use Rattle.nms_versions.specs.Taped.{Taped, tape_of}
use Rattle.nms_versions.proofs.PublishLemmas.{batch_room, changes-push, committed_some, follows, no_items, publications_push, taped_close}
use Rattle.nms_versions.proofs.publisher.Publisher.publish.Goals as goal

pub returns-then-is_empty-clause-publications : goal.returns-then-is_empty-clause-publications
returns-then-is_empty-clause-publications g c n =
    let none = no_items c.self.inside.fresh (rw c.if-is_empty.true at c.is_empty.ensures) in
    let log : Batches = c.self.inside.history.published in
    subst (λ (t : Taped). Contains (publications t.published) n ↔ Contains (publications t.published) n ⊎ (n ≡ length (tape_of t)))
    c.self.view_is
    (subst (λ (p : List Change). Contains (publications log) n ↔ Contains (publications log) n ⊎ (n ≡ length (changes log ++ p))) (sym none)
    (publications_push log [] n))

pub close-requires-clause-room : goal.close-requires-clause-room
close-requires-clause-room g c =
    let some : 0 < length c.self.inside.fresh = rw c.if-is_empty.false at c.is_empty.ensures in
    let short = batch_room _ _ _ _ _ _ c.self.invariant.1 in
    omega (arith, some, short.0)

pub show-requires-clause-idle : goal.show-requires-clause-idle
show-requires-clause-idle g c = c.self.invariant.0.idle

pub show-requires-clause-follows : goal.show-requires-clause-follows
show-requires-clause-follows g c =
    follows _ _ _ _ _ _ _ _ c.self.invariant.0 c.self.invariant.1
    (c.token.ensures.book ∙ ap (λ (h : Chronicle). h.opening) c.close.ensures)
    (c.token.ensures.log ∙ ap (λ (h : Chronicle). h.published) c.close.ensures
    ∙ ap (λ (lent : List Change). c.self.inside.history.published ++ lent ∷ []) c.lend-changes.ensures) c.lend-changes.ensures

pub invariant_of-self : goal.invariant_of-self
invariant_of-self g c =
    let some : 0 < length c.self.inside.fresh = rw c.if-is_empty.false at c.is_empty.ensures in
    let closed : c.close.new.self ≡ record c.self.inside.history {
      published = c.self.inside.history.published ++ c.self.inside.fresh ∷ [];
      is_open = false;
    } = c.close.ensures ∙ ap (λ (lent : List Change). record c.self.inside.history {
      published = c.self.inside.history.published ++ lent ∷ [];
      is_open = false;
    }) c.lend-changes.ensures in
    let count : c.len.result ≡ length c.self.inside.tape.items = search rules in
    let shown = c.show.ensures in (
      record {
        book = ap (λ s. s.book) shown.shown ∙ c.token.ensures.book;
        log = ap (λ s. s.log) shown.shown ∙ c.token.ensures.log;
        idle = shown.idle;
      },
      rw (shown.sizes, c.begin.ensures, count) (taped_close _ _ _ _ _ _ _ c.self.invariant.1 some closed),
    )

pub returns-clause-whole : goal.returns-clause-whole
returns-clause-whole g c =
    ap (λ (h : Chronicle). changes h.published) c.close.ensures
    ∙ ap (λ (lent : List Change). changes (c.self.inside.history.published ++ lent ∷ [])) c.lend-changes.ensures
    ∙ changes-push c.self.inside.history.published c.self.inside.fresh
    ∙ ap tape_of c.self.view_is

pub returns-clause-publications : goal.returns-clause-publications
returns-clause-publications g c n =
    let some : 0 < length c.self.inside.fresh = rw c.if-is_empty.false at c.is_empty.ensures in
    let log : Batches = c.self.inside.history.published in
    let pending : List Change = c.self.inside.fresh in
    let closed : c.close.new.self.published ≡ log ++ pending ∷ [] = ap (λ (h : Chronicle). h.published) c.close.ensures
    ∙ ap (λ (lent : List Change). log ++ lent ∷ []) c.lend-changes.ensures in
    let now : committed log pending ≡ c.close.new.self.published = committed_some log pending some ∙ sym closed in
    subst (λ (t : Taped). Contains (publications c.close.new.self.published) n ↔ Contains (publications t.published) n
    ⊎ (n ≡ length (tape_of t))) c.self.view_is
    (subst (λ (b : Batches). Contains (publications b) n ↔ Contains (publications log) n ⊎ (n ≡ length (changes log ++ pending))) now
    (publications_push log pending n))

-- ---- goals that `grind` closes; the search that is tried before it takes longer

pub returns-clause-published : goal.returns-clause-published
returns-clause-published g c = grind (arith, common_steps)

pub close-requires-clause-some : goal.close-requires-clause-some
close-requires-clause-some g c = grind (arith, common_steps)

pub returns-then-is_empty-clause-whole : goal.returns-then-is_empty-clause-whole
returns-then-is_empty-clause-whole g c = grind (arith, common_steps)

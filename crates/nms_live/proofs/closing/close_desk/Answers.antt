-- `close_desk`: clause `row`, by `closed`.
use Rattle.std.proofs.Common.{arith, ℕ, ◌≡◌, ◌≤◌, ◌++◌, ◌∷◌, List, length, ap, subst, ◌∙◌, rules}
use Rattle.std.proofs.lemmas.Grind.{common_steps}
use Rattle.std.specs.List.{AllByRecursion, Contains}
use Rattle.nms_quote.specs.Tape.{Tape}
use Rattle.nms_versions.specs.Published.{Batches, changes, publications}
use Rattle.nms_versions.specs.Taped.{AllBegin, Knowing, longest_of, tape_of}
use Rattle.nms_live.specs.Answering.{IsWorked, numbered, own, versions}
use Rattle.nms_live.specs.Keeping.{Keeping}
use Rattle.nms_quote.specs.declared.desk_order.DeskOrder.{DeskOrder}
use Rattle.nms_live.proofs.CloseFacts.{closed}
use Rattle.nms_live.proofs.closing.close_desk.Goals as goal

pub returns-in-Ok-settle-clause-row : goal.returns-in-Ok-settle-clause-row
returns-in-Ok-settle-clause-row g c =
    let keeper = c.args.keeper.now in
    let tape = tape_of keeper.taped in
    let before = c.args.desked.desk.known in
    let after = c.answer_orders.new.desk.known in
    let closing = c.in-Ok.closing.items in
    let knows = c.in-Ok.ensures.knows in
    let whole : changes c.receipt.result.published ≡ tape = ap changes c.receipt.ensures.published ∙ c.requires.whole.published in
    let learnt : c.learn.new.self.known ≡ tape ∷ before = ap (λ (d : Knowing). d.known) c.learn.ensures
    ∙ ap (λ (t : Tape). t ∷ before) whole in
    let again : c.receipt-2.result.published ≡ keeper.taped.published = c.receipt-2.ensures.published
    ∙ ap (λ (k : Keeping). k.taped.published) c.receipt.ensures.unchanged in
    let mine : c.deref.result.now ≡ own c.args.number (numbered c.args.given.now.orders.items) = search rules in
    let top : changes c.receipt-2.result.published ≡ tape = ap changes again ∙ c.requires.whole.published in
    closed c.args.given.now.setup.now c.args.number c.args.given.now.orders.items keeper.taped.published keeper.listed tape before after
    knows.0 (record { answers = c.args.desked.answers; closing = c.in-Ok.closing })
    c.receipt.ensures.kept.published
    (record {
      begin = subst (λ (t : Tape). AllBegin t after) top c.in-Ok-settle.ensures.begins;
      published_them = subst (λ (b : Batches). AllByRecursion (λ earlier. Contains (publications b) (length earlier)) after) again
          c.in-Ok-settle.ensures.published;
    })
    (knows.1 ∙ ap (λ (k : List Tape). knows.0 ++ k) learnt)
    (c.requires.back.worked c.requires.ended)
    (subst (λ (o : List (ℕ × DeskOrder)). IsWorked c.args.given.now.setup.now o after closing) mine c.in-Ok.ensures.worked)
    (subst (λ (k : List Tape). AllByRecursion (λ n. longest_of k ≤ n) (versions closing)) learnt c.in-Ok.ensures.later)

-- ---- goals that `grind` closes; the search that is tried before it takes longer

pub returns-in-Err-clause-fault : goal.returns-in-Err-clause-fault
returns-in-Err-clause-fault g c = grind (arith, common_steps)

-- `fees_of`: the fees keep the caps, by `charges_of_rows`, and a row more adds its fees.
use Rattle.std.proofs.Common.{◌≡◌, ℕ, ◌+◌, ◌<◌, List, [], ◌∷◌, ◌++◌, length, take, get_or, map, ap, subst, sym, ◌∙◌, arith}
use Rattle.std.proofs.lemmas.Grind.{common_steps}
use Rattle.std.proofs.lemmas.List.{map-append, take_all}
use Rattle.toml.specs.View.{view}
use Rattle.toml.specs.declared.value.Value.{Value}
use Rattle.nms_fee_book.specs.Fees.{AreCapped}
use Rattle.nms_fee_book.specs.declared.fee_schedule.FeeSchedule.{FeeSchedule}
use Rattle.nms_fees.specs.Setup.{schedule_of}
use Rattle.nms_fees.proofs.NameLemmas.{one_more}
use Rattle.nms_fees.proofs.SoundLemmas.{charges_of_rows}
use Rattle.nms_fees.proofs.setup_reading.fees_of.Goals as goal

pub new-requires : goal.new-requires
new-requires c =
    let whole = c.loop-row.invariant ∙ ap (λ rows. map schedule_of (map view rows))
    (take_all c.loop-row.row-index c.args.rows.now (omega arith)) in
    subst (AreCapped c.args.chosen.caps) (sym whole) (charges_of_rows c.args.chosen (map view c.args.rows.now) c.requires)

-- the fees of one row more
with_last : (rows : List Value) (i : ℕ) (row : Value) → i < length rows → row ≡ get_or rows i row → (front all : List FeeSchedule)
    (last : FeeSchedule) → front ≡ map schedule_of (map view (take i rows)) → last ≡ schedule_of (view row) → all ≡ front ++ last ∷ []
    → all ≡ map schedule_of (map view (take (i + 1) rows))
with_last rows i row within here front all last so_far is added =
    added ∙ (λ j. so_far j ++ is j ∷ []) ∙ sym (map-append schedule_of (map view (take i rows)) (view row ∷ []))
    ∙ ap (map schedule_of) (sym (map-append view (take i rows) (row ∷ [])))
    ∙ ap (λ some. map schedule_of (map view some)) (sym (one_more rows i row within here))

pub loop-row-preserved : goal.loop-row-preserved
loop-row-preserved c =
    with_last c.args.rows.now c.loop-row.row-index c.row-item.result c.loop-row-test.true c.row-item.is c.loop-row.schedules.items
    c.push.new.self.items c.schedule_of.result c.loop-row.invariant c.schedule_of.ensures c.in-Ok.ensures.items

-- ---- goals that `grind` closes; the search that is tried before it takes longer

pub returns-clause-value : goal.returns-clause-value
returns-clause-value c = grind (arith, common_steps)

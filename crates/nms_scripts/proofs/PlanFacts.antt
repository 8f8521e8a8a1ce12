-- A plan in a desk's answer refuses no record.
use Rattle.std.proofs.Common.{◌≡◌, ◌++◌, List, [], ◌∷◌, map, refl}
use Rattle.std.specs.Prelude.{count_by}
use Rattle.nms_quote.specs.Roster.{Listing}
use Rattle.nms_quote.specs.declared.certificate.Cut.{Cut}
use Rattle.nms_quote.specs.declared.plan.Leg.{Leg}
use Rattle.nms_quote.specs.declared.plan.Plan.{Plan}
use Rattle.nms_lines.specs.PlanText.{cut_record, end_record, leg_record, plan_records}
use Rattle.nms_scripts.specs.Script.{is_refusal}

no_cut : (cuts : List Cut) → count_by is_refusal (map cut_record cuts ++ (end_record ∷ [])) ≡ 0
no_cut [] = refl
no_cut (cut ∷ cuts) = no_cut cuts

no_leg : (roster : Listing) (legs : List Leg) (cuts : List Cut)
    → count_by is_refusal (map (leg_record roster) legs ++ (map cut_record cuts ++ (end_record ∷ []))) ≡ 0
no_leg roster [] cuts = no_cut cuts
no_leg roster (leg ∷ legs) cuts = no_leg roster legs cuts

-- it refuses nothing
pub plan_refuses_none : (roster : Listing) (plan : Plan) (cuts : List Cut) → count_by is_refusal (plan_records roster plan cuts) ≡ 0
plan_refuses_none roster plan cuts = no_leg roster plan.legs.items cuts

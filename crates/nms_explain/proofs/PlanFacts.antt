-- The records of a plan's text, counted, with one more; and how a report ends by them.
use Rattle.std.proofs.Common.{arith, ◌≡◌, ◌+◌, ◌∙◌, ◌++◌, ◌∷◌, ◌&&◌, ◌==◌, [], List, Bool, ℕ, Option, Some, None, cond}
use Rattle.std.proofs.Common.{length, ap, ap₂}
use Rattle.std.specs.Prelude.{is_some}
use Rattle.std.proofs.lemmas.List.{length-append}
use Rattle.nms_quote.specs.Roster.{Listing}
use Rattle.nms_lines.specs.Layout.{Record}
use Rattle.nms_show.specs.declared.ending.Ending.{Ending}
use Rattle.nms_explain.specs.PlanOrder.{HasPassed, due_after, is_ended, trouble_after, wrong_in}
use Rattle.nms_explain.specs.Planned.{AllHaveCome, EndsAsPlan, HaveCome, ending_if, is_done}
use Rattle.nms_explain.specs.declared.places.plan_walk.PlanTrouble.{PlanTrouble}
use Rattle.nms_explain.specs.declared.plan_text.Came.{Came}
use Rattle.nms_explain.proofs.OrderFacts.{reads_where_no_record_is_wrong, wrong_more}

-- before the first record
pub none_came : (roster : Listing) (came : Came) → came.records ≡ 0 → came.refused ≡ 0 → HasPassed [] came.walk → HaveCome roster [] came
unfolding Rattle.nms_explain.specs.PlanOrder.troubles_after
none_came roster came records refused walk = record { records = records; refused = refused; walk = walk }

-- with a record after them, by what is wrong with it
module _ (roster : Listing) (seen : List Record) (fields : Record) (old new : Came) (before : HaveCome roster seen old)
    (records : new.records ≡ old.records + 1) (walk : HasPassed (seen ++ fields ∷ []) new.walk) where
  longer : new.records ≡ length (seen ++ fields ∷ [])
  longer = omega (arith, records, before.records, length-append seen (fields ∷ []))

  pub one_right : None ≡ trouble_after roster seen fields → new.refused ≡ old.refused → HaveCome roster (seen ++ fields ∷ []) new
  one_right is refused = record {
    records = longer;
    refused =
        omega (
          arith,
          refused,
          before.refused,
          wrong_more roster seen fields,
          ap {B = ℕ} (λ (it : Option PlanTrouble). cond (is_some it) 1 0) is,
        );
    walk = walk;
  }

  pub one_wrong : (trouble : PlanTrouble) → Some trouble ≡ trouble_after roster seen fields → new.refused ≡ old.refused + 1
      → HaveCome roster (seen ++ fields ∷ []) new
  one_wrong trouble is refused = record {
    records = longer;
    refused =
        omega (
          arith,
          refused,
          before.refused,
          wrong_more roster seen fields,
          ap {B = ℕ} (λ (it : Option PlanTrouble). cond (is_some it) 1 0) is,
        );
    walk = walk;
  }

-- by the counts of all the records
pub ends_as_plan : (roster : Listing) (bytes : Option (List ℕ)) (came : Came) (ended : Ending) → AllHaveCome roster bytes came
    → ended ≡ ending_if (is_done came) → EndsAsPlan roster bytes ended
ends_as_plan roster bytes came ended all is = (
  all.0,
  all.1,
  is
      ∙ ap ending_if (ap₂ (λ (n : ℕ) (b : Bool). (n == 0) && b) all.2.refused (ap is_ended all.2.walk.due)
      ∙ reads_where_no_record_is_wrong roster all.0),
)

-- Worked examples of plans' records in their order. The right-hand sides are worked out by hand.
use Rattle.std.specs.Prelude.{◌≡◌, [], ◌∷◌, codes, replicate, Some, None}
use Rattle.nms_quote.specs.Roster.{Listing}
use Rattle.nms_quote.specs.declared.feed.Feed.TheVariants as feed
use Rattle.nms_lines.specs.Layout.{Record}
use Rattle.nms_lines.specs.declared.line_fault.FaultPlace.TheVariants as place
use Rattle.nms_explain.specs.PlanOrder.{count_after, due_after, trouble_after, wrong_in}
use Rattle.nms_explain.specs.declared.places.plan_walk.PlanDue.TheVariants as due
use Rattle.nms_explain.specs.declared.places.plan_walk.PlanTrouble.TheVariants as trouble

-- one participant, one symbol
abbrev pub roster : Listing
roster = record { parts = (codes "N", feed.A) ∷ []; syms = (codes "ABC", 100) ∷ [] }

-- a plan of version 3, to buy 600 shares of ABC at 10.01 dollars or less
abbrev pub plan : Record
plan =
    codes "PLAN" ∷ codes "3" ∷ codes "B" ∷ codes "ABC" ∷ codes "600" ∷ codes "10.01" ∷ [] ∷ codes "100" ∷ codes "1000.030000000" ∷ []

-- 100 shares at N, at 10 dollars
abbrev pub leg : Record
leg = codes "LEG" ∷ codes "N" ∷ codes "10" ∷ codes "100" ∷ []

-- one at 10 dollars would be too much
abbrev pub cut : Record
cut = codes "CUT" ∷ codes "10" ∷ codes "TOOMUCH" ∷ [] ∷ []

abbrev pub end : Record
end = codes "END" ∷ []

pub record ExamplesHold : Type 0 where
  -- legs may follow legs, and no leg a cut; nothing follows an end
  pub leg_due : due_after (plan ∷ leg ∷ leg ∷ []) ≡ due.Leg
  pub cut_due : due_after (plan ∷ leg ∷ cut ∷ leg ∷ []) ≡ due.Cut
  pub nothing_due : due_after (plan ∷ leg ∷ end ∷ cut ∷ []) ≡ due.Nothing
  -- the legs before the cuts don't count among these
  pub two_legs : count_after (plan ∷ leg ∷ leg ∷ []) ≡ 2
  pub one_cut : count_after (plan ∷ leg ∷ leg ∷ cut ∷ []) ≡ 1
  -- a leg is right after the plan, wrong after a cut, and one too many after 32
  pub right : trouble_after roster (plan ∷ []) leg ≡ None
  pub after_cut :
      trouble_after roster (plan ∷ cut ∷ []) leg ≡ Some (trouble.Wrong (place.Field 0))
  pub one_too_many : trouble_after roster (plan ∷ replicate 32 leg) leg ≡ Some trouble.TooMany
  -- a text with a leg after its cut has one wrong record
  pub one_wrong : wrong_in roster (plan ∷ cut ∷ leg ∷ end ∷ []) ≡ 1

-- The finding on a vendor's national best and ours. This product's own rule.
use Rattle.std.specs.Prelude.{◌==◌, ◌&&◌, Bool, true, false, Option, Some, None, if◌then◌else◌}
use Rattle.nms_board.specs.declared.row.Row.{Row}
use Rattle.nms_stream.specs.declared.quoted.Quoted.{Quoted}
use Rattle.nms_compare.specs.declared.finding.Finding.{Finding}
use Rattle.nms_compare.specs.declared.finding.Finding.TheVariants as finding
use Rattle.nms_compare.specs.declared.national.Best.{Best}
use Rattle.nms_compare.specs.declared.national.National.{National}

-- a side agrees if both have it and they agree there, or if neither has it
abbrev pub agrees : (Row → Best → Bool) → Option Row → Option Best → Bool
agrees same None None = true
agrees same None (Some theirs) = false
agrees same (Some ours) None = false
agrees same (Some ours) (Some theirs) = same ours theirs

-- both sides agree
abbrev pub both_agree : (Row → Best → Bool) → Quoted → National → Bool
both_agree same ours theirs = agrees same ours.bid theirs.bid && agrees same ours.offer theirs.offer

-- no bid and no offer
abbrev pub is_nothing : {A : Type 0} → Option A → Option A → Bool
is_nothing None None = true
is_nothing None (Some offer) = false
is_nothing (Some bid) offer = false

-- both, or neither
abbrev pub alike : Bool → Bool → Bool
alike true other = other
alike false true = false
alike false false = true

-- without a counterpart if one of the two has no side at all and the other one has; else the first that differs: a price,
-- a displayed size, a venue
abbrev pub finding_of : Quoted → National → Finding
finding_of ours theirs =
    if alike (is_nothing ours.bid ours.offer) (is_nothing theirs.bid theirs.offer) then
    (if both_agree (λ row best. row.price == best.price) ours theirs then
    (if both_agree (λ row best. row.size == best.shares) ours theirs then
    (if both_agree (λ row best. row.part == best.part) ours theirs then finding.Equal else finding.OtherVenue)
    else finding.OtherSize)
    else finding.OtherPrice)
    else finding.NoCounterpart

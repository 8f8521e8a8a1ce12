-- `doubt_place`: what its calls ask for, by `told_doubt_holds` (the doubt that is reported holds by itself).
use Rattle.nms_cert.specs.declared.doubt.Doubt.TheVariants as doubt
use Rattle.nms_verdicts.proofs.DoubtHolds.{told_doubt_holds}
use Rattle.nms_verdicts.proofs.plan_places.doubt_places.doubt_place.Goals as goal

pub breach_place-requires : goal.breach_place-requires
breach_place-requires c =
    told_doubt_holds c.args.view.now c.args.order.now c.args.fees.now c.args.plan.now c.args.certificate.now.items c.args.doubt
    (doubt.Breach c.in-Breach.breach) c.requires c.in-Breach.is

pub short_place-requires : goal.short_place-requires
short_place-requires c =
    told_doubt_holds c.args.view.now c.args.order.now c.args.fees.now c.args.plan.now c.args.certificate.now.items c.args.doubt
    doubt.NotMost c.requires c.in-NotMost.is

pub on_cuts-requires : goal.on_cuts-requires
on_cuts-requires c = rw c.in-CutMissing.is
    (told_doubt_holds c.args.view.now c.args.order.now c.args.fees.now c.args.plan.now c.args.certificate.now.items c.args.doubt
    doubt.CutMissing c.requires c.in-CutMissing.is)

pub on_cuts-requires-in-CutExtra : goal.on_cuts-requires-in-CutExtra
on_cuts-requires-in-CutExtra c = rw c.in-CutExtra.is
    (told_doubt_holds c.args.view.now c.args.order.now c.args.fees.now c.args.plan.now c.args.certificate.now.items c.args.doubt
    doubt.CutExtra c.requires c.in-CutExtra.is)

pub on_cuts-requires-in-WrongKind : goal.on_cuts-requires-in-WrongKind
on_cuts-requires-in-WrongKind c = rw c.in-WrongKind.is
    (told_doubt_holds c.args.view.now c.args.order.now c.args.fees.now c.args.plan.now c.args.certificate.now.items c.args.doubt
    doubt.WrongKind c.requires c.in-WrongKind.is)

pub on_cuts-requires-in-MarginalRange : goal.on_cuts-requires-in-MarginalRange
on_cuts-requires-in-MarginalRange c = rw c.in-MarginalRange.is
    (told_doubt_holds c.args.view.now c.args.order.now c.args.fees.now c.args.plan.now c.args.certificate.now.items c.args.doubt
    doubt.MarginalRange c.requires c.in-MarginalRange.is)

pub on_cuts-requires-in-BoundFails : goal.on_cuts-requires-in-BoundFails
on_cuts-requires-in-BoundFails c = rw c.in-BoundFails.is
    (told_doubt_holds c.args.view.now c.args.order.now c.args.fees.now c.args.plan.now c.args.certificate.now.items c.args.doubt
    (doubt.BoundFails c.in-BoundFails.cut) c.requires c.in-BoundFails.is)

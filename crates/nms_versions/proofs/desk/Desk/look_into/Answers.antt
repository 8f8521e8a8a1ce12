-- `Desk::look_into`: clause `shown`, since what the shown board shows is the view of its version.
use Rattle.std.proofs.Common.{ap, ◌∙◌, Result, Ok, Err, IfOk, OnOk}
use Rattle.nms_board.specs.Shown.{seen_on}
use Rattle.nms_board.specs.View.{Seen, view_of}
use Rattle.nms_board.proofs.Offered.{seen_stands}
use Rattle.nms_versions.proofs.desk.Desk.look_into.Goals as goal

on_ok : {A B : Type 0} (P : A → Type 0) (Q : Type 0) (r : Result A B) → ((a : A) → P a → Q) → IfOk r P → OnOk r Q
on_ok P Q (Ok a) more is = more a is
on_ok P Q (Err b) more is = tt

pub returns-clause-shown : goal.returns-clause-shown
returns-clause-shown c =
    on_ok _ _ c.look_with.result
    (λ sight is.
    let board = is.0 in
    let version = is.1 in
    let shown = is.2 in (
      version,
      is.3 ∙ ap (λ (seen : Seen). seen_on board seen.sym) c.clear.ensures ∙ seen_stands board version c.args.sym shown.stands
          ∙ ap (λ sizes. view_of sizes version c.args.sym) shown.sizes,
      shown.begins,
      shown.knows,
    ))
    c.look_with.ensures.shown

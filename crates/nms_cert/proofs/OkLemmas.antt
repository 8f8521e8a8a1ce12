-- A confirmation that is `Ok` has no doubt, and the converse.
use Rattle.std.proofs.Common.{◌≡◌, None, refl, ap, sym}
use Rattle.std.specs.Prelude.{Result, Ok, Err, IsOk, OnOk}
use Rattle.std.specs.Option.{is_some}
use Rattle.std.specs.Result.{result_err}
use Rattle.std.proofs.lemmas.Bool.{false≢true}
use Rattle.nms_cert.specs.declared.doubt.Doubt.{Doubt}

pub ok-none : (result : Result (Unit {0}) Doubt) → IsOk result → result_err result ≡ None
ok-none (Ok done) ok = refl
ok-none (Err doubt) ok = absurd (false≢true ok)

pub none-ok : (result : Result (Unit {0}) Doubt) → result_err result ≡ None → IsOk result
none-ok (Ok done) none = refl
none-ok (Err doubt) none = absurd (false≢true (sym (ap is_some none)))

pub on-ok : (result : Result (Unit {0}) Doubt) (P : Type 0) → (IsOk result → P) → OnOk result P
on-ok (Ok done) P holds = holds refl
on-ok (Err doubt) P holds = tt

pub of-ok : (result : Result (Unit {0}) Doubt) (P : Type 0) → OnOk result P → IsOk result → P
of-ok (Ok done) P holds ok = holds
of-ok (Err doubt) P holds ok = absurd (false≢true ok)

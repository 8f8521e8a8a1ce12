-- What a look at terms owns: a share of the right to read the settings if the handle is open, and nothing if it is closed. `k` shares of
-- the loan `a`. This product's own rule.
use Rattle.std.specs.Prelude.{◌≡◌, ◌≢◌, ℕ, Option, None, Some}
use base.Fml.{Fml, ftrue, fex}
use denote.RawPtr.{Ptr}
use Rattle.left_right.specs.Parted.{part_owns}
use Rattle.nms_fees.specs.Settings.{Settings}
use Rattle.nms_fees.specs.contracts.setup.Setup.{the_row}
use Rattle.nms_c.specs.TermsHeld.{terms_mark}

abbrev pub terms_looked : ℕ → Ptr → Option Settings → ℕ → ℕ → Fml
terms_looked m p None a k = fex (m ≢ terms_mark) (λ _. ftrue)
terms_looked m p (Some x) a k = fex (m ≡ terms_mark) (λ _. part_owns the_row p x a k)

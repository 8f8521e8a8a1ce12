-- What the handle of terms owns: the settings of a setup if it is open, and nothing if it is closed. This product's own rule.
use Rattle.std.specs.Prelude.{◌≡◌, ◌≢◌, ℕ, Option, None, Some}
use base.Fml.{Fml, ftrue, fex}
use denote.RawPtr.{Ptr}
use Rattle.std_alloc.specs.Box.Ownership.{box_owns}
use Rattle.std.specs.contracts.impls.GlobalAllocator.TheImpl.{ghosts}
use Rattle.std.specs.declared.alloc.Global.{Global}
use Rattle.nms_fees.specs.Settings.{Settings}
use Rattle.nms_fees.specs.contracts.setup.Setup.{the_row}

-- the word of open terms
abbrev pub terms_mark : ℕ
terms_mark = 84

abbrev pub terms_held : ℕ → Ptr → Global → Option Settings → Fml
terms_held m p a None = fex (m ≢ terms_mark) (λ _. ftrue)
terms_held m p a (Some k) = fex (m ≡ terms_mark) (λ _. box_owns (ghosts.dealloc_token a) the_row p k)

-- The exit status of a served request by its ending, and the form of its answers. This product's own rule.
use Rattle.std.specs.Prelude.{ℕ, Bool, true, false}
use Rattle.nms_show.specs.declared.ending.Ending.{Ending}
use Rattle.nms_show.specs.declared.ending.Ending.TheVariants as ending
use Rattle.nms_show.specs.declared.form.Form.{Form}
use Rattle.nms_show.specs.declared.form.Form.TheVariants as form

-- 0 if all is well, 4 for a doubt, 6 for a record or a plan's text, 3 for a setup
abbrev pub status_of : Ending → ℕ
status_of ending.Done = 0
status_of ending.Doubted = 4
status_of ending.Refused = 6
status_of ending.SetupRefused = 3

-- sentences are no JSON, with colours or without
abbrev pub is_json : Form → Bool
is_json (form.Text colours) = false
is_json form.Json = true

-- How a report about a text ends. This product's own rule.
use Rattle.std.specs.Prelude.{ℕ, Option, Some, None, length, nat_eq, if◌then◌else◌}
use Rattle.toml.specs.Data.{Members}
use Rattle.nms_import.specs.Drafts.{plain}
use Rattle.nms_import.specs.Findings.{faults_of}
use Rattle.nms_setup_places.specs.Findings.{findings_of}
use Rattle.nms_show.specs.declared.ending.Ending.{Ending}
use Rattle.nms_show.specs.declared.ending.Ending.TheVariants as ending
use Rattle.nms_explain_toml.specs.Kinds.{kind_of}

-- done if there are no findings, else a setup is refused
abbrev pub ending_of : ℕ → Ending
ending_of findings = if nat_eq findings 0 then ending.Done else ending.SetupRefused

-- by the document that a text is: if it is none, a setup is refused
abbrev pub ending_at : Option Members → Ending
ending_at None = ending.SetupRefused
ending_at (Some document) = ending_of (length (findings_of document))

-- how the call ends on a mapping of the kind that it names: by the document's faults
abbrev pub ending_by : Members → Ending
ending_by document = ending_of (length (faults_of (plain (kind_of document) document)))

abbrev pub ending_by_map : Option Members → Ending
ending_by_map None = ending.SetupRefused
ending_by_map (Some document) = ending_by document

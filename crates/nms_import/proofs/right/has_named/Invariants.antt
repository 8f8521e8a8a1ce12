-- `has_named`: no key so far is there, so those that are left decide.
use Rattle.std.proofs.Common.{◌≡◌, drop, map}
use Rattle.std.specs.Prelude.{is_some}
use Rattle.std.specs.List.{list_any}
use Rattle.nms_import.specs.Drafts.{doc_of, value_at}
use Rattle.nms_import.specs.Forms.{has_named}
use Rattle.nms_import.specs.Keys.{see}
use Rattle.nms_import.proofs.right.has_named.Given as goal

abbrev pub invariant-loop-word : goal.invariant-loop-word
invariant-loop-word l =
    has_named (doc_of l.draft) (see l.row)
    ≡ list_any (λ word. is_some (value_at (doc_of l.draft) (see l.row).table word)) (map (λ word. word.now) (drop l.word-index l.row.3.2.now))

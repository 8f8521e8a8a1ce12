-- `append_page`: its five parts, by `page_parts`.
use Rattle.std.proofs.Common.{◌≡◌, ◌++◌, ℕ, List, ap, ◌∙◌}
use Rattle.nms_drawing.proofs.PartLemmas.{four_parts, page_parts, two_parts}
use Rattle.nms_drawing.proofs.page.append_page.Goals as goal

pub returns : goal.returns
returns c =
    two_parts _ _ _ c.append_data.new.out.items c.extend_from_slice-4.new.self.items
    (four_parts _ _ _ _ _ _ _ _ c.append_data.new.out.items c.in_ok-extend_from_slice.ensures.items c.in_ok-extend_from_slice-2.ensures.items
    c.in_ok-extend_from_slice-3.ensures.items c.in_ok-append_data.ensures) c.in_ok-extend_from_slice-4.ensures.items
    ∙ ap (λ (text : List ℕ). c.args.text.now.items ++ text)
    (page_parts c.as_bytes.result.now c.args.report.now c.as_bytes-2.result.now c.args.json.now c.as_bytes-3.result.now
    c.as_bytes.ensures.value c.as_bytes-2.ensures.value c.as_bytes-3.ensures.value)

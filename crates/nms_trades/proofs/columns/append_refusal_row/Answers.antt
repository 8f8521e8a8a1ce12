-- `append_refusal_row`: the number, the blank fields and the code are the line, by `row_written`.
use Rattle.std.proofs.Common.{List, [], ap, codes, refl, ◌∷◌, ◌∙◌, ◌++◌, ℕ}
use Rattle.std.specs.Fmt.{decimal}
use Rattle.std.proofs.lemmas.Result.{on_ok_weaker}
use Rattle.nms_lines.specs.Layout.{Record}
use Rattle.nms_trades.specs.Faults.{code_of}
use Rattle.nms_trades.proofs.ColumnFacts.{begun_so, row_written}
use Rattle.nms_trades.proofs.columns.append_refusal_row.Goals as goal

pub returns : goal.returns
returns c =
    let number = decimal c.args.refusal.now.number in
    let code = code_of c.args.refusal.now.fault in
    let own : Record = [] ∷ [] ∷ [] ∷ [] ∷ [] ∷ [] ∷ [] ∷ [] ∷ codes "refused" ∷ code ∷ [] in
    let rest : Record = [] ∷ [] ∷ [] ∷ [] ∷ [] ∷ [] ∷ [] ∷ [] ∷ [] ∷ [] ∷ [] ∷ [] ∷ [] in
    let two = c.extend_from_slice.new.self.items in
    let begun = begun_so number (codes ",,,,,,,,,refused") code own c.args.out.now.items c.append_first.new.out.items two
    c.push_text.new.out.items c.in_ok-append_first.ensures c.in_ok-extend_from_slice.ensures.items
    (c.in_ok-push_text.ensures ∙ ap (λ (t : List ℕ). two ++ 44 ∷ t) c.code.ensures) refl in
    on_ok_weaker c.end_record.result
    (λ ended. row_written number own rest c.args.out.now.items c.push_text.new.out.items c.extend_from_slice-2.new.self.items
    c.end_record.new.out.items begun c.in_ok-extend_from_slice-2.ensures.items ended)
    c.end_record.ensures

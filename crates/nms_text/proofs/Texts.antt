-- Records as text, in parts.
use Rattle.std.proofs.Common.{ℕ, ◌≡◌, List, [], ◌∷◌, ◌++◌, Option, sym, ap, ◌∙◌, append_assoc}
use Rattle.std.specs.Prelude.{codes}
use Rattle.std.specs.List.{join_with_byte}
use Rattle.std.specs.Fmt.{decimal}
use Rattle.std.proofs.lemmas.List.{append-nil}
use Rattle.std.proofs.lemmas.List.Concat.{flat_map-append}
use Rattle.nms_quote.specs.Roster.{Listing, symbol_text}
use Rattle.nms_lines.specs.Text.{later_fields, record_text, text_of}
use Rattle.nms_lines.proofs.Offered.{join-append}
use Rattle.nms_board.specs.View.{Seen}
use Rattle.nms_board.specs.declared.row.Row.{Row}
use Rattle.nms_nbbo.specs.Market.{market_of}
use Rattle.nms_text.specs.Answers.{best_fields, best_record, market_word, look_text, rows_text}

-- the best bid and offer: the look, then both rows
pub best_text : (roster : Listing) (desk : ℕ) (seen : Seen) (bid offer : Option Row)
    → text_of (best_record roster desk seen bid offer ∷ [])
    ≡ look_text desk (symbol_text roster seen.sym) seen.version (market_word (market_of bid offer)) ++ rows_text roster bid offer
best_text roster desk seen bid offer =
    let head : List (List ℕ) = decimal desk ∷ symbol_text roster seen.sym ∷ decimal seen.version ∷ market_word (market_of bid offer) ∷ [] in
    let rows : List (List ℕ) = best_fields roster bid ++ best_fields roster offer in
    let joined : join_with_byte 44 (codes "BEST" ∷ (head ++ rows))
    ≡ look_text desk (symbol_text roster seen.sym) seen.version (market_word (market_of bid offer)) ++ later_fields rows =
    join-append (codes "BEST") head rows in
    let parts : later_fields rows ≡ later_fields (best_fields roster bid) ++ later_fields (best_fields roster offer) =
    flat_map-append (λ (f : List ℕ). 44 ∷ f) (best_fields roster bid) (best_fields roster offer) in
    append-nil (record_text (best_record roster desk seen bid offer))
    ∙ ap (λ (t : List ℕ). t ++ 10 ∷ [])
    (joined ∙ ap (λ (t : List ℕ). look_text desk (symbol_text roster seen.sym) seen.version (market_word (market_of bid offer)) ++ t)
    parts)
    ∙ append_assoc (look_text desk (symbol_text roster seen.sym) seen.version (market_word (market_of bid offer)))
    (later_fields (best_fields roster bid) ++ later_fields (best_fields roster offer)) (10 ∷ [])

-- the look before both rows
pub best_written : (roster : Listing) (desk : ℕ) (seen : Seen) (bid offer : Option Row) (told name market : List ℕ) (version : ℕ)
    → told ≡ look_text desk name version market ++ rows_text roster bid offer
    → symbol_text roster seen.sym ≡ name → version ≡ seen.version → market ≡ market_word (market_of bid offer)
    → told ≡ text_of (best_record roster desk seen bid offer ∷ [])
best_written roster desk seen bid offer told name market version written s v m =
    written ∙ rw (v, m, ← s) (sym (best_text roster desk seen bid offer))

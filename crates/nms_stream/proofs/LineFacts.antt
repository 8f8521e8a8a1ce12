-- A line as text, in parts.
use Rattle.std.proofs.Common.{ℕ, ◌≡◌, List, [], ◌∷◌, ◌++◌, sym, ap, ◌∙◌, append_assoc}
use Rattle.std.specs.List.{join_with_byte}
use Rattle.std.specs.Fmt.{decimal}
use Rattle.std.proofs.lemmas.List.{append-nil}
use Rattle.std.proofs.lemmas.List.Concat.{flat_map-append}
use Rattle.nms_quote.specs.Roster.{Listing, symbol_text}
use Rattle.nms_lines.specs.Text.{later_fields, record_text, text_of}
use Rattle.nms_lines.proofs.Offered.{join-append}
use Rattle.nms_nbbo.specs.Market.{market_of}
use Rattle.nms_text.specs.Answers.{market_word}
use Rattle.nms_stream.specs.Stream.{line_record, side_fields}
use Rattle.nms_stream.specs.declared.quoted.Quoted.{Quoted}

-- the head, then both rows
pub line_text : (roster : Listing) (number sym : ℕ) (quoted : Quoted) (told name market : List ℕ)
    → told ≡ decimal number ++ later_fields (name ∷ market ∷ [])
    ++ (later_fields (side_fields roster quoted.bid) ++ later_fields (side_fields roster quoted.offer) ++ 10 ∷ [])
    → symbol_text roster sym ≡ name → market ≡ market_word (market_of quoted.bid quoted.offer)
    → told ≡ text_of (line_record roster number sym quoted ∷ [])
line_text roster number symbol quoted told name market written is_name is_market =
    let bid : List (List ℕ) = side_fields roster quoted.bid in
    let offer : List (List ℕ) = side_fields roster quoted.offer in
    let word : List ℕ = market_word (market_of quoted.bid quoted.offer) in
    let head : List (List ℕ) = symbol_text roster symbol ∷ word ∷ [] in
    let comma : List ℕ → List ℕ = λ field. 44 ∷ field in
    let joined : join_with_byte 44 (decimal number ∷ (head ++ (bid ++ offer))) ≡ decimal number ++ later_fields (head ++ (bid ++ offer)) =
    join-append (decimal number) [] (head ++ (bid ++ offer)) in
    let parts : later_fields (head ++ (bid ++ offer)) ≡ later_fields head ++ (later_fields bid ++ later_fields offer) =
    flat_map-append comma head (bid ++ offer) ∙ ap (λ (t : List ℕ). later_fields head ++ t) (flat_map-append comma bid offer) in
    let ended : (decimal number ++ (later_fields head ++ (later_fields bid ++ later_fields offer))) ++ 10 ∷ []
    ≡ decimal number ++ later_fields head ++ (later_fields bid ++ later_fields offer ++ 10 ∷ []) =
    ap (λ (t : List ℕ). t ++ 10 ∷ []) (sym (append_assoc (decimal number) (later_fields head) (later_fields bid ++ later_fields offer)))
    ∙ append_assoc (decimal number ++ later_fields head) (later_fields bid ++ later_fields offer) (10 ∷ []) in
    written ∙ rw (← is_name, is_market)
    (sym (append-nil (record_text (line_record roster number symbol quoted))
    ∙ ap (λ (t : List ℕ). t ++ 10 ∷ []) (joined ∙ ap (λ (t : List ℕ). decimal number ++ t) parts) ∙ ended))

-- How the pieces of a text come from one line to the next.
use Rattle.std.proofs.Common.{ℕ, ◌≡◌, ◌+◌, ◌-◌, ◌<◌, ◌≤◌, ◌++◌, ◌∷◌, ◌∙◌, [], suc, zero, List, Option, Some, None, length, take, drop}
use Rattle.std.proofs.Common.{refl, sym}
use Rattle.std.proofs.Common.{ap, append_assoc, arith, length-drop, subst}
use Rattle.std.specs.Prelude.{All, IfSome, IsPermutation, map, option_map, option_to_list, unwrap_or}
use Rattle.std.specs.List.{slice_range}
use Rattle.std.proofs.lemmas.List.{append-nil, drop-drop, drop_all, map-append, take_all}
use Rattle.std.proofs.lemmas.List.Elements.{All-push}
use Rattle.std.proofs.lemmas.List.Sorted.{IsPermutation-map}
use Rattle.nms_verdicts.specs.Begun.{begun_text, start_of, texts_of}
use Rattle.nms_verdicts.specs.Pieces.{ArePieces, IsKind, Line, first_length, lines_of, pieces_at, pieces_in}
use Rattle.nms_verdicts.specs.declared.pieces.Begun.{Begun}
use Rattle.nms_verdicts.specs.declared.pieces.Kind.{Kind}
use Rattle.nms_verdicts.specs.declared.pieces.Piece.{Piece}
use Rattle.nms_verdicts.proofs.LineFacts.{first_line}

take_join : (m n : ℕ) (text : List ℕ) → take m text ++ take n (drop m text) ≡ take (m + n) text
take_join zero n text =
    let same : n ≡ 0 + n = omega arith in
    ap (λ (k : ℕ). take k text) same
take_join (suc m) n [] = take_all n [] (omega arith) ∙ sym (take_all (suc m + n) [] (omega arith))
take_join (suc m) n (byte ∷ more) =
    let same : suc (m + n) ≡ suc m + n = omega arith in
    ap (λ (rest : List ℕ). byte ∷ rest) (take_join m n more) ∙ ap (λ (k : ℕ). take k (byte ∷ more)) same

-- a part of a text, and the part after it
pub part_join : (text : List ℕ) (a b c : ℕ) → a ≤ b → b ≤ c → slice_range text a b ++ slice_range text b c ≡ slice_range text a c
part_join text a b c first then_ =
    let place : b ≡ a + (b - a) = omega (arith, first) in
    let size : (b - a) + (c - b) ≡ c - a = omega (arith, first, then_) in
    let behind : drop b text ≡ drop (b - a) (drop a text) = ap (λ (k : ℕ). drop k text) place ∙ sym (drop-drop (b - a) a text) in
    ap (λ (rest : List ℕ). take (b - a) (drop a text) ++ take (c - b) rest) behind
    ∙ take_join (b - a) (c - b) (drop a text) ∙ ap (λ (k : ℕ). take k (drop a text)) size

-- one line more of a piece, which may be its first
pub at_inner : (text : List ℕ) (start end : ℕ) (begun : Option Begun) → IfSome begun (λ it. it.start ≤ start) → start ≤ end
    → unwrap_or (begun_text text start begun) [] ++ slice_range text start end ≡ slice_range text (start_of start begun) end
at_inner text start end None before order = refl
at_inner text start end (Some it) before order = part_join text it.start start end before order

-- the same for one that has begun
pub at_blank : (text : List ℕ) (start end : ℕ) (begun : Option Begun) → IfSome begun (λ it. it.start ≤ start) → start ≤ end
    → option_map (λ before. before ++ slice_range text start end) (begun_text text start begun) ≡ begun_text text end begun
at_blank text start end None before order = refl
at_blank text start end (Some it) before order = ap (λ (part : List ℕ). Some part) (part_join text it.start start end before order)

-- one piece more
pub one_more : (before after : List (List ℕ)) (x y : List ℕ) (rest : List (List ℕ)) → after ≡ before ++ y ∷ [] → x ≡ y
    → before ++ x ∷ rest ≡ after ++ rest
one_more before after x y rest more same =
    ap (λ (text : List ℕ). before ++ text ∷ rest) same ∙ sym (append_assoc before (y ∷ []) rest)
    ∙ ap (λ (list : List (List ℕ)). list ++ rest) (sym more)

-- the pieces of the lines before a place
pub record Taken (text : List ℕ) (old new : List Piece) (start line : ℕ) (begun : Option Begun) : Type 0 where
  pub lines : List Line
  pub whole : lines_of text ≡ map (λ line. line.bytes) lines ++ lines_of (drop start text)
  pub kinds : All (λ line. IsKind line.bytes line.is) lines
  pub within : start ≤ length text
  pub count : line ≤ start
  pub before : IfSome begun (λ it. it.start ≤ start)
  pub pieces : (later : List Line)
      → texts_of old ++ pieces_in None (lines ++ later) ≡ texts_of new ++ pieces_in (begun_text text start begun) later

-- before the first line
pub taken_none : (text : List ℕ) (pieces : List Piece) → Taken text pieces pieces 0 0 None
taken_none text pieces = record {
  lines = [];
  whole = refl;
  kinds = λ k d below. absurd (omega (arith, below));
  within = omega arith;
  count = omega arith;
  before = tt;
  pieces = λ later. refl;
}

-- after one line more
pub taken_more : (text : List ℕ) (old new after : List Piece) (start end line : ℕ) (begun next : Option Begun) (kind : Kind)
    → Taken text old new start line begun → start < length text → end ≡ start + first_length (drop start text) → start < end
    → end ≤ length text → IsKind (slice_range text start end) kind → IfSome next (λ it. it.start ≤ end)
    → ((behind : Option (List ℕ) → List (List ℕ))
    → texts_of new ++ pieces_at kind (slice_range text start end) (begun_text text start begun) behind
    ≡ texts_of after ++ behind (begun_text text end next))
    → Taken text old after end (line + 1) next
taken_more text old new after start end line begun next kind had some is higher within own_kind order step =
    let own = slice_range text start end in
    let one : Line = record { bytes = own; is = kind } in
    let rest = drop start text in
    let long = first_length rest in
    let bytes = λ (line : Line). line.bytes in
    let there : 0 < length rest = omega (arith, length-drop start text, some) in
    let size : long ≡ end - start = omega (arith, is) in
    let left : drop long rest ≡ drop end text = drop-drop long start text ∙ ap (λ (k : ℕ). drop k text) (sym is) in
    let split : lines_of rest ≡ own ∷ lines_of (drop end text) =
    first_line rest there ∙ ap (λ (k : ℕ). take k rest ∷ lines_of (drop long rest)) size
    ∙ ap (λ (list : List ℕ). own ∷ lines_of list) left in
    record {
      lines = had.lines ++ one ∷ [];
      whole =
          had.whole ∙ ap (λ (list : List (List ℕ)). map bytes had.lines ++ list) split
          ∙ sym (append_assoc (map bytes had.lines) (own ∷ []) (lines_of (drop end text)))
          ∙ ap (λ (list : List (List ℕ)). list ++ lines_of (drop end text)) (sym (map-append bytes had.lines (one ∷ [])));
      kinds = All-push (λ (line : Line). IsKind line.bytes line.is) had.lines one had.kinds own_kind;
      within = within;
      count = omega (arith, had.count, higher);
      before = order;
      pieces = λ later.
          ap (λ (list : List Line). texts_of old ++ pieces_in None list) (append_assoc had.lines (one ∷ []) later)
          ∙ had.pieces (one ∷ later) ∙ step (λ next. pieces_in next later);
    }

-- after the last line
pub all_taken : (text : List ℕ) (old new after : List Piece) (start line : ℕ) (begun : Option Begun)
    → Taken text old new start line begun → length text ≤ start
    → texts_of after ≡ texts_of new ++ option_to_list (begun_text text start begun)
    → (texts : List (List ℕ)) × ArePieces text texts × (texts_of after ≡ texts_of old ++ texts)
all_taken text old new after start line begun had over last =
    let bytes = λ (line : Line). line.bytes in (
      pieces_in None had.lines,
      record {
        lines = had.lines;
        whole =
            sym (had.whole ∙ ap (λ (list : List ℕ). map bytes had.lines ++ lines_of list) (drop_all start text over)
            ∙ append-nil (map bytes had.lines));
        kinds = had.kinds;
        parted = refl;
      },
      last ∙ sym (had.pieces []) ∙ ap (λ (list : List Line). texts_of old ++ pieces_in None list) (append-nil had.lines),
    )

-- pieces in another order
pub in_order : (text : List ℕ) (none pushed sorted : List Piece) → none ≡ []
    → (texts : List (List ℕ)) × ArePieces text texts × (texts_of pushed ≡ texts_of none ++ texts) → IsPermutation pushed sorted
    → (texts : List (List ℕ)) × ArePieces text texts × IsPermutation texts (texts_of sorted)
in_order text none pushed sorted empty made same =
    let are : texts_of pushed ≡ made.0 = made.2 ∙ ap (λ (list : List Piece). texts_of list ++ made.0) empty in (
      made.0,
      made.1,
      subst (λ (list : List (List ℕ)). IsPermutation list (texts_of sorted)) are
          (IsPermutation-map (λ (piece : Piece). piece.text.now) pushed sorted same),
    )

-- What the pieces of a text are while they are taken from it.
use Rattle.std.specs.Prelude.{ℕ, ◌||◌, ◌≡◌, List, Option, Some, None, map, option_map, true}
use Rattle.std.specs.List.{slice_range}
use Rattle.nms_verdicts.specs.Pieces.{begins_with}
use Rattle.nms_verdicts.specs.declared.pieces.Begun.{Begun}
use Rattle.nms_verdicts.specs.declared.pieces.Piece.{Piece}

-- the texts of pieces
abbrev pub texts_of : List Piece → List (List ℕ)
texts_of pieces = map (λ piece. piece.text.now) pieces

-- the bytes of the piece that has begun, up to a place of the text
abbrev pub begun_text : List ℕ → ℕ → Option Begun → Option (List ℕ)
begun_text text end begun = option_map (λ it. slice_range text it.start end) begun

-- where the piece that has begun does; a place if none has
abbrev pub start_of : ℕ → Option Begun → ℕ
start_of place None = place
start_of place (Some begun) = begun.start

-- a text begins with the end of a line
abbrev pub IsEnd : List ℕ → Type 0
IsEnd text = (begins_with 10 text || begins_with 13 text) ≡ true

-- The records of the rows that an execution traded through.
use Rattle.std.proofs.Common.{ℕ, Bool, true, false, drop, if◌then◌else◌, suc, ◌≡◌, ◌+◌, List, [], ◌∷◌, ◌++◌, length, refl, sym, ap, ◌∙◌}
use Rattle.std.proofs.Common.{append_assoc, arith}
use Rattle.std.proofs.lemmas.Bool.{false≢true}
use Rattle.std.proofs.lemmas.List.{append-nil}
use Rattle.nms_quote.specs.Roster.{Listing}
use Rattle.nms_quote.specs.declared.side_quote.Side.{Side}
use Rattle.nms_board.specs.declared.row.Row.{Row}
use Rattle.nms_trades.specs.Counts.{flickers_at}
use Rattle.nms_trades.specs.Causes.{word_of}
use Rattle.nms_trades.specs.Lines.{joined_or_none, next_word, records_of_row, row_records}
use Rattle.nms_trades.specs.declared.cause.Cause.{Cause}
use Rattle.nms_trades.specs.declared.execution.Execution.{Execution}
use Rattle.nms_trades.specs.declared.finding.Finding.{Finding}

-- one row more comes last
pub row_records-more : (roster : Listing) (execution : Execution) (finding : Finding) (place : ℕ) (before : List (Side × Row))
    (one : Side × Row)
    → row_records roster execution finding place (before ++ one ∷ [])
    ≡ row_records roster execution finding place before
    ++ records_of_row roster execution one.0 one.1 (flickers_at finding (place + length before))
unfolding row_records
row_records-more roster execution finding place [] one =
    append-nil (records_of_row roster execution one.0 one.1 (flickers_at finding place))
    ∙ ap (λ at. records_of_row roster execution one.0 one.1 (flickers_at finding at)) (omega arith)
row_records-more roster execution finding place (first ∷ before) one =
    let own = records_of_row roster execution first.0 first.1 (flickers_at finding place) in
    ap (λ more. own ++ more) (row_records-more roster execution finding (suc place) before one)
    ∙ sym (append_assoc own (row_records roster execution finding (suc place) before)
    (records_of_row roster execution one.0 one.1 (flickers_at finding (suc place + length before))))
    ∙ ap (λ at. (own ++ row_records roster execution finding (suc place) before)
    ++ records_of_row roster execution one.0 one.1 (flickers_at finding at))
    (omega arith)

-- whether a text has a byte
abbrev pub is_some : List ℕ → Bool
is_some [] = false
is_some (x ∷ xs) = true

-- one cause more comes last
pub words-more : (words : List ℕ) (does : Bool) (cause : Cause)
    → drop 1 (words ++ (if does then 43 ∷ word_of cause else [])) ≡ drop 1 words ++ next_word (is_some words) does cause
words-more [] false cause = refl
words-more [] true cause = refl
words-more (x ∷ xs) false cause = refl
words-more (x ∷ xs) true cause = refl

pub some-more : (words : List ℕ) (does : Bool) (cause : Cause)
    → is_some (words ++ (if does then 43 ∷ word_of cause else [])) ≡ (if does then true else is_some words)
some-more [] false cause = refl
some-more [] true cause = refl
some-more (x ∷ xs) false cause = refl
some-more (x ∷ xs) true cause = refl

-- if there is a word, the text is that of the words
pub joined_some : (words : List ℕ) → is_some words ≡ true → joined_or_none words ≡ drop 1 words
joined_some [] e = absurd (false≢true e)
joined_some (x ∷ xs) e = refl

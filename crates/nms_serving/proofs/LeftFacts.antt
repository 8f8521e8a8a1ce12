-- What the end of a process leaves of an epoch's two files: where they are cut, and what is before the cut.
use Rattle.std.proofs.Common.{ℕ, ◌≡◌, ◌+◌, ◌-◌, ◌<◌, ◌≤◌, ◌==◌, true, List, All, ◌++◌, Option, Some, None, Bor}
use Rattle.std.proofs.Common.{sym, ap, subst, ◌∙◌, arith, drop, length, length-append, length-drop, option_map, take, lit<}
use Rattle.std.proofs.lemmas.Fmt.{length-decimal-le}
use Rattle.std.proofs.lemmas.List.{length-take-le, take_at}
use Rattle.std.proofs.lemmas.List.Elements.{All-take}
use Rattle.std.specs.Fmt.{decimal}
use Rattle.std.specs.List.{list_any}
use Rattle.nms_quote.specs.Roster.{Listing}
use Rattle.nms_quote.specs.Tape.{Tape, version}
use Rattle.nms_quote.specs.declared.TheConstants.{MOST_CHANGES}
use Rattle.nms_quote.specs.declared.change.Change.{Change}
use Rattle.nms_fees.specs.Settings.{Settings}
use Rattle.nms_change_text.specs.ChangeText.{changes_text}
use Rattle.nms_change_text.specs.ReadBack.{FitsRecord}
use Rattle.nms_serving.specs.Resuming.{AreListed, IsLeft, after_lines, lines_begun, most_behind}
use Rattle.nms_serving.specs.declared.resuming.Listed.{Listed}
use Rattle.nms_serving.specs.declared.resuming.TheConstants.{MOST_DIGITS}
use Rattle.nms_serving.proofs.LineFacts.{begun_part, first_unbroken}
use Rattle.nms_serving.proofs.ResumeFacts.{decimal_unbroken, listed_at}

-- the text of changes has a line for each
pub record HasLines (roster : Listing) : Type 0 where
  pub behind : (changes : List Change) (rest : List ℕ) → after_lines (length changes) (changes_text roster changes ++ rest) ≡ Some rest
  pub begun : (changes : List Change) → lines_begun true (changes_text roster changes) ≡ length changes

pub has_lines : (listing roster : Listing) → listing ≡ roster → HasLines listing → HasLines roster
has_lines listing roster same lines = subst HasLines same lines

pub tape_limit_within : (limit given : ℕ) → given ≡ limit → given ≤ MOST_CHANGES → limit ≤ MOST_CHANGES
tape_limit_within limit given is high = omega (arith, is, high)

-- ---- what the functions answered

pub parts_listed : (met : Option Listed) (found : Listed) (published end : ℕ) → met ≡ Some found → met ≡ listed_at published end
    → (found.length ≡ published) × (found.end ≡ end)
parts_listed met found published end is listed =
    let same : Some found ≡ listed_at published end = sym is ∙ listed in
    let inner : found ≡ record { length = published; end = end } = cc in
    (ap (λ (l : Listed). l.length) inner, ap (λ (l : Listed). l.end) inner)

pub rest_none : (met : Option (Bor (List ℕ))) (count published : ℕ) (text behind : List ℕ)
    → option_map (λ rest. rest.now) met ≡ after_lines count text → count ≡ published → after_lines published text ≡ Some behind
    → met ≡ None → ⊥
rest_none met count published text behind gave same after none =
    let nothing : None ≡ Some behind =
    ap (option_map (λ (rest : Bor (List ℕ)). rest.now)) (sym none) ∙ gave ∙ ap (λ (n : ℕ). after_lines n text) same ∙ after in
    absurd (cc)

pub rest_some : (met : Option (Bor (List ℕ))) (rest : Bor (List ℕ)) (count published : ℕ) (text behind : List ℕ)
    → option_map (λ left. left.now) met ≡ after_lines count text → count ≡ published → after_lines published text ≡ Some behind
    → met ≡ Some rest → rest.now ≡ behind
rest_some met rest count published text behind gave same after is =
    let some : Some rest.now ≡ Some behind =
    ap (option_map (λ (left : Bor (List ℕ)). left.now)) (sym is) ∙ gave ∙ ap (λ (n : ℕ). after_lines n text) same ∙ after in
    cc

-- ---- what is left

module _ (settings : Settings) (tape : Tape) (lengths : List ℕ) (published : ℕ) (text listed : List ℕ)
    (left : IsLeft settings tape lengths published text listed) where
  -- the lengths are read up to the last complete line
  pub are_listed : settings.tape_limit ≤ MOST_CHANGES → AreListed lengths published left.torn listed
  are_listed limit =
      let short : length (decimal left.next) ≤ MOST_DIGITS =
      length-decimal-le MOST_DIGITS left.next (lit< tt) (omega (arith, left.possible)) (omega (arith, left.possible)) in
      record {
        rising = left.rising;
        possible = omega (arith, left.within, left.limit, limit);
        part = (first_unbroken left.torn left.unlisted
            (record { none = ap (list_any (λ byte. byte == 10)) (sym left.begun) ∙ (decimal_unbroken left.next).none })).none;
        short = omega (arith, short, ap length left.begun, length-append left.torn left.unlisted);
        lines = left.lines;
      }

  pub many_shown : length (version published tape) ≡ published
  many_shown = length-take-le published tape left.within

  -- the tape's text has a line for each change that was published, and then the rest
  pub after_shown : HasLines settings.roster → after_lines published text ≡ Some left.behind
  after_shown lines =
      ap (λ (n : ℕ). after_lines n text) (sym many_shown) ∙ ap (after_lines (length (version published tape))) left.recorded
      ∙ lines.behind (version published tape) left.behind

  -- no more lines of it begin than may
  pub few_behind : HasLines settings.roster → lines_begun true left.behind ≤ most_behind settings.roster published
  few_behind lines = omega (
    arith,
    begun_part true left.behind left.unwritten,
    ap (lines_begun true) left.parted,
    lines.begun (drop published tape),
    length-drop published tape,
    left.within,
    left.few,
  )

  -- before it is the text of those changes
  pub text_shown : (end : ℕ) → end ≡ length text - length left.behind
      → (end ≡ length (changes_text settings.roster (version published tape)))
      × (take end text ≡ changes_text settings.roster (version published tape))
  text_shown end is =
      let whole : length text ≡ length (changes_text settings.roster (version published tape)) + length left.behind =
      ap length left.recorded ∙ length-append (changes_text settings.roster (version published tape)) left.behind in
      let at : end ≡ length (changes_text settings.roster (version published tape)) = omega (arith, is, whole) in (
        at,
        ap (take end) left.recorded ∙ take_at (changes_text settings.roster (version published tape)) left.behind end (sym at),
      )

  pub fits_shown : All (FitsRecord settings.roster) (version published tape)
  fits_shown = All-take (FitsRecord settings.roster) published tape left.fits

  pub limit_shown : length (version published tape) ≤ settings.tape_limit
  limit_shown = omega (arith, many_shown, left.within, left.limit)

-- The lines of a text of times, read one after another.
use Rattle.std.proofs.Common.{ℕ, ◌≡◌, ◌<◌, ◌≤◌, ◌+◌, ◌*◌, ◌-◌, ◌/◌, ◌%◌, ◌==◌, false, List, [], ◌∷◌, ◌++◌, length, take, drop}
use Rattle.std.proofs.Common.{arith, refl, sym, ap, subst, ◌∙◌, Some, None, IsSome, slice_index, below_more, length-drop}
use Rattle.std.proofs.lemmas.Bool.Decides.{nat_tests}
use Rattle.std.proofs.lemmas.List.{length-take, get_or_append_left, get_or_push}
use Rattle.std.proofs.lemmas.Nat.{div-add-mod', mod_below}
use Rattle.nms_times.specs.TimesText.{HasTimes, IsFirstWrong, line_at, time_at, time_in, width_of}

-- the first lines of a text have these times
abbrev pub HasFirst : (width : ℕ) (text times : List ℕ) (lines : ℕ) → Type 0
HasFirst width text times lines =
    (place : ℕ) → place < lines → time_in width (line_at width text place) ≡ Some (slice_index times place)

-- one more line with its time
pub one_more : (width : ℕ) (text times : List ℕ) (lines t : ℕ) → length times ≡ lines → HasFirst width text times lines
    → time_in width (line_at width text lines) ≡ Some t → HasFirst width text (times ++ t ∷ []) (lines + 1)
one_more width text times lines t long read this =
    below_more _ _
    (λ k h. let inside : k < length times = omega arith in read k h ∙ ap Some (sym (get_or_append_left times (t ∷ []) 0 k inside)))
    (this ∙ ap Some (sym (get_or_push times t 0 lines long)))

-- a line that is cut off has no time
pub cut_line : (width : ℕ) (text : List ℕ) (place : ℕ) → 0 < width → length text < place * width + width
    → time_in width (line_at width text place) ≡ None
cut_line width text place wide short =
    let all = length-take width (drop (place * width) text) in
    let rest = length-drop (place * width) text in
    let below : length (take width (drop (place * width) text)) < width = omega (arith, all, rest) in
    let other : (length (take width (drop (place * width) text)) == width) ≡ false = grind (arith, nat_tests) in
    rw other refl

-- if no complete line is left, fewer bytes than a line are left
pub last_lines : (long width : ℕ) → 0 < width → (long / width * width ≤ long) × (long < long / width * width + width)
last_lines long width wide =
    let whole = div-add-mod' long width in
    let rest = mod_below long width wide in
    (omega (arith, whole, rest), omega (arith, whole, rest))

-- all lines have been read, and none is cut off
pub has_times : (text times : List ℕ) (width lines : ℕ) → width ≡ width_of text → length text ≡ lines * width
    → length times ≡ lines → HasFirst width text times lines → HasTimes text times
has_times text times width lines same long counted read = record {
  whole = long ∙ ap (λ n. n * width) (sym counted) ∙ ap (λ w. length times * w) same;
  each = λ place h. subst (λ w. time_in w (line_at w text place) ≡ Some (slice_index times place)) same (read place (omega arith));
}

-- a line after those that were read has no time
pub first_wrong : (text times : List ℕ) (width lines : ℕ) → width ≡ width_of text → lines * width < length text
    → HasFirst width text times lines → time_in width (line_at width text lines) ≡ None → IsFirstWrong text (lines + 1)
first_wrong text times width lines same there read wrong = record {
  place = lines;
  counted = refl;
  there = subst (λ w. lines * w < length text) same there;
  wrong = subst (λ w. time_in w (line_at w text lines) ≡ None) same wrong;
  first = λ earlier h.
      subst IsSome (sym (subst (λ w. time_in w (line_at w text earlier) ≡ Some (slice_index times earlier)) same (read earlier h))) refl;
}

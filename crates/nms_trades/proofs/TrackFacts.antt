-- Versions whose limits a track's marks have.
use Rattle.std.proofs.Common.{ℕ, ◌≡◌, ◌≢◌, ◌+◌, ◌-◌, ◌<◌, ◌≤◌, ◌||◌, zero, suc, Bool, true, false, List, [], ◌∷◌, ◌++◌, get_or, length}
use Rattle.std.proofs.Common.{slice_get, Option, Some, arith, inl, inr, refl, length-append, sym, ap, subst, ◌∙◌}
use Rattle.std.proofs.lemmas.Bool.{cases_lt, cases_eq}
use Rattle.std.proofs.lemmas.List.{get_or_append_left, get_or_default, get_or_push}
use Rattle.std.proofs.lemmas.Option.{slice_get-get_or, slice_get_past, slice_get_read}
use Rattle.std.specs.Prelude.{OnOk, Result, slice_set}
use Rattle.nms_board.specs.Cells.{place_of}
use Rattle.nms_board.proofs.Offered.{slice_get-set_same}
use Rattle.nms_trades.proofs.OkFacts.{map_ok}
use Rattle.std.specs.List.{list_any, range_with_len}
use Rattle.std.specs.Option.{SomeIff}
use Rattle.nms_trades.specs.Around.{any_version}
use Rattle.nms_trades.specs.Track.{AreNoted, HasTrack, IsMarked, IsNoted, IsTrack, holds_of, mark_at}
use Rattle.nms_trades.specs.declared.track.Limits.{Limits}
use Rattle.nms_trades.specs.declared.track.Mark.{Mark}
use Rattle.nms_trades.specs.declared.track.Test.{Test}
use Rattle.nms_trades.specs.declared.track.Track.{Track}

-- some of the numbers from one on passes
pub any_from-true : (test : ℕ → Bool) (a count n : ℕ) → a ≤ n → n < a + count → test n ≡ true
    → list_any test (range_with_len a count) ≡ true
any_from-true test a zero n low high passes = absurd (no_room a n low high)
  where
    no_room : (a n : ℕ) → a ≤ n → n < a + zero → ⊥
    no_room a n low high = omega arith
any_from-true test a (suc count) n low high passes = elim (cases_eq n a) [
  | inl same ↦ let first : test a ≡ true = subst (λ k. test k ≡ true) same passes in rw first refl
  | inr other ↦ by_first (test a) (any_from-true test (a + 1) count n (omega arith) (omega arith) passes)
]
  where
    by_first : (b : Bool) → list_any test (range_with_len (a + 1) count) ≡ true → (b || list_any test (range_with_len (a + 1) count)) ≡ true
    by_first true rest = refl
    by_first false rest = rest

-- none of them does
pub any_from-false : (test : ℕ → Bool) (a count : ℕ) → ((n : ℕ) → a ≤ n → n < a + count → test n ≡ false)
    → list_any test (range_with_len a count) ≡ false
any_from-false test a zero none = refl
any_from-false test a (suc count) none =
    let first : test a ≡ false = none a (omega arith) (omega arith) in
    rw first (any_from-false test (a + 1) count (λ n low high. none n (omega arith) (omega arith)))

-- the same of versions
pub some_version : (test : ℕ → Bool) (first last n : ℕ) → first ≤ n → n ≤ last → test n ≡ true → any_version test first last ≡ true
some_version test first last n low high passes = any_from-true test first (last + 1 - first) n low (omega arith) passes

pub no_version : (test : ℕ → Bool) (first last : ℕ) → ((n : ℕ) → first ≤ n → n ≤ last → test n ≡ false)
    → any_version test first last ≡ false
no_version test first last none = any_from-false test first (last + 1 - first) (λ n low high. none n low (omega arith))

-- one more version has the limits of the last mark
pub track_stays : (all : ℕ → Limits) (upto : ℕ) (marks : List Mark) → IsTrack all upto marks → all (upto + 1) ≡ all upto
    → IsTrack all (upto + 1) marks
track_stays all upto marks is same = record {
  some = is.some;
  starts = is.starts;
  rising = is.rising;
  within = λ k below. let w = is.within k below in omega (arith, is.within k below);
  holds = λ k n below low high next. elim (cases_eq n (upto + 1)) [
    | inl last ↦
        ap all last ∙ same ∙ is.holds k upto below (is.within k below) (omega arith) (λ more. let h = next more in omega (arith, next more))
    | inr other ↦ is.holds k n below low (omega arith) next
  ];
}

-- one more version has the limits of one more mark
pub track_more : (all : ℕ → Limits) (upto : ℕ) (marks : List Mark) (mark : Mark) → IsTrack all upto marks → mark.version ≡ upto + 1
    → all (upto + 1) ≡ mark.limits → IsTrack all (upto + 1) (marks ++ mark ∷ [])
track_more all upto marks mark is counted has = record {
  some = omega (arith, longer);
  starts = ap (λ (m : Mark). m.version) (left 0 is.some) ∙ is.starts;
  rising = rising;
  within = within;
  holds = holds;
}
  where
    longer : length (marks ++ mark ∷ []) ≡ length marks + 1
    longer = length-append marks (mark ∷ [])

    left : (k : ℕ) → k < length marks → mark_at (marks ++ mark ∷ []) k ≡ mark_at marks k
    left k below = get_or_append_left marks (mark ∷ []) _ k below

    end : (k : ℕ) → k ≡ length marks → mark_at (marks ++ mark ∷ []) k ≡ mark
    end k same = get_or_push marks mark _ k (sym same)

    rising : (k : ℕ) → k + 1 < length (marks ++ mark ∷ [])
        → (mark_at (marks ++ mark ∷ []) k).version < (mark_at (marks ++ mark ∷ []) (k + 1)).version
    rising k below = elim (cases_lt (k + 1) (length marks)) [
      | inl inside ↦ rw (left k (omega arith), left (k + 1) inside) (is.rising k inside)
      | inr last ↦
          let here : k < length marks = omega (arith, longer) in
          rw (left k here, end (k + 1) (omega (arith, longer))) (omega (arith, is.within k here))
    ]

    within : (k : ℕ) → k < length (marks ++ mark ∷ []) → (mark_at (marks ++ mark ∷ []) k).version ≤ upto + 1
    within k below = elim (cases_lt k (length marks)) [
      | inl inside ↦ rw (left k inside) (omega (arith, is.within k inside))
      | inr last ↦ rw (end k (omega (arith, longer))) (omega arith)
    ]

    holds : (k n : ℕ) → k < length (marks ++ mark ∷ []) → (mark_at (marks ++ mark ∷ []) k).version ≤ n → n ≤ upto + 1
        → (k + 1 < length (marks ++ mark ∷ []) → n < (mark_at (marks ++ mark ∷ []) (k + 1)).version)
        → all n ≡ (mark_at (marks ++ mark ∷ []) k).limits
    holds k n below low high next = elim (cases_lt k (length marks)) [
      | inl inside ↦
          let from : (mark_at marks k).version ≤ n = rw (left k inside) at low in
          let before : n < (mark_at (marks ++ mark ∷ []) (k + 1)).version = next (omega (arith, longer)) in
          elim (cases_lt (k + 1) (length marks)) [
            | inl more ↦
                let before_next : n < (mark_at marks (k + 1)).version = rw (left (k + 1) more) at before in
                rw (left k inside)
                (is.holds k n inside from (omega (arith, is.within (k + 1) more)) (λ _. before_next))
            | inr last ↦
                let before_mark : n < mark.version = rw (end (k + 1) (omega (arith, longer))) at before in
                rw (left k inside) (is.holds k n inside from (omega arith) (λ more. absurd (no_more k more last)))
          ]
      | inr last ↦
          let from : mark.version ≤ n = rw (end k (omega (arith, longer))) at low in
          let same : n ≡ upto + 1 = omega arith in
          rw (end k (omega (arith, longer))) (ap all same ∙ has)
    ]
      where
        no_more : (k : ℕ) → k + 1 < length marks → length marks ≤ k + 1 → ⊥
        no_more k more last = omega arith

-- limits that are the same up to a version have the same track
pub track_same : (all other : ℕ → Limits) (upto : ℕ) (marks : List Mark) → ((n : ℕ) → n ≤ upto → other n ≡ all n)
    → IsTrack all upto marks → IsTrack other upto marks
track_same all other upto marks same is = record {
  some = is.some;
  starts = is.starts;
  rising = is.rising;
  within = is.within;
  holds = λ k n below low high next. same n high ∙ is.holds k n below low high next;
}

-- a mark of one more version
pub marked : (version : ℕ) (limits : Limits) (marks : List Mark)
    → IsMarked version limits marks (marks ++ record { version = version; limits = limits } ∷ [])
marked version limits marks all upto is counted has =
    subst (λ n. IsTrack all n (marks ++ record { version = version; limits = limits } ∷ [])) (sym counted)
    (track_more all upto marks (record { version = version; limits = limits }) is counted (ap all (sym counted) ∙ has))

-- no mark, if the last one has these limits
unmarked_at : (version : ℕ) (limits : Limits) (marks : List Mark) → 0 < length marks → (mark_at marks (length marks - 1)).limits ≡ limits
    → IsMarked version limits marks marks
unmarked_at version limits marks some last all upto is counted has =
    let at_last : all upto ≡ (mark_at marks (length marks - 1)).limits =
    is.holds (length marks - 1) upto (omega arith) (is.within (length marks - 1) (omega arith)) (omega arith) (λ more. absurd
    (no_next more)) in
    subst (λ n. IsTrack all n marks) (sym counted)
    (track_stays all upto marks is (ap all (sym counted) ∙ has ∙ sym last ∙ sym at_last))
  where
    no_next : length marks - 1 + 1 < length marks → ⊥
    no_next more = omega arith

-- the same of the last one as it is read
pub unmarked : (version : ℕ) (limits : Limits) (marks : List Mark) (count : ℕ) (last : Mark) → count ≡ length marks → 0 < count
    → last ≡ get_or marks (count - 1) last → last.limits ≡ limits → IsMarked version limits marks marks
unmarked version limits marks count last counted some is same =
    let read : last ≡ mark_at marks (length marks - 1) =
    is ∙ ap (λ k. get_or marks (k - 1) last) counted ∙ get_or_default marks (length marks - 1) last _ (omega arith) in
    unmarked_at version limits marks (omega arith) (ap (λ (m : Mark). m.limits) (sym read) ∙ same)

-- a track whose marks are marked is noted
pub noted_track : (version : ℕ) (limits : Limits) (was now : Track) → IsMarked version limits was.marks.items now.marks.items
    → IsNoted version limits (Some was) (Some now)
noted_track version limits was now is = is

-- a mark whose limits pass a test gives a version that does
pub found_at : (all : ℕ → Limits) (upto : ℕ) (marks : List Mark) (test : Test) (millionths first last k : ℕ) → IsTrack all upto marks
    → last ≤ upto → first ≤ last → k < length marks → (mark_at marks k).version ≤ last
    → (k + 1 < length marks → first < (mark_at marks (k + 1)).version) → holds_of test millionths (mark_at marks k).limits ≡ true
    → any_version (λ n. holds_of test millionths (all n)) first last ≡ true
found_at all upto marks test millionths first last k is within order below low next passes =
    elim (cases_lt first (mark_at marks k).version) [
      | inl later ↦
          let same = is.holds k (mark_at marks k).version below (omega arith) (omega arith) (λ more. is.rising k more) in
          some_version (λ n. holds_of test millionths (all n)) first last (mark_at marks k).version (omega arith) low
          (ap (holds_of test millionths) same ∙ passes)
      | inr begun ↦
          let same = is.holds k first below begun (omega arith) next in
          some_version (λ n. holds_of test millionths (all n)) first last first (omega arith) order
          (ap (holds_of test millionths) same ∙ passes)
    ]

-- no version before that of the next mark passes
pub none_more : (all : ℕ → Limits) (upto : ℕ) (marks : List Mark) (test : Test) (millionths first last k : ℕ) → IsTrack all upto marks
    → last ≤ upto → k < length marks
    → ((n : ℕ) → first ≤ n → n ≤ last → (k < length marks → n < (mark_at marks k).version) → holds_of test millionths (all n) ≡ false)
    → holds_of test millionths (mark_at marks k).limits ≡ false
    → (n : ℕ) → first ≤ n → n ≤ last → (k + 1 < length marks → n < (mark_at marks (k + 1)).version)
    → holds_of test millionths (all n) ≡ false
none_more all upto marks test millionths first last k is within below none fails n low high next =
    elim (cases_lt n (mark_at marks k).version) [
      | inl before ↦ none n low high (λ _. before)
      | inr from ↦ ap (holds_of test millionths) (is.holds k n below from (omega arith) next) ∙ fails
    ]

-- the same of the track at a place
pub noted_there : {T E : Type 0} (r : Result T E) (version : ℕ) (limits : Limits) (tracks : List Track) (place : ℕ) (was now : Track)
    → place < length tracks → was ≡ get_or tracks place was → OnOk r (IsMarked version limits was.marks.items now.marks.items)
    → OnOk r (IsNoted version limits (slice_get tracks place) (slice_get (slice_set tracks place now) place))
noted_there r version limits tracks place was now below is marks =
    let there : slice_get tracks place ≡ Some was = slice_get_read tracks (length tracks) place was refl below is in
    rw (there, slice_get-set_same tracks place was now there) (map_ok r (noted_track version limits was now) marks)

-- a place that has a track is one of the list
pub has_within : (all : ℕ → Limits) (upto : ℕ) (tracks : List Track) (place : ℕ) → HasTrack all upto (slice_get tracks place)
    → place < length tracks
has_within all upto tracks place has = elim (cases_lt place (length tracks)) [
  | inl below ↦ below
  | inr past ↦ absurd (subst (HasTrack all upto) (slice_get_past tracks place past) has)
]

-- its track
pub has_at : (all : ℕ → Limits) (upto : ℕ) (tracks : List Track) (place : ℕ) (track : Track) → HasTrack all upto (slice_get tracks place)
    → slice_get tracks place ≡ Some track → IsTrack all upto track.marks.items
has_at all upto tracks place track has at = subst (HasTrack all upto) at has

-- what a number that is tested for a bound is
pub some_is : (found : Option ℕ) (P : Type 0) (n value : ℕ) → SomeIff found P n → found ≡ Some value → value ≡ n
some_is found P n value is at = (subst (λ (o : Option ℕ). SomeIff o P n) at is).1

-- a participant has one place in each symbol
pub one_sym : (part s t : ℕ) → place_of part s ≡ place_of part t → s ≡ t
one_sym part s t same = omega arith

-- a symbol has one place for each participant
pub one_part : (symbol p q : ℕ) → place_of p symbol ≡ place_of q symbol → p ≡ q
one_part symbol p q same = omega arith

-- at first none is noted
pub noted_first : (place : ℕ → ℕ) (version : ℕ) (limits : ℕ → Limits) (tracks : List Track)
    → AreNoted place version limits 0 tracks tracks
noted_first place version limits tracks = record {
  places = refl;
  noted = λ k below. absurd (none_below k below);
  others = λ other apart. refl;
}
  where
    none_below : (k : ℕ) → k < 0 → ⊥
    none_below k below = omega arith

-- one more is noted
pub noted_more : (place : ℕ → ℕ) (version : ℕ) (limits : ℕ → Limits) (count : ℕ) (was mid now : List Track)
    → ((i j : ℕ) → place i ≡ place j → i ≡ j) → AreNoted place version limits count was mid → length now ≡ length mid
    → IsNoted version (limits count) (slice_get mid (place count)) (slice_get now (place count))
    → ((other : ℕ) → other ≢ place count → slice_get now other ≡ slice_get mid other)
    → AreNoted place version limits (count + 1) was now
noted_more place version limits count was mid now one before same own others = record {
  places = same ∙ before.places;
  noted = λ k below. elim (cases_eq k count) [
    | inl last ↦
        subst (λ i. IsNoted version (limits i) (slice_get was (place i)) (slice_get now (place i))) (sym last)
        (subst (λ (t : Option Track). IsNoted version (limits count) t (slice_get now (place count)))
        (before.others (place count) (λ i less at. not_less i less (one i count at))) own)
    | inr other ↦
        subst (λ (t : Option Track). IsNoted version (limits k) (slice_get was (place k)) t)
        (sym (others (place k) (λ at. other (one k count at))))
        (before.noted k (omega arith))
  ];
  others = λ other apart.
      others other (λ at. apart count (omega arith) (sym at)) ∙ before.others other (λ k below. apart k (omega arith));
}
  where
    not_less : (i : ℕ) → i < count → i ≡ count → ⊥
    not_less i less at = omega arith

-- one track more
pub has_push : (all : ℕ → Limits) (tracks : List Track) (track : Track)
    → ((place : ℕ) → place < length tracks → HasTrack all 0 (slice_get tracks place)) → IsTrack all 0 track.marks.items
    → (place : ℕ) → place < length tracks + 1 → HasTrack all 0 (slice_get (tracks ++ track ∷ []) place)
has_push all tracks track each is place below =
    let there = slice_get-get_or (tracks ++ track ∷ []) place track (omega (arith, length-append tracks (track ∷ []))) in
    elim (cases_lt place (length tracks)) [
      | inl earlier ↦
          let same : slice_get (tracks ++ track ∷ []) place ≡ slice_get tracks place =
          there ∙ ap Some (get_or_append_left tracks (track ∷ []) track place earlier) ∙ sym
          (slice_get-get_or tracks place track earlier) in
          subst (HasTrack all 0) (sym same) (each place earlier)
      | inr last ↦
          let same : slice_get (tracks ++ track ∷ []) place ≡ Some track =
          there ∙ ap Some (get_or_push tracks track track place (omega arith)) in
          subst (HasTrack all 0) (sym same) is
    ]

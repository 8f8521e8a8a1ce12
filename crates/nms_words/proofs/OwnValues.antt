-- Whatever the arguments are, each own word that the parser has met has a value.
use Rattle.std.proofs.Common.{◌≡◌, ◌∙◌, ◌&&◌, ◌||◌, ℕ, zero, suc, Bool, true, false, not, List, [], ◌∷◌, Option, Some, None, find, fold}
use Rattle.std.proofs.Common.{is_some, refl, sym, ap, cond}
use Rattle.std.specs.List.{list_all}
use Rattle.std.specs.Str.{bytes_eq, chars}
use Rattle.std.specs.Prelude.{length, slice_get}
use Rattle.std.proofs.lemmas.Bool.{and_parts, not-true}
use Rattle.std.proofs.lemmas.Slice.Eq.{bytes_eq-Decides}
use Rattle.clap.specs.Lexer.{long_of, short_of}
use Rattle.clap.specs.Walk.{Held, Names, Outcome, Row, Rule, Step, Text, Waiting, Walk, after_flag, after_step, arg_by_id, arg_by_index}
use Rattle.clap.specs.Walk.{arg_by_long, arg_by_short, attached_value, bundle_met, bundle_step, done, flag_met, has_long, has_short, idle}
use Rattle.clap.specs.Walk.{is_pending, long_met, long_or_other, next, nothing_held, option, option_met, option_word, plain, plain_word}
use Rattle.clap.specs.Walk.{positional, positional_held, pushed, reacted, refused, rows_after, settled, settled_rows, short_met}
use Rattle.clap.specs.Walk.{short_or_plain, subcommand, subcommand_met, subcommand_or_other, takes_several, takes_values, to_positional}
use Rattle.clap.specs.Walk.{trailing, used_by_id, value, waits, walk, walk_from, walked, walked_from, word_met}
use Rattle.nms_words.proofs.OwnRows.{Filled, Fits, defaults_filled, one_last, used_filled}

-- which ids are of own words
module _ (own : Text → Bool) where
  abbrev pub Pending : Option (Text × List Text) → Type 0
  Pending None = Unit {0}
  Pending (Some p) = Fits own p.0 p.1

  abbrev pub Holds : Held → Type 0
  Holds h = Filled own h.rows × Pending h.pending

  -- what a word reaches by a flag is no own word
  abbrev pub is_flag_or_own : Rule → Bool
  is_flag_or_own a = is_some a.index || not (own a.id)

  flag_found : (rules : List Rule) (p : Rule → Bool) → list_all is_flag_or_own rules ≡ true → (a : Rule)
      → find (λ r. not (is_some r.index) && p r) rules ≡ Some a → own a.id ≡ false
  flag_found [] p flags a found = cc
  flag_found (r ∷ rs) p flags a found =
      let both = and_parts (is_flag_or_own r) (list_all is_flag_or_own rs) flags in
      go (is_some r.index) (p r) both.0 (flag_found rs p both.1 a) found
    where
      go : (b q : Bool) → (b || not (own r.id)) ≡ true → (find (λ x. not (is_some x.index) && p x) rs ≡ Some a → own a.id ≡ false)
          → cond (not b && q) (Some r) (find (λ x. not (is_some x.index) && p x) rs) ≡ Some a → own a.id ≡ false
      go true q test later e = later e
      go false false test later e = later e
      go false true test later e = let same : r ≡ a = cc in ap (λ (x : Rule). own x.id) (sym same) ∙ not-true (own r.id) test

  id_found : (rules : List Rule) (id : Text) (a : Rule) → find (λ r. bytes_eq r.id id) rules ≡ Some a → a.id ≡ id
  id_found [] id a found = cc
  id_found (r ∷ rs) id a found = go (bytes_eq r.id id) refl (id_found rs id a) found
    where
      go : (b : Bool) → bytes_eq r.id id ≡ b → (find (λ x. bytes_eq x.id id) rs ≡ Some a → a.id ≡ id)
          → cond b (Some r) (find (λ x. bytes_eq x.id id) rs) ≡ Some a → a.id ≡ id
      go true same later e = let is : r ≡ a = cc in ap (λ (x : Rule). x.id) (sym is) ∙ (bytes_eq-Decides r.id id).0 same
      go false same later e = later e

  no_own : (id : Text) (values : List Text) → own id ≡ false → Fits own id values
  no_own id values other = λ is. cc

  module _ (rules : List Rule) (flags : list_all is_flag_or_own rules ≡ true) where
    settled_rows_filled : (pending : Option (Text × List Text)) (rows : List Row) → Pending pending → Filled own rows
        → Filled own (settled_rows rules pending rows)
    settled_rows_filled None rows fits old = old
    settled_rows_filled (Some p) rows fits old = go (arg_by_id rules p.0) (id_found rules p.0)
      where
        go : (met : Option Rule) → ((a : Rule) → met ≡ Some a → a.id ≡ p.0) → Filled own (used_by_id met p.1 rows)
        go None found = old
        go (Some a) found = used_filled own a p.1 rows (λ is. fits (ap own (sym (found a refl)) ∙ is)) old

    settled_holds : (h : Held) → Holds h → Holds (settled rules h)
    settled_holds h holds = (settled_rows_filled h.pending h.rows holds.1 holds.0, tt)

    reacted_holds : (a : Rule) (values : List Text) (h : Held) → Fits own a.id values → Holds h → Holds (reacted rules a values h)
    reacted_holds a values h fits holds = (used_filled own a values _ fits (settled_holds h holds).0, tt)

    pushed_holds : (id word : Text) (h : Held) → Holds h → Holds (pushed id word h)
    pushed_holds id word h holds = (holds.0, λ _. one_last _ word)

    -- ---- flags

    option_holds : (a : Rule) (v : Option Text) (h : Held) → own a.id ≡ false → Holds h → Holds (option_met rules a v h).0
    option_holds a None h other holds = ((settled_holds h holds).0, no_own a.id [] other)
    option_holds a (Some v) h other holds = reacted_holds a (v ∷ []) h (no_own a.id (v ∷ []) other) holds

    flag_holds : (a : Rule) (v : Option Text) (h : Held) → own a.id ≡ false → Holds h → Holds (flag_met rules a v h).0
    flag_holds a None h other holds = reacted_holds a [] h (no_own a.id [] other) holds
    flag_holds a (Some v) h other holds = holds

    long_holds : (name : Text) (v : Option Text) (h : Held) → Holds h → Holds (long_met rules (arg_by_long rules name) v h).0
    long_holds name v h holds = go (arg_by_long rules name) (flag_found rules (λ r. has_long r name) flags)
      where
        choose : (a : Rule) (b : Bool) → own a.id ≡ false → Holds (cond b (option_met rules a v h) (flag_met rules a v h)).0
        choose a true other = option_holds a v h other holds
        choose a false other = flag_holds a v h other holds

        go : (met : Option Rule) → ((a : Rule) → met ≡ Some a → own a.id ≡ false) → Holds (long_met rules met v h).0
        go None other = holds
        go (Some a) other = choose a (takes_values a) (other a refl)

    short_holds : (x : ℕ) (rest : Text) (h : Held) (go_on : Held → Held × Outcome) → ((after : Held) → Holds after → Holds (go_on after).0)
        → Holds h
        → Holds (short_met rules (arg_by_short rules x) rest h go_on).0
    short_holds x rest h go_on keeps holds = go (arg_by_short rules x) (flag_found rules (λ r. has_short r x) flags)
      where
        choose : (a : Rule) (b : Bool) → own a.id ≡ false
            → Holds (cond b (option_met rules a (attached_value rest) h) (go_on (reacted rules a [] h))).0
        choose a true other = option_holds a (attached_value rest) h other holds
        choose a false other = keeps _ (reacted_holds a [] h (no_own a.id [] other) holds)

        go : (met : Option Rule) → ((a : Rule) → met ≡ Some a → own a.id ≡ false) → Holds (short_met rules met rest h go_on).0
        go None other = holds
        go (Some a) other = choose a (takes_values a) (other a refl)

    step_holds : (x : Option ℕ) (flags_left : Text) (skip : ℕ) (so_far : Outcome) (h : Held)
        (go_on : Text → ℕ → Outcome → Held → Held × Outcome)
        → ((text : Text) (n : ℕ) (o : Outcome) (after : Held) → Holds after → Holds (go_on text n o after).0) → Holds h
        → Holds (bundle_step rules x flags_left skip so_far h go_on).0
    step_holds None flags_left skip so_far h go_on keeps holds = holds
    step_holds (Some x) flags_left zero so_far h go_on keeps holds = short_holds x _ h _ (λ after is. keeps _ 0 done after is) holds
    step_holds (Some x) flags_left (suc skip) so_far h go_on keeps holds = keeps _ skip so_far h holds

    bundle_holds : (k : ℕ) (text : Text) (skip : ℕ) (so_far : Outcome) (h : Held) → Holds h
        → Holds (bundle_met rules k text skip so_far h).0
    unfolding bundle_met
    bundle_holds zero text skip so_far h holds = holds
    bundle_holds (suc k) text skip so_far h holds =
        step_holds (slice_get (chars text) 0) text skip so_far h (bundle_met rules k) (bundle_holds k) holds

    -- ---- words

    plain_holds : (waiting : Waiting) (word : Text) (h : Held) → Holds h → Holds (plain_word rules waiting word h).0
    plain_holds idle word h holds = holds
    plain_holds positional word h holds = holds
    plain_holds (option id) word h holds = go (arg_by_id rules id)
      where
        go : (met : Option Rule) → Holds (option_word met id word h).0
        go None = holds
        go (Some a) = pushed_holds id word h holds

    after_holds : (waiting : Waiting) (word : Text) (h : Held) (o : Outcome) → Holds h → Holds (after_flag rules waiting word h o).0
    after_holds waiting word h done holds = holds
    after_holds waiting word h (waits id) holds = holds
    after_holds waiting word h plain holds = plain_holds waiting word h holds
    after_holds waiting word h refused holds = plain_holds waiting word h holds

    short_word_holds : (waiting : Waiting) (word : Text) (flags_in : Option Text) (h : Held) → Holds h
        → Holds (short_or_plain rules waiting word flags_in h).0
    short_word_holds waiting word None h holds = plain_holds waiting word h holds
    short_word_holds waiting word (Some text) h holds =
        after_holds waiting word _ _ (bundle_holds (length text) text h.skip plain (record h { skip = 0 }) holds)

    long_word_holds : (waiting : Waiting) (word : Text) (long : Option (Text × Option Text)) (h : Held) → Holds h
        → Holds (long_or_other rules waiting word long h).0
    long_word_holds waiting word None h holds = short_word_holds waiting word (short_of word) h holds
    long_word_holds waiting word (Some p) h holds = after_holds waiting word _ _ (long_holds p.0 p.1 h holds)

    other_holds : (met : Option Text) (waiting : Waiting) (place : ℕ) (word : Text) (h : Held) → Holds h
        → Holds (subcommand_or_other rules met waiting place word h).0
    other_holds (Some name) waiting place word h holds = holds
    other_holds None waiting place word h holds = go (bytes_eq word (45 ∷ 45 ∷ []))
      where
        go : (b : Bool) → Holds (cond b (h, trailing place) (long_or_other rules waiting word (long_of word) h)).0
        go true = holds
        go false = long_word_holds waiting word (long_of word) h holds

    word_holds : (names : Names) (is_trailing : Bool) (waiting : Waiting) (place : ℕ) (word : Text) (h : Held) → Holds h
        → Holds (word_met rules names is_trailing waiting place word h).0
    word_holds names true waiting place word h holds = holds
    word_holds names false waiting place word h holds = other_holds (subcommand_met names waiting word) waiting place word h holds

    -- ---- the walk

    positional_holds : (a : Rule) (word : Text) (h : Held) → Holds h → Holds (positional_held rules a word h)
    positional_holds a word h holds = go (is_pending a h.pending && takes_several a)
      where
        go : (b : Bool) → Holds (pushed a.id word (cond b h (settled rules h)))
        go true = pushed_holds a.id word h holds
        go false = pushed_holds a.id word (settled rules h) (settled_holds h holds)

    to_holds : (met : Option Rule) (word : Text) (w : Walk) (h : Held) → Holds h → Holds (to_positional rules met word w h).held
    to_holds None word w h holds = holds
    to_holds (Some a) word w h holds = positional_holds a word h holds

    after_step_holds : (word : Text) (w : Walk) (h : Held) (s : Step) → Holds h → Holds (after_step rules word w h s).held
    after_step_holds word w h (next waiting) holds = holds
    after_step_holds word w h (trailing place) holds = holds
    after_step_holds word w h (subcommand name) holds = holds
    after_step_holds word w h value holds = to_holds (arg_by_index rules w.position) word w h holds

    walked_from_holds : (names : Names) (stop : Option (Text × List Text)) (w : Walk) (word : Text) → Holds w.held
        → Holds (walked_from rules names stop w word).held
    walked_from_holds names (Some p) w word holds = holds
    walked_from_holds names None w word holds =
        after_step_holds word w _ _ (word_holds names w.is_trailing w.waiting w.position word w.held holds)

    walked_holds : (names : Names) (w : Walk) (word : Text) → Holds w.held → Holds (walked rules names w word).held
    unfolding walked
    walked_holds names w word holds = walked_from_holds names w.stopped w word holds

    fold_holds : (names : Names) (w : Walk) (words : List Text) → Holds w.held → Holds (fold (walked rules names) w words).held
    fold_holds names w [] holds = holds
    fold_holds names w (word ∷ rest) holds = fold_holds names (walked rules names w word) rest (walked_holds names w word holds)

    pub rows_filled : (names : Names) (words : List Text) → Filled own (rows_after rules names words)
    rows_filled names words =
        let end = (walk rules names nothing_held words).held in
        defaults_filled own rules (settled rules end).rows (settled_holds end (fold_holds names (walk_from nothing_held) words (tt, tt))).0

-- Feeds read value by value, and the first value at fault.
use Rattle.std.proofs.Common.{◌≡◌, ◌≢◌, ◌∙◌, ◌<◌, ◌+◌, ◌||◌, ◌==◌, ◌++◌, ℕ, Bool, Bor, true, false, List, [], ◌∷◌, Option, Some, None}
use Rattle.std.proofs.Common.{map, take, drop, length, get_or, is_some, option_map, option_and_then, refl, sym, ap, arith, if◌then◌else◌}
use borrow.Author.Tests.{ne_eqb}
use Rattle.std.proofs.lemmas.List.{map-append, take-append-drop, take_more, drop_more}
use Rattle.std.specs.List.{list_any}
use Rattle.clap.specs.Words.{Text}
use Rattle.nms_serve.specs.CommandLine.{Given, IsFaultOf, IsFeedsFault, shown_feed}
use Rattle.nms_serve.specs.Values.{Feed, IsFirstAtFault, apart, each_of, feed_at, feed_of, feeds_of, has_twice, is_same_feed}
use Rattle.nms_serve.specs.Values.{place_of}
use Rattle.nms_serve.specs.declared.words.request.FeedPath.{FeedPath}
use Rattle.nms_serve.specs.declared.words.words_fault.WordsFault.{WordsFault}
use Rattle.nms_serve.specs.declared.words.words_fault.WordsFault.TheVariants as fault
use Rattle.nms_serve.proofs.Lists.{any_map, each_more, twice_more}

abbrev pub texts : List (Bor Text) → List Text
texts = map (λ value. value.now)

-- values are around the one at i
pub split_at : (values : List (Bor Text)) (i : ℕ) (d : Bor Text) → i < length values
    → texts values ≡ texts (take i values) ++ (get_or values i d).now ∷ texts (drop (i + 1) values)
split_at values i d within =
    ap texts (sym (take-append-drop i values)) ∙ map-append (λ (value : Bor Text). value.now) (take i values) (drop i values)
    ∙ ap (λ (rest : List (Bor Text)). texts (take i values) ++ texts rest) (drop_more values i d within)

pub texts_more : (values : List (Bor Text)) (i : ℕ) (d : Bor Text) → i < length values
    → texts (take (i + 1) values) ≡ texts (take i values) ++ (get_or values i d).now ∷ []
texts_more values i d within =
    ap texts (take_more values i d within) ∙ map-append (λ (value : Bor Text). value.now) (take i values) (get_or values i d ∷ [])

pub feeds_right : (before : List Text) (feeds : List Feed) → each_of feed_of before ≡ Some feeds → has_twice is_same_feed feeds ≡ false
    → feeds_of before ≡ Some feeds
feeds_right before feeds read once = ap (option_and_then apart) read ∙ ap (λ b. if b then None else Some feeds) once

each_next : (before : List Text) (feeds : List Feed) (value : Text) → each_of feed_of before ≡ Some feeds
    → each_of feed_of (before ++ value ∷ []) ≡ option_map (λ feed. feeds ++ feed ∷ []) (feed_of value)
each_next before feeds value read = each_more feed_of before value
    ∙ ap (option_and_then (λ (xs : List Feed). option_map (λ feed. xs ++ feed ∷ []) (feed_of value))) read

-- the feed of one more value
pub one_more : (before : List Text) (feeds : List Feed) (value : Text) (feed : Feed) → each_of feed_of before ≡ Some feeds
    → feed_of value ≡ Some feed → each_of feed_of (before ++ value ∷ []) ≡ Some (feeds ++ feed ∷ [])
one_more before feeds value feed read is = each_next before feeds value read ∙ ap (option_map (λ (f : Feed). feeds ++ f ∷ [])) is

at_fault : (values : List (Bor Text)) (i : ℕ) (d : Bor Text) (feeds : List Feed) → i < length values
    → each_of feed_of (texts (take i values)) ≡ Some feeds → has_twice is_same_feed feeds ≡ false
    → option_and_then apart (option_map (λ feed. feeds ++ feed ∷ []) (feed_of (get_or values i d).now)) ≡ None
    → IsFirstAtFault (texts values) (get_or values i d).now
at_fault values i d feeds within read once none = record {
  before = texts (take i values);
  after = texts (drop (i + 1) values);
  split = split_at values i d within;
  right = ap is_some (feeds_right (texts (take i values)) feeds read once);
  wrong = ap (option_and_then apart) (each_next (texts (take i values)) feeds (get_or values i d).now read) ∙ none;
}

-- the value at i is no feed
pub no_form : (values : List (Bor Text)) (i : ℕ) (d : Bor Text) (feeds : List Feed) → i < length values
    → each_of feed_of (texts (take i values)) ≡ Some feeds → has_twice is_same_feed feeds ≡ false
    → feed_of (get_or values i d).now ≡ None
    → IsFeedsFault (texts values) fault.FeedForm
no_form values i d feeds within read once none = (
  (get_or values i d).now,
  at_fault values i d feeds within read once
      (ap (λ (f : Option Feed). option_and_then apart (option_map (λ feed. feeds ++ feed ∷ []) f)) none),
  none,
)

-- the value at i has a letter that is there before it
pub stands_twice : (values : List (Bor Text)) (i : ℕ) (d : Bor Text) (feeds : List Feed) (feed : Feed) → i < length values
    → each_of feed_of (texts (take i values)) ≡ Some feeds → has_twice is_same_feed feeds ≡ false
    → feed_of (get_or values i d).now ≡ Some feed → list_any (λ f. is_same_feed f feed) feeds ≡ true
    → IsFeedsFault (texts values) fault.FeedTwice
stands_twice values i d feeds feed within read once is among = (
  (get_or values i d).now,
  at_fault values i d feeds within read once
      (ap (λ (f : Option Feed). option_and_then apart (option_map (λ feed. feeds ++ feed ∷ []) f)) is
      ∙ ap (λ b. if b then None else Some (feeds ++ feed ∷ [])) (twice_more is_same_feed feeds feed ∙ (λ k. once k || among k))),
  ap is_some is,
)

-- ---- the feeds so far

pub shown_more : (feeds more : List FeedPath) (feed : FeedPath) → more ≡ feeds ++ feed ∷ []
    → map shown_feed feeds ++ shown_feed feed ∷ [] ≡ map shown_feed more
shown_more feeds more feed is = sym (ap (map shown_feed) is ∙ map-append shown_feed feeds (feed ∷ []))

-- whether one of the feeds has the letter
pub among_shown : (feeds : List FeedPath) (feed : FeedPath)
    → list_any (λ f. is_same_feed f (shown_feed feed)) (map shown_feed feeds) ≡ list_any (λ f. f.place == feed.place) feeds
among_shown feeds feed = any_map (λ f. is_same_feed f (shown_feed feed)) shown_feed feeds

-- the feed at i, after those before it
pub one_read : (values : List (Bor Text)) (i : ℕ) (d : Bor Text) (feeds more : List FeedPath) (feed : FeedPath) → i < length values
    → each_of feed_of (texts (take i values)) ≡ Some (map shown_feed feeds) → feed_of (get_or values i d).now ≡ Some (shown_feed feed)
    → more ≡ feeds ++ feed ∷ []
    → each_of feed_of (texts (take (i + 1) values)) ≡ Some (map shown_feed more)
one_read values i d feeds more feed within read is all = ap (each_of feed_of) (texts_more values i d within)
    ∙ one_more (texts (take i values)) (map shown_feed feeds) (get_or values i d).now (shown_feed feed) read is
    ∙ ap (λ (fs : List Feed). Some fs) (shown_more feeds more feed all)

-- a feed with another letter
pub once_more : (feeds more : List FeedPath) (feed : FeedPath) → has_twice is_same_feed (map shown_feed feeds) ≡ false
    → list_any (λ f. f.place == feed.place) feeds ≡ false → more ≡ feeds ++ feed ∷ []
    → has_twice is_same_feed (map shown_feed more) ≡ false
once_more feeds more feed once other all = ap (has_twice is_same_feed) (sym (shown_more feeds more feed all))
    ∙ twice_more is_same_feed (map shown_feed feeds) (shown_feed feed) ∙ (λ i. once i || (among_shown feeds feed ∙ other) i)

-- a fault of the feeds is one of all that is given
pub feeds_fault : (given : Given) (why : WordsFault) → IsFeedsFault given.feeds why → IsFaultOf given why
feeds_fault given (fault.Parser text help) is = elim is [ ]
feeds_fault given fault.NoMemory is = tt
feeds_fault given fault.FeedForm is = is
feeds_fault given fault.FeedTwice is = is
feeds_fault given fault.ClientForm is = elim is [ ]
feeds_fault given fault.PathTwice is = elim is [ ]
feeds_fault given fault.StaleForm is = elim is [ ]

-- ---- one value

-- no byte of the text is that one
abbrev pub Lacks : ℕ → Text → Type 0
Lacks c text = (i : ℕ) → i < length text → get_or text i 0 ≢ c

abbrev of_second : ℕ → Text → Bool → Option Feed
of_second letter path b = if b then feed_at (place_of (letter ∷ [])) path else None

-- a value with no equals sign
pub feed_without : (value : Text) → Lacks 61 value → feed_of value ≡ None
feed_without [] lacks = refl
feed_without (letter ∷ []) lacks = refl
feed_without (letter ∷ c ∷ path) lacks =
    let other : c ≢ 61 = lacks 1 (omega arith) in
    ap (of_second letter path) (ne_eqb c 61 other)

-- a value with an equals sign
pub feed_with : (value letter path : Text) → value ≡ letter ++ 61 ∷ path → Lacks 61 letter → feed_of value ≡ feed_at (place_of letter) path
feed_with value [] [] is lacks = ap feed_of is
feed_with value [] (c ∷ path) is lacks = ap feed_of is ∙ go (c == 61)
  where
    go : (b : Bool) → of_second 61 path b ≡ None
    go true = refl
    go false = refl
feed_with value (letter ∷ []) path is lacks = ap feed_of is
feed_with value (letter ∷ c ∷ rest) path is lacks =
    let other : c ≢ 61 = lacks 1 (omega arith) in
    ap feed_of is ∙ ap (of_second letter (rest ++ 61 ∷ path)) (ne_eqb c 61 other)

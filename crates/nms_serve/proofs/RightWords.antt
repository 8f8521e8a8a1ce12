-- Words without fault whose values are right are not refused, and they ask for one thing.
use Rattle.std.proofs.Common.{◌≡◌, ◌∙◌, ◌||◌, ◌++◌, Bool, true, false, List, [], ◌∷◌, Option, Some, None, Result, IfErr, IfOk}
use Rattle.std.proofs.Common.{MatchResult, option_and_then, option_map, refl, sym, ap, subst, if◌then◌else◌}
use Rattle.std.proofs.lemmas.List.{append_assoc}
use Rattle.std.proofs.lemmas.List.Folds.{list_any-append}
use Rattle.std.proofs.lemmas.Result.{IfErr-weaker, IfOk-weaker, MatchResult-from_both}
use Rattle.std.specs.List.{list_any}
use Rattle.clap.specs.Words.{IsAmong, Text}
use Rattle.nms_serve.specs.CommandLine.{Asked, Given, IsAsked, IsRefusal, faults_in, given_by, shown}
use Rattle.nms_serve.specs.Values.{Client, Feed, IsFirstAtFault, apart, each_of, feed_of, feeds_of, has_twice, is_same_feed}
use Rattle.nms_serve.specs.Values.{share_path}
use Rattle.nms_serve.specs.declared.words.request.Request.{Request}
use Rattle.nms_serve.specs.declared.words.words_fault.WordsFault.{WordsFault}
use Rattle.nms_serve.specs.declared.words.words_fault.WordsFault.TheVariants as fault

-- ---- the values before one at fault

-- what is read of some values and others after them
each_append : {X : Type 0} (read : Text → Option X) (values others : List Text)
    → each_of read (values ++ others) ≡ option_and_then (λ xs. option_map (λ ys. xs ++ ys) (each_of read others)) (each_of read values)
each_append {X} read [] others = go (each_of read others)
  where
    go : (after : Option (List X)) → after ≡ option_map (λ ys. [] ++ ys) after
    go None = refl
    go (Some ys) = refl
each_append {X} read (value ∷ rest) others =
    ap (λ (all : Option (List X)). option_and_then (λ x. option_map (λ xs. x ∷ xs) all) (read value)) (each_append read rest others)
    ∙ go (read value) (each_of read rest) (each_of read others)
  where
    go : (one : Option X) (all after : Option (List X))
        → option_and_then (λ x. option_map (λ xs. x ∷ xs) (option_and_then (λ xs. option_map (λ ys. xs ++ ys) after) all)) one
        ≡ option_and_then (λ xs. option_map (λ ys. xs ++ ys) after) (option_and_then (λ x. option_map (λ xs. x ∷ xs) all) one)
    go None all after = refl
    go (Some x) None after = refl
    go (Some x) (Some xs) None = refl
    go (Some x) (Some xs) (Some ys) = refl

-- an element that is there twice still is with others after it
still_twice : {X : Type 0} (same : X → X → Bool) (xs ys : List X) → has_twice same xs ≡ true → has_twice same (xs ++ ys) ≡ true
still_twice same [] ys twice = cc
still_twice same (x ∷ xs) ys twice =
    (λ i. list_any-append (same x) xs ys i || has_twice same (xs ++ ys))
    ∙ go (list_any (same x) xs) (has_twice same xs) (list_any (same x) ys) (has_twice same (xs ++ ys)) twice (still_twice same xs ys)
  where
    go : (a b c d : Bool) → (a || b) ≡ true → (b ≡ true → d ≡ true) → ((a || c) || d) ≡ true
    go true b c d told later = refl
    go false true true d told later = refl
    go false true false d told later = later refl
    go false false c d told later = cc

apart_before : (feeds others all : List Feed) (one more : Bool) → (one ≡ true → more ≡ true)
    → (if more then None else Some (feeds ++ others)) ≡ Some all → (if one then None else Some feeds) ≡ None → ⊥
apart_before feeds others all true true later some none = cc
apart_before feeds others all true false later some none = let no : false ≡ true = later refl in cc
apart_before feeds others all false more later some none = cc

-- the first of right values are right
right_before : (values others : List Text) (all : List Feed) → feeds_of (values ++ others) ≡ Some all → feeds_of values ≡ None → ⊥
right_before values others all some none =
    go (each_of feed_of values) (each_of feed_of others) (ap (option_and_then apart) (sym (each_append feed_of values others)) ∙ some) none
  where
    go : (met after : Option (List Feed)) → option_and_then apart (option_and_then (λ xs. option_map (λ ys. xs ++ ys) after) met) ≡ Some all
        → option_and_then apart met ≡ None → ⊥
    go None after some none = cc
    go (Some feeds) None some none = cc
    go (Some feeds) (Some others) some none =
        apart_before feeds others all (has_twice is_same_feed feeds) (has_twice is_same_feed (feeds ++ others))
        (still_twice is_same_feed feeds others) some none

-- right values have none at fault
none_at_fault : (values : List Text) (value : Text) (all : List Feed) → feeds_of values ≡ Some all → IsFirstAtFault values value → ⊥
none_at_fault values value all some first =
    let split : values ≡ (first.before ++ value ∷ []) ++ first.after = first.split
    ∙ sym (append_assoc first.before (value ∷ []) first.after) in
    right_before (first.before ++ value ∷ []) first.after all (ap feeds_of (sym split) ∙ some) first.wrong

-- ---- right words

-- right arguments are refused only if out of memory
pub only_memory : (words : List Text) (asked : Asked) (why : WordsFault) → faults_in words ≡ [] → IsAsked (given_by words) asked
    → IsRefusal words why → why ≡ fault.NoMemory
only_memory words asked fault.NoMemory none is refused = refl
only_memory words asked (fault.Parser text help) none is (kind, among, told) = elim (subst (IsAmong kind) none among) [ ]
only_memory words asked fault.FeedForm none is (_, (value, first, wrong)) =
    absurd (none_at_fault (given_by words).feeds value asked.feeds is.feeds first)
only_memory words asked fault.FeedTwice none is (_, (value, first, right)) =
    absurd (none_at_fault (given_by words).feeds value asked.feeds is.feeds first)
only_memory words asked fault.ClientForm none is (_, (feeds, clients)) =
    let no : None ≡ Some asked.clients = sym clients ∙ is.clients in cc
only_memory words asked fault.PathTwice none is (_, (clients, has, shares)) =
    let some : Some clients ≡ Some asked.clients = sym has.clients ∙ is.clients in
    let same : clients ≡ asked.clients = cc in
    let no : true ≡ false = sym shares ∙ ap (λ (met : List Client). share_path met (given_by words).tape) same ∙ is.paths in cc
only_memory words asked fault.StaleForm none is (_, (clients, has, shares, stale)) =
    let no : None ≡ Some asked.stale = sym stale ∙ is.stale in cc

-- what is given asks for one thing
one_asked : (given : Given) (asked other : Asked) → IsAsked given asked → IsAsked given other → asked ≡ other
one_asked given asked other is too =
    let some_feeds : Some asked.feeds ≡ Some other.feeds = sym is.feeds ∙ too.feeds in
    let some_clients : Some asked.clients ≡ Some other.clients = sym is.clients ∙ too.clients in
    let some_stale : Some asked.stale ≡ Some other.stale = sym is.stale ∙ too.stale in
    let feeds : asked.feeds ≡ other.feeds = cc in
    let clients : asked.clients ≡ other.clients = cc in
    let stale : asked.stale ≡ other.stale = cc in
    λ i. record {
      setup = (is.setup ∙ sym too.setup) i;
      feeds = feeds i;
      clients = clients i;
      tape = (is.tape ∙ sym too.tape) i;
      strict = (is.strict ∙ sym too.strict) i;
      keep = (is.keep ∙ sym too.keep) i;
      wait = (is.wait ∙ sym too.wait) i;
      stale = stale i;
      resume = (is.resume ∙ sym too.resume) i;
      check = (is.check ∙ sym too.check) i;
      status = (is.status ∙ sym too.status) i;
      ready = (is.ready ∙ sym too.ready) i;
      log_time = (is.log_time ∙ sym too.log_time) i;
      times = (is.times ∙ sym too.times) i;
      recorded = (is.recorded ∙ sym too.recorded) i;
      sync = (is.sync ∙ sym too.sync) i;
    }

-- so they are answered by that, or memory is out
pub answered : (result : Result Request WordsFault) (words : List Text) (asked : Asked) → faults_in words ≡ []
    → IsAsked (given_by words) asked → IfOk result (λ request. IsAsked (given_by words) (shown request))
    → IfErr result (IsRefusal words) → MatchResult result (λ request. shown request ≡ asked) (λ why. why ≡ fault.NoMemory)
answered result words asked none is read refused = MatchResult-from_both result _ _
    (IfOk-weaker result _ _ (λ request too. one_asked (given_by words) (shown request) asked too is) read)
    (IfErr-weaker result _ _ (λ why wrong. only_memory words asked why none is wrong) refused)

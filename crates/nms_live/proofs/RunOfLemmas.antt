-- The run of the sequential machine that has the result of a live run.
use Rattle.std.proofs.Common.{ℕ, ◌≡◌, ◌+◌, ◌<◌, ◌≤◌, ◌⊎◌, inl, inr, List, [], ◌∷◌, ◌++◌, length, map, take, None, refl, sym, ap, subst, ◌∙◌}
use Rattle.std.proofs.Common.{arith, append_assoc, length-append}
use Rattle.std.specs.Prelude.{All, nat_eq, unwrap_or}
use Rattle.std.specs.List.{AllByRecursion, Contains, last_or}
use Rattle.std.proofs.lemmas.List.{append-nil, map-id, take_all}
use Rattle.std.proofs.lemmas.List.Elements.{All-append, All-contains, All-filter, All-from_recursion, All-weaker, filter-append}
use Rattle.std.proofs.lemmas.List.Elements.{recursion_from_All}
use Rattle.std.proofs.Math.Seq.{take-append_seam}
use Rattle.nms_quote.specs.Merge.{changes_of, of_feed}
use Rattle.nms_quote.specs.Roster.{Listing}
use Rattle.nms_quote.specs.Tape.{Tape, version}
use Rattle.nms_quote.specs.declared.feed.Feed.{Feed}
use Rattle.nms_board.specs.View.{Seen, view_of}
use Rattle.nms_fees.specs.Settings.{Settings}
use Rattle.nms_flow.specs.Flow.{room_under}
use Rattle.nms_flow.specs.Laws.{IsOnOwnFeed, fed_by}
use Rattle.nms_flow.specs.Run.{Event, Room, changes_in, sent_by, tape_at, version_at}
use Rattle.nms_flow.proofs.Offered.{last_or-append}
use Rattle.nms_live.specs.Answering.{IsSound, of_desk, versions}
use Rattle.nms_live.specs.Lists.{IsRising}
use Rattle.nms_live.specs.Living.{IsLive}
use Rattle.nms_live.specs.Reading.{IsRead, text_of}
use Rattle.nms_live.specs.RunOf.{IsSomeRun}
use Rattle.nms_quote.specs.declared.answer.Answer.{Answer}
use Rattle.nms_quote.specs.declared.desk_order.DeskOrder.{DeskOrder}
use Rattle.nms_live.specs.declared.live.Live.{Live}
use Rattle.nms_live.proofs.FeedLemmas.{changes_in-marked, marked_by, own_feeds}
use Rattle.nms_live.proofs.LevelLemmas.{all_below, below, below_zero, filter-swap, itself, last_contained, last_same, next_level}
use Rattle.nms_live.proofs.LevelLemmas.{none_above, on}
use Rattle.nms_live.proofs.SequentialLemmas.{IsShown, Led, level_of, look_all, none_led, publish_all, standing_at, take_in}

-- the answer's version was published, or is the empty one
abbrev WasPublished : List ℕ → Answer → Type 0
WasPublished published answer = (level_of answer ≡ 0) ⊎ Contains published (level_of answer)

-- the tape that a run has taken, if it took all that it sent
taken_is : (roster : Listing) (tape : Tape) (lengths : List ℕ) → tape_at (standing_at roster tape lengths) ≡ tape
taken_is roster tape lengths = rw (changes_in-marked roster tape) (take_all (length tape) tape (omega arith))

-- a run has taken this much of the tape; the lengths below a level are published, and each desk has looked at what
-- its answers below it were made on
record IsUpTo (room : Room) (roster : Listing) (basis : Answer → Seen) (published : List ℕ) (all : List Answer) (tape : Tape) (level : ℕ) :
    Type 0 where
  looked : List Answer
  led : Led room basis (standing_at roster tape (below itself level published)) (below itself level published) looked
  shown : (desk : ℕ) → of_desk desk looked ≡ below level_of level (of_desk desk all)

-- what an answer of the run was made on
abbrev made_on : Room → Tape → Answer → Seen
made_on room whole answer = view_of room.sizes (version (level_of answer) whole) answer.plan.order.sym

module _ (room : Room) (roster : Listing) (whole : Tape) (published : List ℕ) (all : List Answer) where
  -- once a level's publishings are made, the published version is of that length, if an answer was made on it
  published_now : (level : ℕ) (answer : Answer) → level_of answer ≡ level → WasPublished published answer
      → unwrap_or (last_or None (below itself level published ++ on itself level published)) 0 ≡ level
  published_now level answer is was =
      ap (λ o. unwrap_or o 0) (last_or-append None (below itself level published) (on itself level published)) ∙ elim was [
        | inl zeroth ↦
            let bottom : level ≡ 0 = sym is ∙ zeroth in
            let none : below itself level published ≡ [] = ap (λ n. below itself n published) bottom ∙ below_zero itself published in
            last_same level (last_or None (below itself level published)) published
            (ap (λ ls. unwrap_or (last_or None ls) 0) none ∙ sym bottom)
        | inr among ↦ last_contained level (last_or None (below itself level published)) published (subst (Contains published) is among)
      ]

  -- and a look shows what the answer was made on
  shows_it : (before rest : Tape) → whole ≡ before ++ rest → (answer : Answer) → WasPublished published answer
      → level_of answer ≡ length before
      → IsShown room roster (made_on room whole) before (below itself (length before) published ++ on itself (length before) published)
      answer
  shows_it before rest parts answer was is =
      let lengths : List ℕ = below itself (length before) published ++ on itself (length before) published in
      let made : version (level_of answer) whole ≡ before = ap (λ n. take n whole) is ∙ ap (take (length before)) parts
      ∙ take-append_seam before rest in
      let seen : version_at (standing_at roster before lengths) ≡ before =
      ap (λ n. take n (tape_at (standing_at roster before lengths))) (published_now (length before) answer is was)
      ∙ ap (take (length before)) (taken_is roster before lengths)
      ∙ take_all (length before) before (omega arith) in
      (ap (λ (t : Tape). view_of room.sizes t answer.plan.order.sym) (made ∙ sym seen), ap length made ∙ sym is)

  -- all of a level is published and looked at
  one_level : (before rest : Tape) → whole ≡ before ++ rest → AllByRecursion (WasPublished published) all → IsRising published
      → ((desk : ℕ) → IsRising (versions (of_desk desk all)))
      → IsUpTo room roster (made_on room whole) published all before (length before)
      → IsUpTo room roster (made_on room whole) published all before (length before + 1)
  one_level before rest parts were rising desks up =
      let level : ℕ = length before in
      let lengths : List ℕ = below itself level published ++ on itself level published in
      let e : lengths ≡ below itself (level + 1) published =
      next_level itself level published (subst IsRising (sym (map-id published)) rising) in
      let out = publish_all room roster (made_on room whole) before up.looked published (below itself level published) up.led in
      let looks = look_all room roster (made_on room whole) before lengths level all up.looked (each all were) out in
      record {
        looked = up.looked ++ on level_of level all;
        led = subst (λ (ls : List ℕ). Led room (made_on room whole) (standing_at roster before ls) ls (up.looked ++ on level_of level all))
            e looks;
        shown = λ desk.
            filter-append (λ (a : Answer). nat_eq a.desk desk) up.looked (on level_of level all)
            ∙ ap (λ l. l ++ of_desk desk (on level_of level all)) (up.shown desk)
            ∙ ap (λ l. below level_of level (of_desk desk all) ++ l)
            (filter-swap (λ (a : Answer). nat_eq a.desk desk) (λ (a : Answer). nat_eq (level_of a) level) all)
            ∙ next_level level_of level (of_desk desk all) (desks desk);
      }
    where
      each : (answers : List Answer) → AllByRecursion (WasPublished published) answers
          → AllByRecursion (λ (a : Answer). level_of a ≡ length before
          → IsShown room roster (made_on room whole) before
          (below itself (length before) published ++ on itself (length before) published) a) answers
      each [] were = tt
      each (answer ∷ answers) were = (λ is. shows_it before rest parts answer were.0 is, each answers were.1)

  -- level by level to the end of the tape
  levels : (before rest : Tape) → whole ≡ before ++ rest → 1 ≤ room.queue → length whole ≤ room.tape
      → AllByRecursion (WasPublished published) all → IsRising published → ((desk : ℕ) → IsRising (versions (of_desk desk all)))
      → IsUpTo room roster (made_on room whole) published all before (length before)
      → IsUpTo room roster (made_on room whole) published all whole (length whole + 1)
  levels before [] parts queue limit were rising desks up =
      subst (λ (t : Tape). IsUpTo room roster (made_on room whole) published all t (length t + 1)) (sym (parts ∙ append-nil before))
      (one_level before [] parts were rising desks up)
  levels before (change ∷ rest) parts queue limit were rising desks up =
      let next = one_level before (change ∷ rest) parts were rising desks up in
      let left : length before < room.tape = omega (arith, limit, ap length parts, length-append before (change ∷ rest)) in
      let more : IsUpTo room roster (made_on room whole) published all (before ++ change ∷ []) (length before + 1) = record {
        looked = next.looked;
        led = take_in room roster (made_on room whole) before (below itself (length before + 1) published) next.looked change queue left
            next.led;
        shown = next.shown;
      } in
      levels (before ++ change ∷ []) rest (parts ∙ sym (append_assoc before (change ∷ []) rest)) queue limit were rising desks
      (subst (IsUpTo room roster (made_on room whole) published all (before ++ change ∷ [])) (sym (length-append before (change ∷ [])))
      more)

-- if each of the changes sent is on the feed to which it belongs, the feeds sent those that belong to them
abbrev pub TellFeeds : Type 0
TellFeeds = (roster : Listing) (events : List Event) (feed : Feed) → All (IsOnOwnFeed roster) (sent_by events)
    → changes_of roster feed (changes_in (sent_by events)) ≡ fed_by feed events

pub is_some_run : (settings : Settings) (texts : List (List ℕ)) (orders : List DeskOrder) (live : Live) → 1 ≤ settings.queue → TellFeeds
    → IsLive settings texts orders live → IsSomeRun settings texts live
is_some_run settings texts orders live queue feeds is =
    let tape : Tape = live.tape.items in
    let published : List ℕ = live.published.items in
    let all : List Answer = live.answers.items ++ live.closing.items in
    let room : Room = room_under settings in
    let was : (answer : Answer) → IsSound settings tape published answer
    → WasPublished published answer = λ answer sound. sound.published_it in
    let were : All (WasPublished published) all =
    All-weaker (IsSound settings tape published) (WasPublished published) was all
    (All-append (IsSound settings tape published) live.answers.items live.closing.items
    (All-from_recursion (IsSound settings tape published) live.answers.items is.answered.sound)
    (All-from_recursion (IsSound settings tape published) live.closing.items is.answered.closing_sound)) in
    let within : AllByRecursion (λ n. n < length tape + 1) published = none_above published (length tape) is.rising is.ends in
    let low : (answer : Answer) → WasPublished published answer → level_of answer < length tape + 1 =
    λ answer it. elim it [
      | inl zeroth ↦ omega (arith, zeroth)
      | inr among ↦ All-contains (λ n. n < length tape + 1) published (level_of answer)
          (All-from_recursion (λ n. n < length tape + 1) published within) among
    ] in
    let start : IsUpTo room settings.roster (made_on room tape) published all [] 0 = record {
      looked = [];
      led = subst (λ (ls : List ℕ). Led room (made_on room tape) (standing_at settings.roster [] ls) ls [])
          (sym (below_zero itself published)) (none_led room settings.roster (made_on room tape));
      shown = λ desk. sym (below_zero level_of (of_desk desk all));
    } in
    let end = levels room settings.roster tape published all [] tape refl queue is.limit
    (recursion_from_All (WasPublished published) all were) is.rising is.answered.rising start in
    let whole : (desk : ℕ) → of_desk desk end.looked ≡ of_desk desk all = λ desk. end.shown desk
    ∙ all_below level_of (length tape + 1) (of_desk desk all)
    (recursion_from_All (λ (x : Answer). level_of x < length tape + 1) (of_desk desk all)
    (All-filter (λ (x : Answer). nat_eq x.desk desk) (λ (x : Answer). level_of x < length tape + 1) all
    (All-weaker (WasPublished published) (λ (x : Answer). level_of x < length tape + 1) low all were))) in
    let events : List Event = end.led.0 in
    let led = end.led.1 in
    let sent_is : sent_by events ≡ map (marked_by settings.roster) tape = ap (λ s. s.sent) led.stands in
    let sent : changes_in (sent_by events) ≡ tape = ap changes_in sent_is ∙ changes_in-marked settings.roster tape in
    let own : All (IsOnOwnFeed settings.roster) (sent_by events) =
    subst (All (IsOnOwnFeed settings.roster)) (sym sent_is) (own_feeds settings.roster texts tape is.tape) in
    let fed : (feed : Feed) → changes_of settings.roster feed tape ≡ fed_by feed events =
    λ feed. sym (ap (changes_of settings.roster feed) sent) ∙ feeds settings.roster events feed own in
    let gave : (feed : Feed) → changes_of settings.roster feed tape ≡ of_feed feed is.tape.marked =
    λ feed. ap (changes_of settings.roster feed) is.tape.tape_is ∙ (is.tape.gave feed).own in (
      events,
      record {
        run = led.run;
        answered = led.answered;
        fed = λ feed. subst (IsRead settings.roster feed (text_of feed texts)) (sym (gave feed) ∙ fed feed) (is.tape.gave feed).reads;
        own = own;
        sent = sent;
        tape = ap tape_at led.stands ∙ taken_is settings.roster tape (below itself (length tape + 1) published);
        published = led.published ∙ all_below itself (length tape + 1) published within;
        looks = λ desk. led.looks desk ∙ ap (map (made_on room tape)) (whole desk);
        told = λ desk. led.told desk ∙ ap versions (whole desk);
      },
    )

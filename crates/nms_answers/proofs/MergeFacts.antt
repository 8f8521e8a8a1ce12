-- The script of an epoch, publishing by publishing, and each client's part of it in the client's own order.
use Rattle.std.proofs.Common.{ℕ, ◌≡◌, ◌+◌, ◌≤◌, inl, inr, Bool, true, false, List, [], ◌∷◌, ◌++◌, length, map, take, drop, Option, Some}
use Rattle.std.proofs.Common.{refl, sym}
use Rattle.std.proofs.Common.{ap, ap₂, subst, ◌∙◌, arith, append_assoc, length-append, codes, ◌==◌}
use Rattle.std.specs.Prelude.{All, flat_map, nat_eq, unwrap_or}
use Rattle.std.specs.List.{AllByRecursion}
use Rattle.std.proofs.lemmas.Bool.{eq-eqb}
use Rattle.std.proofs.lemmas.Bool.Decides.{eqb_tells}
use Rattle.std.proofs.lemmas.List.{append-nil, length-take-le, take-append-drop, take-take, take_all}
use Rattle.std.proofs.lemmas.List.Concat.{flat_map-append}
use Rattle.std.proofs.lemmas.List.Elements.{All-drop, All-from_recursion, All-take, recursion_from_All}
use Rattle.nms_quote.specs.Merge.{changes_of}
use Rattle.nms_quote.specs.Roster.{Listing}
use Rattle.nms_quote.specs.Tape.{Tape, version}
use Rattle.nms_quote.specs.declared.feed.Feed.{Feed}
use Rattle.nms_quote.specs.declared.feed.Feed.TheVariants as feed
use Rattle.nms_fees.specs.Settings.{Settings}
use Rattle.nms_lines.specs.Layout.{Record}
use Rattle.nms_change_text.specs.ReadBack.{ChangesReadAsWritten, FitsRecord, ReadsBack}
use Rattle.nms_flow.specs.Laws.{IsOnOwnFeed, fed_by}
use Rattle.nms_flow.specs.Run.{Event, changes_in, sent_by, tape_at}
use Rattle.nms_scripts.specs.Script as script
use Rattle.nms_answers.specs.ServedEpoch.{Asked, Epoch, IsServed, RiseTo}
use Rattle.nms_answers.specs.Merged.{Line, Placed, as_request, asked_on, change_lines, lines_after, own, script_of}
use Rattle.nms_answers.specs.OneScript.{AreSaid, IsOneScript, Said, requests_of}
use Rattle.nms_answers.proofs.BlockFacts.{Rise, blocks, filter-swap, in_order, on}
use Rattle.nms_answers.proofs.LineFacts.{belongs}
use Rattle.nms_answers.proofs.ClientFacts.{IsGood, OfClient, level_of, of, of_clients, one_within, placed_as}
use Rattle.nms_answers.proofs.RunFacts.{IsAskedOn, Led, Request, ask_all, changes_in-marked, fields_in, line_of, marked_by, none_led}
use Rattle.nms_answers.proofs.RunFacts.{publish, standing_at, take_all_in, taken_is, told_in}

-- ---- what is selected of a client

module _ {Y : Type 0} (select : Request → List Y) (client : ℕ) (none : (r : Request) → (r.client == client) ≡ false → select r ≡ []) where
  of_those : (requests : List Request) → flat_map select requests ≡ flat_map select (of client requests)
  of_those [] = refl
  of_those (request ∷ requests) = by_test (request.client == client) refl (of_those requests)
    where
      by_test : (same : Bool) → (request.client == client) ≡ same → flat_map select requests ≡ flat_map select (of client requests)
          → flat_map select (request ∷ requests) ≡ flat_map select (of client (request ∷ requests))
      by_test true test rest = rw test (ap (λ (l : List Y). select request ++ l) rest)
      by_test false test rest = rw test (ap (λ (l : List Y). l ++ flat_map select requests) (none request test) ∙ rest)

  of_blocks : (ns : List ℕ) (requests : List Request)
      → flat_map select (blocks level_of ns requests) ≡ flat_map select (blocks level_of ns (of client requests))
  of_blocks [] requests = refl
  of_blocks (n ∷ ns) requests =
      flat_map-append select (on level_of n requests) (blocks level_of ns requests)
      ∙ ap₂ (λ (a b : List Y). a ++ b)
      (of_those (on level_of n requests)
      ∙ ap (flat_map select) (filter-swap (λ (r : Request). r.client == client) (λ (r : Request). nat_eq r.level n) requests))
      (of_blocks ns requests)
      ∙ sym (flat_map-append select (on level_of n (of client requests)) (blocks level_of ns (of client requests)))

  -- the client's requests are in the script in the client's order
  own_order : (settings : Settings) (epoch : Epoch) (number : ℕ) (asked : List Asked) (told : List Record) (requests : List Request)
      (one : OfClient settings epoch client number 0 asked told) → of client requests ≡ one.requests → Rise 0 epoch.lengths
      → flat_map select (blocks level_of (0 ∷ epoch.lengths) requests) ≡ flat_map select one.requests
  own_order settings epoch number asked told requests one are rise =
      of_blocks (0 ∷ epoch.lengths) requests
      ∙ ap (flat_map select) (ap (blocks level_of (0 ∷ epoch.lengths)) are
      ∙ in_order level_of 0 epoch.lengths one.requests rise one.rising one.among)

not_told : (client : ℕ) (r : Request) → (r.client == client) ≡ false → told_in client r ≡ []
not_told client r test = rw test refl

not_asked : (client : ℕ) (r : Request) → (r.client == client) ≡ false → fields_in client r ≡ []
not_asked client r test = rw test refl

told_own : (client : ℕ) (requests : List Request) → AllByRecursion (λ (r : Request). r.client ≡ client) requests
    → flat_map (told_in client) requests ≡ flat_map (λ (r : Request). r.told) requests
told_own client [] all = refl
told_own client (r ∷ rs) all = rw (eq-eqb r.client client all.0) (ap (λ (l : List Record). r.told ++ l) (told_own client rs all.1))

fields_own : (client : ℕ) (requests : List Request) → AllByRecursion (λ (r : Request). r.client ≡ client) requests
    → flat_map (fields_in client) requests ≡ map (λ (r : Request). as_request r.fields) requests
fields_own client [] all = refl
fields_own client (r ∷ rs) all =
    rw (eq-eqb r.client client all.0) (ap (λ (l : List Record). as_request r.fields ∷ l) (fields_own client rs all.1))

-- ---- publishing by publishing

rises : (low whole : ℕ) (ns : List ℕ) → RiseTo low whole ns → Rise low ns
rises low whole [] rise = tt
rises low whole (n ∷ ns) rise = (rise.0, rises n whole ns rise.1)

-- the requests that come after a version
lines_on : (n : ℕ) (requests : List Request) → asked_on n (map placed_as requests) ≡ map line_of (on level_of n requests)
lines_on n [] = refl
lines_on n (r ∷ rs) = elim (eqb_tells r.level n) [
  | inl same ↦ rw same.0 (ap (λ (l : List Line). line_of r ∷ l) (lines_on n rs))
  | inr other ↦ rw other.0 (lines_on n rs)
]

good_on : (settings : Settings) (tape : Tape) (n : ℕ) (requests : List Request) → AllByRecursion (IsGood settings tape) requests
    → AllByRecursion (IsAskedOn settings (version n tape)) (on level_of n requests)
good_on settings tape n [] all = tt
good_on settings tape n (r ∷ rs) all = elim (eqb_tells r.level n) [
  | inl same ↦ rw same.0 (
    subst (λ (m : ℕ). IsAskedOn settings (version m tape) r) same.1 all.0,
    good_on settings tape n rs all.1,
  )
  | inr other ↦ rw other.0 (good_on settings tape n rs all.1)
]

led_as : (settings : Settings) (tape tape' : Tape) (lengths lengths' : List ℕ) (lines lines' : List Line) (asked asked' : List Request)
    → tape ≡ tape' → lengths ≡ lengths' → lines ≡ lines' → asked ≡ asked'
    → Led settings (standing_at settings.roster tape (length tape)) lengths lines asked
    → Led settings (standing_at settings.roster tape' (length tape')) lengths' lines' asked'
led_as settings tape tape' lengths lengths' lines lines' asked asked' same_tape same_lengths same_lines same_asked led =
    subst (λ (t : Tape). Led settings (standing_at settings.roster t (length t)) lengths' lines' asked') same_tape
    (subst (λ (ns : List ℕ). Led settings (standing_at settings.roster tape (length tape)) ns lines' asked') same_lengths
    (subst (λ (ls : List Line). Led settings (standing_at settings.roster tape (length tape)) lengths ls asked') same_lines
    (subst (λ (rs : List Request). Led settings (standing_at settings.roster tape (length tape)) lengths lines rs) same_asked led)))

module _ (settings : Settings) (tape : Tape) (queue : 1 ≤ settings.queue) (limit : length tape ≤ settings.tape_limit)
    (fits : All (FitsRecord settings.roster) tape) (reads : All (ReadsBack settings.roster) tape) (requests : List Request)
    (good : AllByRecursion (IsGood settings tape) requests) where
  -- what comes after a publishing
  after_it : (published : ℕ) (ns : List ℕ) → RiseTo published (length tape) ns → (lengths : List ℕ) (lines : List Line)
      (asked : List Request)
      → Led settings (standing_at settings.roster (take published tape) (length (take published tape))) lengths lines asked
      → Led settings (standing_at settings.roster tape (length tape)) (lengths ++ ns)
      (lines ++ lines_after settings.roster tape (map placed_as requests) published ns) (asked ++ blocks level_of ns requests)
  after_it published [] rise lengths lines asked led =
      led_as settings (take published tape) tape lengths (lengths ++ []) lines (lines ++ []) asked (asked ++ [])
      (take_all published tape (omega (arith, rise))) (sym (append-nil lengths)) (sym (append-nil lines)) (sym (append-nil asked)) led
  after_it published (n ∷ ns) rise lengths lines asked led =
      let within : n ≤ length tape = one_within n (length tape) ns n rise.1 (inl refl) in
      let before : Tape = take published tape in
      let now : Tape = take n tape in
      let more : Tape = drop published now in
      let parts : before ++ more ≡ now = ap (λ (t : Tape). t ++ more) (sym (take-take published n tape (omega (arith, rise.0))))
      ∙ take-append-drop published now in
      let long : length now ≡ n = length-take-le n tape within in
      let room : length before + length more ≤ settings.tape_limit =
      omega (arith, sym (length-append before more), ap (λ (t : Tape). length t) parts, long, within, limit) in
      let changes : List Line = change_lines settings.roster more in
      let taken = take_all_in settings before more (length before) lengths lines asked queue room
      (recursion_from_All (ReadsBack settings.roster) more
      (All-drop (ReadsBack settings.roster) published now (All-take (ReadsBack settings.roster) n tape reads)))
      (recursion_from_All (FitsRecord settings.roster) more
      (All-drop (FitsRecord settings.roster) published now (All-take (FitsRecord settings.roster) n tape fits))) led in
      let out = publish settings now (length before) lengths (lines ++ changes) asked
      (subst (λ (t : Tape). Led settings (standing_at settings.roster t (length before)) lengths (lines ++ changes) asked) parts taken) in
      let publishing : List Line = own (codes "P" ∷ []) ∷ [] in
      let here : List Line = map line_of (on level_of n requests) in
      let answered = ask_all settings now (lengths ++ length now ∷ []) ((lines ++ changes) ++ publishing) asked (on level_of n requests)
      (good_on settings tape n requests good) out in
      let later : List Line = lines_after settings.roster tape (map placed_as requests) n ns in
      let end = after_it n ns rise.1 (lengths ++ length now ∷ []) (((lines ++ changes) ++ publishing) ++ here)
      (asked ++ on level_of n requests) answered in
      led_as settings tape tape ((lengths ++ length now ∷ []) ++ ns) (lengths ++ n ∷ ns)
      ((((lines ++ changes) ++ publishing) ++ here) ++ later)
      (lines ++ lines_after settings.roster tape (map placed_as requests) published (n ∷ ns))
      ((asked ++ on level_of n requests) ++ blocks level_of ns requests) (asked ++ blocks level_of (n ∷ ns) requests)
      refl
      (append_assoc lengths (length now ∷ []) ns ∙ ap (λ (m : ℕ). lengths ++ m ∷ ns) long)
      (append_assoc ((lines ++ changes) ++ publishing) here later
      ∙ append_assoc (lines ++ changes) publishing (here ++ later)
      ∙ append_assoc lines changes (publishing ++ (here ++ later))
      ∙ ap (λ (l : List Line). lines ++ (changes ++ (own (codes "P" ∷ []) ∷ (l ++ later)))) (sym (lines_on n requests)))
      (append_assoc asked (on level_of n requests) (blocks level_of ns requests))
      end

-- ---- all clients together

said_answers : (settings : Settings) (number : ℕ) (said : List Said) (events : List Event) → AreSaid settings number said events
    → script.AnswersFrom settings number (map (λ (l : Line). l.fields) (map (λ (s : Said). s.line) said)) events
    (flat_map (λ (s : Said). s.told) said)
unfolding AreSaid script.AnswersFrom
said_answers settings number [] events are = (are, refl)
said_answers settings number (first ∷ said) events are = (
  are.0,
  are.1,
  first.told,
  flat_map (λ (s : Said). s.told) said,
  are.2,
  refl,
  are.3,
  said_answers settings (number + 1) said are.1 are.4,
)

own_feeds : (settings : Settings) (tape : Tape) → AllByRecursion (FitsRecord settings.roster) tape
    → AllByRecursion (IsOnOwnFeed settings.roster) (map (marked_by settings.roster) tape)
own_feeds settings [] fits = tt
own_feeds settings (change ∷ tape) fits =
    let feeds = belongs settings.roster change fits.0.0 in (
      feeds.1 ∙ ap Some (sym (ap (λ (o : Option Feed). unwrap_or o feed.A) feeds.1)),
      own_feeds settings tape fits.1,
    )

-- if each of the changes sent is on the feed to which it belongs, the feeds sent those that belong to them
abbrev pub TellFeeds : Type 0
TellFeeds = (roster : Listing) (events : List Event) (feed : Feed) → All (IsOnOwnFeed roster) (sent_by events)
    → changes_of roster feed (changes_in (sent_by events)) ≡ fed_by feed events

pub one_script : (settings : Settings) (epoch : Epoch) → 1 ≤ settings.queue → ChangesReadAsWritten settings.roster → TellFeeds
    → IsServed settings epoch → IsOneScript settings epoch
one_script settings epoch queue reads tells is =
    let tape : Tape = epoch.tape in
    let roster : Listing = settings.roster in
    let all = of_clients settings epoch is.published 0 epoch.clients is.clients in
    let requests : List Request = all.requests in
    let rise = rises 0 (length tape) epoch.lengths is.published in
    let first = ask_all settings [] [] [] [] (on level_of 0 requests) (good_on settings tape 0 requests all.good) (none_led settings) in
    let end = after_it settings tape queue is.limit is.fits (reads tape is.fits).1 requests all.good 0 epoch.lengths is.published []
    (map line_of (on level_of 0 requests)) (on level_of 0 requests) first in
    let led = end.2 in
    let said : List Said = end.0 in
    let events : List Event = end.1 in
    let whole : map (λ (s : Said). s.line) said ≡ script_of roster epoch = led.script
    ∙ ap (λ (l : List Line). l ++ lines_after roster tape (map placed_as requests) 0 epoch.lengths) (sym (lines_on 0 requests))
    ∙ ap (λ (p : List Placed). asked_on 0 p ++ lines_after roster tape p 0 epoch.lengths) all.placed in
    let sent_is : sent_by events ≡ map (marked_by roster) tape = ap (λ s. s.sent) led.stands in
    let sent : changes_in (sent_by events) ≡ tape = ap changes_in sent_is ∙ changes_in-marked roster tape in
    let on_own : All (IsOnOwnFeed roster) (sent_by events) = subst (All (IsOnOwnFeed roster)) (sym sent_is)
    (All-from_recursion (IsOnOwnFeed roster) (map (marked_by roster) tape)
    (own_feeds settings tape (recursion_from_All (FitsRecord roster) tape is.fits))) in
    record {
      said = said;
      events = events;
      script = whole;
      each = led.each;
      answer = record {
        run = led.run;
        answers = subst (λ (ls : List Line). script.AnswersFrom settings 1 (map (λ (l : Line). l.fields) ls) events
            (flat_map (λ (s : Said). s.told) said)) whole (said_answers settings 1 said events led.each);
      };
      feeds = λ feed. sym (tells roster events feed on_own) ∙ ap (changes_of roster feed) sent;
      tape = ap tape_at led.stands ∙ taken_is roster tape (length tape);
      published = led.published;
      asked = λ place client found.
          let own_part = all.each place place client (omega arith) found in
          ap (requests_of place) (sym whole ∙ led.script) ∙ led.requests place
          ∙ own_order (fields_in place) place (not_asked place) settings epoch client.first client.asked client.told requests own_part.0
          own_part.1 rise
          ∙ fields_own place own_part.0.requests own_part.0.clients ∙ own_part.0.fields_all;
      told = λ place client found.
          let own_part = all.each place place client (omega arith) found in
          led.told place
          ∙ own_order (told_in place) place (not_told place) settings epoch client.first client.asked client.told requests own_part.0
          own_part.1 rise
          ∙ told_own place own_part.0.requests own_part.0.clients ∙ own_part.0.told_all;
    }

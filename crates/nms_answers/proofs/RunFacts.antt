-- The run of the machine that answers the script, made line by line.
use Rattle.std.proofs.Common.{ℕ, ◌≡◌, ◌+◌, ◌-◌, ◌<◌, ◌≤◌, Bool, true, false, inl, List, [], ◌∷◌, ◌++◌, length, map, take}
use Rattle.std.proofs.Common.{Option, Some, None, Ok, refl, sym, ap, subst, ◌∙◌, arith, append_assoc, length-append, codes, ◌==◌}
use Rattle.std.proofs.Common.{if◌then◌else◌}
use Rattle.std.specs.Prelude.{IfSome, flat_map, option_to_list, unwrap_or}
use Rattle.std.specs.List.{AllByRecursion, filter_map}
use Rattle.std.proofs.lemmas.Bool.{ne_eqb}
use Rattle.std.proofs.lemmas.List.{append-nil, length-drop, map-append, take_all}
use Rattle.std.proofs.lemmas.List.Concat.{flat_map-append}
use Rattle.std.proofs.Math.ListN.{length-map}
use Rattle.nms_quote.specs.Roster.{Listing, feed_of_change, holds, sizes_of}
use Rattle.nms_quote.specs.Tape.{Tape}
use Rattle.nms_quote.specs.declared.change.Change.{Change}
use Rattle.nms_quote.specs.declared.feed.Feed.{Feed}
use Rattle.nms_quote.specs.declared.feed.Feed.TheVariants as feed
use Rattle.nms_quote.specs.declared.marked.Marked.{Marked}
use Rattle.nms_board.specs.View.{view_of}
use Rattle.nms_fees.specs.Settings.{Settings}
use Rattle.nms_lines.specs.Layout.{Record}
use Rattle.nms_lines.specs.declared.line.Line.TheVariants as line
use Rattle.nms_lines.specs.declared.line.Reading.TheVariants as source
use Rattle.nms_change_text.specs.ChangeText.{change_record}
use Rattle.nms_change_text.specs.ReadBack.{FitsRecord, ReadsBack}
use Rattle.nms_flow.specs.Flow.{room_under}
use Rattle.nms_flow.specs.Run.{Event, IsAnswered, IsRun, Standing, after, answer_to, answer_to_send, answer_to_take, changes_in}
use Rattle.nms_flow.specs.Run.{queue_at, standing_after, tape_at, version_at, version_published}
use Rattle.nms_flow.specs.declared.step.Step.TheVariants as step
use Rattle.nms_flow.specs.declared.reply.Reply.TheVariants as reply
use Rattle.nms_flow.proofs.Offered.{filter_map-push, is_run-push, standing_after-push}
use Rattle.nms_text.specs.Answers.{published_record, taken_record}
use Rattle.nms_scripts.specs.Script.{AnswersRecord, script_reading}
use Rattle.nms_answers.specs.Requests.{AnswersRequest}
use Rattle.nms_answers.specs.Merged.{Line, as_request, change_lines, own}
use Rattle.nms_answers.specs.OneScript.{AreSaid, Said, if_of, renumbered, requests_of, told_to}
use Rattle.nms_answers.proofs.LineFacts.{IsLookAt, answered_as, answers_change, belongs}

-- a client's request, with its place, its number, the length of the version after which it comes, the version that it was
-- answered on, and its answer
pub record Request : Type 0 where
  pub client : ℕ
  pub number : ℕ
  pub level : ℕ
  pub fields : Record
  pub look : Option Tape
  pub told : List Record

abbrev pub line_of : Request → Line
line_of request =
    record { owner = Some (record { client = request.client; number = request.number }); fields = as_request request.fields }

-- what is a client's
abbrev pub told_in : ℕ → Request → List Record
told_in client request = if request.client == client then request.told else []

abbrev pub fields_in : ℕ → Request → List Record
fields_in client request = if request.client == client then as_request request.fields ∷ [] else []

abbrev pub marked_by : Listing → Change → Marked
marked_by roster change = record { feed = unwrap_or (feed_of_change roster change) feed.A; change = change }

pub changes_in-marked : (roster : Listing) (tape : Tape) → changes_in (map (marked_by roster) tape) ≡ tape
changes_in-marked roster [] = refl
changes_in-marked roster (change ∷ tape) = ap (λ (l : List Change). change ∷ l) (changes_in-marked roster tape)

-- where a run has led that took all that it sent
abbrev pub standing_at : Listing → Tape → ℕ → Standing
standing_at roster tape published = record { sent = map (marked_by roster) tape; taken = length tape; published = published }

same_standing : (one other : Standing) → one.sent ≡ other.sent → one.taken ≡ other.taken → one.published ≡ other.published → one ≡ other
same_standing one other same_sent same_taken same_published = rw (same_sent, same_taken, same_published) refl

pub taken_is : (roster : Listing) (tape : Tape) (published : ℕ) → tape_at (standing_at roster tape published) ≡ tape
taken_is roster tape published = rw (changes_in-marked roster tape) (take_all (length tape) tape (omega arith))

pub shown_is : (roster : Listing) (tape : Tape) → version_at (standing_at roster tape (length tape)) ≡ tape
shown_is roster tape = ap (take (length tape)) (taken_is roster tape (length tape)) ∙ take_all (length tape) tape (omega arith)

-- one more line is answered
said-push : (settings : Settings) (number : ℕ) (said : List Said) (more : Said) (events more_events : List Event)
    → AreSaid settings number said events → AnswersRecord settings (number + length said) more.line.fields more_events more.told
    → AreSaid settings number (said ++ more ∷ []) (events ++ more_events)
unfolding AreSaid
said-push settings number [] more events more_events are is = (
  more_events,
  [],
  ap (λ (es : List Event). es ++ more_events) are ∙ sym (append-nil more_events),
  subst (λ (n : ℕ). AnswersRecord settings n more.line.fields more_events more.told) (omega arith) is,
  refl,
)
said-push settings number (first ∷ said) more events more_events are is = (
  are.0,
  are.1 ++ more_events,
  ap (λ (es : List Event). es ++ more_events) are.2 ∙ append_assoc are.0 are.1 more_events,
  are.3,
  said-push settings (number + 1) said more are.1 more_events are.4
      (subst (λ (n : ℕ). AnswersRecord settings n more.line.fields more_events more.told) (omega arith) is),
)

-- a run that answered these lines: its state, what it published, and whose requests were answered
pub record IsLed (settings : Settings) (at : Standing) (lengths : List ℕ) (lines : List Line) (asked : List Request) (said : List Said)
    (events : List Event) : Type 0 where
  pub run : IsRun (room_under settings) events
  pub stands : standing_after events ≡ at
  pub published : filter_map (λ (event : Event). version_published event.1) events ≡ lengths
  pub each : AreSaid settings 1 said events
  pub script : map (λ (it : Said). it.line) said ≡ lines
  pub told : (client : ℕ) → told_to client said ≡ flat_map (told_in client) asked
  pub requests : (client : ℕ) → requests_of client lines ≡ flat_map (fields_in client) asked

abbrev pub Led : Settings → Standing → List ℕ → List Line → List Request → Type 0
Led settings at lengths lines asked = (said : List Said) × (events : List Event) × IsLed settings at lengths lines asked said events

pub none_led : (settings : Settings) → Led settings (standing_at settings.roster [] 0) [] [] []
unfolding AreSaid
none_led settings = (
  [],
  [],
  record {
    run = λ place event at. absurd (cc);
    stands = refl;
    published = refl;
    each = refl;
    script = refl;
    told = λ client. refl;
    requests = λ client. refl;
  },
)

-- a line asks for one step, answered as the machine does, or for none
abbrev pub Goes : Settings → Standing → Standing → List ℕ → List Event → Type 0
Goes settings at next published [] = (next ≡ at) × (published ≡ [])
Goes settings at next published (event ∷ []) =
    (event.1 ≡ answer_to (room_under settings) at event.0) × (after at event ≡ next)
    × (option_to_list (version_published event.1) ≡ published)
Goes settings at next published (event ∷ other ∷ more) = ⊥

-- what a line adds, whatever its number in the script
pub record Adds (settings : Settings) (at next : Standing) (published : List ℕ) (line : Line) (asked : List Request) (number : ℕ) :
    Type 0 where
  pub told : List Record
  pub events : List Event
  pub answers : AnswersRecord settings number line.fields events told
  pub goes : Goes settings at next published events
  pub tells : (client : ℕ) → if_of client line.owner (λ (n : ℕ). map (renumbered n) told) ≡ flat_map (told_in client) asked

went : (settings : Settings) (at next : Standing) (published lengths : List ℕ) (events more : List Event)
    → IsRun (room_under settings) events → standing_after events ≡ at
    → filter_map (λ (event : Event). version_published event.1) events ≡ lengths → Goes settings at next published more
    → IsRun (room_under settings) (events ++ more) × (standing_after (events ++ more) ≡ next)
    × (filter_map (λ (event : Event). version_published event.1) (events ++ more) ≡ lengths ++ published)
went settings at next published lengths events [] run stands out goes =
    subst (λ (es : List Event). IsRun (room_under settings) es × (standing_after es ≡ next)
    × (filter_map (λ (event : Event). version_published event.1) es ≡ lengths ++ published)) (sym (append-nil events))
    (run, stands ∙ sym goes.0, out ∙ sym (ap (λ (l : List ℕ). lengths ++ l) goes.1 ∙ append-nil lengths))
went settings at next published lengths events (event ∷ []) run stands out goes = (
  is_run-push (room_under settings) events event run
      (subst (λ (s : Standing). IsAnswered (room_under settings) s event) (sym stands) (inl goes.0)),
  standing_after-push events event ∙ ap (λ (s : Standing). after s event) stands ∙ goes.1,
  filter_map-push (λ (e : Event). version_published e.1) events event
      ∙ ap (λ (l : List ℕ). l ++ option_to_list (version_published event.1)) out ∙ ap (λ (l : List ℕ). lengths ++ l) goes.2,
)
went settings at next published lengths events (event ∷ other ∷ more) run stands out goes = absurd goes

-- one line more
pub one_more : (settings : Settings) (at next : Standing) (lengths published all_lengths : List ℕ) (lines : List Line) (line : Line)
    (before asked all_asked : List Request)
    → ((number : ℕ) → Adds settings at next published line asked number)
    → ((client : ℕ) → if_of client line.owner (λ (n : ℕ). line.fields ∷ []) ≡ flat_map (fields_in client) asked)
    → lengths ++ published ≡ all_lengths → before ++ asked ≡ all_asked
    → Led settings at lengths lines before → Led settings next all_lengths (lines ++ line ∷ []) all_asked
one_more settings at next lengths published all_lengths lines line before asked all_asked adds requests out all (said, events, led) =
    let added = adds (1 + length said) in
    let more : Said = record { line = line; told = added.told } in
    let gone = went settings at next published lengths events added.events led.run led.stands led.published added.goes in (
      said ++ more ∷ [],
      events ++ added.events,
      record {
        run = gone.0;
        stands = gone.1;
        published = gone.2 ∙ out;
        each = said-push settings 1 said more events added.events led.each added.answers;
        script = map-append (λ (it : Said). it.line) said (more ∷ []) ∙ ap (λ (l : List Line). l ++ line ∷ []) led.script;
        told = λ client.
            flat_map-append (λ (it : Said). if_of client it.line.owner (λ (n : ℕ). map (renumbered n) it.told)) said (more ∷ [])
            ∙ ap (λ (l : List Record). l ++ (if_of client line.owner (λ (n : ℕ). map (renumbered n) added.told) ++ [])) (led.told client)
            ∙ ap (λ (l : List Record). flat_map (told_in client) before ++ l) (append-nil _ ∙ added.tells client)
            ∙ sym (flat_map-append (told_in client) before asked) ∙ ap (flat_map (told_in client)) all;
        requests = λ client.
            flat_map-append (λ (it : Line). if_of client it.owner (λ (n : ℕ). it.fields ∷ [])) lines (line ∷ [])
            ∙ ap (λ (l : List Record). l ++ (if_of client line.owner (λ (n : ℕ). line.fields ∷ []) ++ [])) (led.requests client)
            ∙ ap (λ (l : List Record). flat_map (fields_in client) before ++ l) (append-nil _ ∙ requests client)
            ∙ sym (flat_map-append (fields_in client) before asked) ∙ ap (flat_map (fields_in client)) all;
      },
    )

-- one line of the board's own more
own_more : (settings : Settings) (at next : Standing) (lengths published all_lengths : List ℕ) (lines : List Line) (fields : Record)
    (asked : List Request)
    → ((number : ℕ) → Adds settings at next published (own fields) [] number) → lengths ++ published ≡ all_lengths
    → Led settings at lengths lines asked → Led settings next all_lengths (lines ++ own fields ∷ []) asked
own_more settings at next lengths published all_lengths lines fields asked adds out led =
    one_more settings at next lengths published all_lengths lines (own fields) asked [] asked adds (λ client. refl) out
    (append-nil asked) led

module _ (settings : Settings) where
  queued : (at : Standing) → length (queue_at at) ≡ length at.sent - at.taken
  queued at = length-drop at.taken (changes_in at.sent) ∙ ap (λ (n : ℕ). n - at.taken) (length-map at.sent (λ (m : Marked). m.change))

  sent_ok : (at : Standing) → length (queue_at at) < settings.queue → answer_to_send (room_under settings) at ≡ Ok reply.Sent
  sent_ok at left = rw (ne_eqb (length (queue_at at)) settings.queue (λ e. omega (arith, e, left))) refl

  taken_ok : (at : Standing) → 0 < length (queue_at at) → at.taken < settings.tape_limit
      → answer_to_take (room_under settings) at ≡ Ok (reply.Taken (at.taken + 1))
  taken_ok at some left = rw (
    ne_eqb (length (queue_at at)) 0 (λ e. omega (arith, e, some)),
    ne_eqb at.taken settings.tape_limit (λ e. omega (arith, e, left)),
  ) refl

  -- a change is sent, and taken
  take_in : (tape : Tape) (published : ℕ) (lengths : List ℕ) (lines : List Line) (asked : List Request) (change : Change)
      → 1 ≤ settings.queue → length tape < settings.tape_limit → ReadsBack settings.roster change
      → holds (sizes_of settings.roster) change ≡ true
      → Led settings (standing_at settings.roster tape published) lengths lines asked
      → Led settings (standing_at settings.roster (tape ++ change ∷ []) published) lengths
      (lines ++ own (change_record settings.roster change) ∷ own (codes "T" ∷ []) ∷ []) asked
  take_in tape published lengths lines asked change queue limit reads held led =
      let marked : Marked = marked_by settings.roster change in
      let before : Standing = standing_at settings.roster tape published in
      let between : Standing = record { sent = before.sent ++ marked ∷ []; taken = length tape; published = published } in
      let next : Standing = standing_at settings.roster (tape ++ change ∷ []) published in
      let many : length before.sent ≡ length tape = length-map tape (marked_by settings.roster) in
      let more : length between.sent ≡ length before.sent + 1 = length-append before.sent (marked ∷ []) in
      let none : length (queue_at before) < settings.queue = omega (arith, queued before, many, queue) in
      let one : 0 < length (queue_at between) = omega (arith, queued between, many, more) in
      let said : script_reading settings (change_record settings.roster change) ≡ Ok (line.Change change) =
      reads (source.Script settings.desks) (refl, refl) in
      let feeds = belongs settings.roster change held in
      let mark : unwrap_or (feed_of_change settings.roster change) feed.A ≡ feeds.0 =
      ap (λ (o : Option Feed). unwrap_or o feed.A) feeds.1 in
      let sent : (number : ℕ) → Adds settings before between [] (own (change_record settings.roster change)) [] number = λ number. record {
        told = [];
        events = (step.Send marked.feed change, Ok reply.Sent) ∷ [];
        answers = answers_change settings number change ((step.Send marked.feed change, Ok reply.Sent) ∷ []) [] said
            (marked.feed, feeds.1 ∙ ap Some (sym mark), (Ok reply.Sent, (λ e. cc), refl, refl));
        goes = (sym (sent_ok before none), same_standing _ _ refl (omega arith) refl, refl);
        tells = λ client. refl;
      } in
      let took : (number : ℕ) → Adds settings between next [] (own (codes "T" ∷ [])) [] number = λ number. record {
        told = taken_record (length tape + 1) ∷ [];
        events = (step.Take, Ok (reply.Taken (length tape + 1))) ∷ [];
        answers = (Ok (reply.Taken (length tape + 1)), (λ e. cc), refl, refl);
        goes = (
          sym (taken_ok between one limit),
          same_standing _ _ (append-nil between.sent ∙ sym (map-append (marked_by settings.roster) tape (change ∷ [])))
              (sym (length-append tape (change ∷ []))) refl,
          refl,
        );
        tells = λ client. refl;
      } in
      subst (λ (ls : List Line). Led settings next lengths ls asked)
      (append_assoc lines (own (change_record settings.roster change) ∷ []) (own (codes "T" ∷ []) ∷ []))
      (own_more settings between next lengths [] lengths (lines ++ own (change_record settings.roster change) ∷ []) (codes "T" ∷ []) asked
      took (append-nil lengths)
      (own_more settings before between lengths [] lengths lines (change_record settings.roster change) asked sent (append-nil lengths)
      led))

  -- changes are sent and taken, one after another
  pub take_all_in : (tape more : Tape) (published : ℕ) (lengths : List ℕ) (lines : List Line) (asked : List Request) → 1 ≤ settings.queue
      → length tape + length more ≤ settings.tape_limit → AllByRecursion (ReadsBack settings.roster) more
      → AllByRecursion (FitsRecord settings.roster) more
      → Led settings (standing_at settings.roster tape published) lengths lines asked
      → Led settings (standing_at settings.roster (tape ++ more) published) lengths (lines ++ change_lines settings.roster more) asked
  take_all_in tape [] published lengths lines asked queue limit reads fits led =
      subst (λ (t : Tape). Led settings (standing_at settings.roster t published) lengths (lines ++ []) asked) (sym (append-nil tape))
      (subst (λ (ls : List Line). Led settings (standing_at settings.roster tape published) lengths ls asked) (sym (append-nil lines)) led)
  take_all_in tape (change ∷ more) published lengths lines asked queue limit reads fits led =
      let two : List Line = own (change_record settings.roster change) ∷ own (codes "T" ∷ []) ∷ [] in
      let now = take_in tape published lengths lines asked change queue (omega (arith, limit)) reads.0 fits.0.0 led in
      let rest = take_all_in (tape ++ change ∷ []) more published lengths (lines ++ two) asked queue
      (omega (arith, limit, length-append tape (change ∷ []))) reads.1 fits.1 now in
      subst (λ (t : Tape). Led settings (standing_at settings.roster t published) lengths
      (lines ++ change_lines settings.roster (change ∷ more)) asked) (append_assoc tape (change ∷ []) more)
      (subst (λ (ls : List Line). Led settings (standing_at settings.roster ((tape ++ change ∷ []) ++ more) published) lengths ls asked)
      (append_assoc lines two (change_lines settings.roster more)) rest)

  -- what was taken is published
  pub publish : (tape : Tape) (published : ℕ) (lengths : List ℕ) (lines : List Line) (asked : List Request)
      → Led settings (standing_at settings.roster tape published) lengths lines asked
      → Led settings (standing_at settings.roster tape (length tape)) (lengths ++ length tape ∷ []) (lines ++ own (codes "P" ∷ []) ∷ [])
      asked
  publish tape published lengths lines asked led =
      own_more settings (standing_at settings.roster tape published) (standing_at settings.roster tape (length tape)) lengths
      (length tape ∷ []) (lengths ++ length tape ∷ []) lines (codes "P" ∷ []) asked
      (λ number. record {
        told = published_record (length tape) ∷ [];
        events = (step.Publish, Ok (reply.Published (length tape))) ∷ [];
        answers = (Ok (reply.Published (length tape)), (λ e. cc), refl, refl);
        goes = (refl, same_standing _ _ (append-nil (map (marked_by settings.roster) tape)) (omega arith) refl, refl);
        tells = λ client. refl;
      }) refl led

  -- a request was answered on this tape, or refused
  abbrev pub IsAskedOn : Tape → Request → Type 0
  IsAskedOn tape request = AnswersRequest settings request.number request.fields request.look request.told
      × IfSome request.look (λ version. version ≡ tape)

  looks : (tape : Tape) (look : Option Tape) (events : List Event) → IfSome look (λ version. version ≡ tape)
      → IsLookAt settings look events
      → Goes settings (standing_at settings.roster tape (length tape)) (standing_at settings.roster tape (length tape)) [] events
  looks tape None events on is = rw is (refl, refl)
  looks tape (Some version) events on (desk, symbol, is) = rw is (
    ap (λ (t : Tape). Ok (reply.Seen (view_of (sizes_of settings.roster) t symbol))) (on ∙ sym (shown_is settings.roster tape)),
    same_standing _ _ (append-nil (map (marked_by settings.roster) tape)) (omega arith) refl,
    refl,
  )

  of_client : {X : Type 0} (same : Bool) (xs ys : List X) → xs ≡ ys → (if same then xs else []) ≡ (if same then ys else []) ++ []
  of_client true xs ys is = is ∙ sym (append-nil ys)
  of_client false xs ys is = refl

  ask : (tape : Tape) (lengths : List ℕ) (lines : List Line) (asked : List Request) (request : Request) → IsAskedOn tape request
      → Led settings (standing_at settings.roster tape (length tape)) lengths lines asked
      → Led settings (standing_at settings.roster tape (length tape)) lengths (lines ++ line_of request ∷ []) (asked ++ request ∷ [])
  ask tape lengths lines asked request is led =
      let at : Standing = standing_at settings.roster tape (length tape) in
      one_more settings at at lengths [] lengths lines (line_of request) asked (request ∷ []) (asked ++ request ∷ [])
      (λ number.
      let answered = answered_as settings request.number number request.fields request.look request.told is.0 in
      record {
        told = answered.also;
        events = answered.events;
        answers = answered.answers;
        goes = looks tape request.look answered.events is.1 answered.looks;
        tells = λ client. of_client (request.client == client) (map (renumbered request.number) answered.also) request.told answered.same;
      })
      (λ client. of_client (request.client == client) (as_request request.fields ∷ []) (as_request request.fields ∷ []) refl)
      (append-nil lengths) refl led

  -- requests are answered, one after another
  pub ask_all : (tape : Tape) (lengths : List ℕ) (lines : List Line) (asked more : List Request) → AllByRecursion (IsAskedOn tape) more
      → Led settings (standing_at settings.roster tape (length tape)) lengths lines asked
      → Led settings (standing_at settings.roster tape (length tape)) lengths (lines ++ map line_of more) (asked ++ more)
  ask_all tape lengths lines asked [] all led =
      subst (λ (rs : List Request). Led settings (standing_at settings.roster tape (length tape)) lengths (lines ++ []) rs)
      (sym (append-nil asked))
      (subst (λ (ls : List Line). Led settings (standing_at settings.roster tape (length tape)) lengths ls asked)
      (sym (append-nil lines)) led)
  ask_all tape lengths lines asked (request ∷ more) all led =
      subst (λ (rs : List Request). Led settings (standing_at settings.roster tape (length tape)) lengths
      (lines ++ map line_of (request ∷ more)) rs) (append_assoc asked (request ∷ []) more)
      (subst (λ (ls : List Line). Led settings (standing_at settings.roster tape (length tape)) lengths ls
      ((asked ++ request ∷ []) ++ more))
      (append_assoc lines (line_of request ∷ []) (map line_of more))
      (ask_all tape lengths (lines ++ line_of request ∷ []) (asked ++ request ∷ []) more all.1
      (ask tape lengths lines asked request all.0 led)))

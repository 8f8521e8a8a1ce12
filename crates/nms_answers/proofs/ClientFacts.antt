-- The requests of an epoch's clients, each with its answer, from what is known of each client.
use Rattle.std.proofs.Common.{ℕ, zero, suc, ◌≡◌, ◌+◌, ◌≤◌, inl, inr, List, [], ◌∷◌, ◌++◌, length, map, take, Option}
use Rattle.std.proofs.Common.{Some, None, refl, sym, ap, ap₂, subst, ◌∙◌, arith, slice_get, ◌==◌}
use Rattle.std.specs.Prelude.{Contains, IfSome, filter, flat_map}
use Rattle.std.specs.List.{AllByRecursion}
use Rattle.std.proofs.lemmas.Bool.{eq-eqb, ne_eqb}
use Rattle.std.proofs.lemmas.List.{append-nil, length-take-le, map-append}
use Rattle.std.proofs.lemmas.List.Elements.{filter-append}
use Rattle.nms_quote.specs.Tape.{Tape, version}
use Rattle.nms_fees.specs.Settings.{Settings}
use Rattle.nms_lines.specs.Layout.{Record}
use Rattle.nms_answers.specs.Requests.{AnswersRequest}
use Rattle.nms_answers.specs.Streams.{AnswersFrom}
use Rattle.nms_answers.specs.ServedEpoch.{Asked, Client, Epoch, IsClient, NeverFall, RiseTo, WasPublished, known_after}
use Rattle.nms_answers.specs.Merged.{Placed, as_request, placed_from, placed_of}
use Rattle.nms_answers.proofs.BlockFacts.{IsOneOf}
use Rattle.nms_answers.proofs.BlockFacts as blocks
use Rattle.nms_answers.proofs.RunFacts.{Request, line_of}

abbrev pub level_of : Request → ℕ
level_of request = request.level

abbrev pub placed_as : Request → Placed
placed_as request = record { version = request.level; line = line_of request }

-- those of the client at a place
abbrev pub of : ℕ → List Request → List Request
of client requests = filter (λ (r : Request). r.client == client) requests

-- a request was answered on the version after which it comes, or refused
abbrev pub IsGood : Settings → Tape → Request → Type 0
IsGood settings tape request = AnswersRequest settings request.number request.fields request.look request.told
    × IfSome request.look (λ seen. seen ≡ version request.level tape)

one_of : (ns : List ℕ) (n : ℕ) → Contains ns n → IsOneOf ns n
one_of [] n (place, lt, is) = absurd (omega arith)
one_of (m ∷ ms) n (zero, lt, is) = inl (sym is)
one_of (m ∷ ms) n (suc place, lt, is) = inr (one_of ms n (place, omega arith, is))

pub one_within : (low whole : ℕ) (ns : List ℕ) (n : ℕ) → RiseTo low whole ns → IsOneOf (low ∷ ns) n → n ≤ whole
one_within low whole ns n rise (inl here) = omega (arith, here, low_within low whole ns rise)
  where
    low_within : (low whole : ℕ) (ns : List ℕ) → RiseTo low whole ns → low ≤ whole
    low_within low whole [] rise = omega (arith, rise)
    low_within low whole (m ∷ ms) rise = omega (arith, rise.0, low_within m whole ms rise.1)
one_within low whole [] n rise (inr later) = absurd later
one_within low whole (m ∷ ms) n rise (inr later) = one_within m whole ms n rise.1 later

-- one client's requests
pub record OfClient (settings : Settings) (epoch : Epoch) (place number known : ℕ) (asked : List Asked) (told : List Record) : Type 0 where
  pub requests : List Request
  pub placed : map placed_as requests ≡ placed_from place number known asked
  pub told_all : flat_map (λ (r : Request). r.told) requests ≡ told
  pub fields_all : map (λ (r : Request). as_request r.fields) requests ≡ map (λ (a : Asked). as_request a.fields) asked
  pub clients : AllByRecursion (λ (r : Request). r.client ≡ place) requests
  pub good : AllByRecursion (IsGood settings epoch.tape) requests
  pub among : AllByRecursion (λ (r : Request). IsOneOf (0 ∷ epoch.lengths) r.level) requests
  pub rising : blocks.NeverFall level_of known requests

-- all clients' requests, client by client from a place on
pub record OfClients (settings : Settings) (epoch : Epoch) (place : ℕ) (clients : List Client) : Type 0 where
  pub requests : List Request
  pub placed : map placed_as requests ≡ placed_of place clients
  pub good : AllByRecursion (IsGood settings epoch.tape) requests
  pub beyond : AllByRecursion (λ (r : Request). place ≤ r.client) requests
  pub each : (nth at : ℕ) (client : Client) → at ≡ place + nth → slice_get clients nth ≡ Some client
      → (one : OfClient settings epoch at client.first 0 client.asked client.told) × (of at requests ≡ one.requests)

module _ (settings : Settings) (epoch : Epoch) (rise : RiseTo 0 (length epoch.tape) epoch.lengths) where
  -- the version after which a request comes was published, and its answer is on that version
  stands : (known : ℕ) (look : Option Tape) → IsOneOf (0 ∷ epoch.lengths) known → IfSome look (WasPublished epoch)
      → IsOneOf (0 ∷ epoch.lengths) (known_after known look) × IfSome look (λ seen. seen ≡ version (known_after known look) epoch.tape)
  stands known None one was = (one, tt)
  stands known (Some seen) one (n, among, is) =
      let found : IsOneOf (0 ∷ epoch.lengths) n = one_of (0 ∷ epoch.lengths) n among in
      let long : length seen ≡ n = ap length is
      ∙ length-take-le n epoch.tape (one_within 0 (length epoch.tape) epoch.lengths n rise found) in (
        subst (IsOneOf (0 ∷ epoch.lengths)) (sym long) found,
        is ∙ ap (λ (m : ℕ). take m epoch.tape) (sym long),
      )

  of_client : (place number known : ℕ) (asked : List Asked) (told : List Record)
      → AnswersFrom settings number (map (λ (a : Asked). a.fields) asked) (map (λ (a : Asked). a.look) asked) told
      → AllByRecursion (λ (a : Asked). IfSome a.look (WasPublished epoch)) asked → NeverFall known asked
      → IsOneOf (0 ∷ epoch.lengths) known
      → OfClient settings epoch place number known asked told
  unfolding AnswersFrom
  of_client place number known [] told answers was up one = record {
    requests = [];
    placed = refl;
    told_all = sym answers.1;
    fields_all = refl;
    clients = tt;
    good = tt;
    among = tt;
    rising = tt;
  }
  of_client place number known (first ∷ asked) told answers was up one =
      let same : first.look ≡ answers.0 = cc answers.4 in
      let others : map (λ (a : Asked). a.look) asked ≡ answers.1 = cc answers.4 in
      let level : ℕ = known_after known first.look in
      let here = stands known first.look one was.0 in
      let rest = of_client place (number + 1) level asked answers.3
      (subst (λ (l : List (Option Tape)). AnswersFrom settings (number + 1) (map (λ (a : Asked). a.fields) asked) l answers.3) (sym others)
      answers.7) was.1 up.1 here.0 in
      let request : Request = record {
        client = place;
        number = number;
        level = level;
        fields = first.fields;
        look = first.look;
        told = answers.2;
      } in
      record {
        requests = request ∷ rest.requests;
        placed = ap (λ (l : List Placed). placed_as request ∷ l) rest.placed;
        told_all = ap (λ (l : List Record). answers.2 ++ l) rest.told_all ∙ sym answers.5;
        fields_all = ap (λ (l : List Record). as_request first.fields ∷ l) rest.fields_all;
        clients = (refl, rest.clients);
        good = (
          (subst (λ (o : Option Tape). AnswersRequest settings number first.fields o answers.2) (sym same) answers.6, here.1),
          rest.good,
        );
        among = (here.0, rest.among);
        rising = (up.0, rest.rising);
      }

  append_all : {X : Type 0} (P : X → Type 0) (xs ys : List X) → AllByRecursion P xs → AllByRecursion P ys → AllByRecursion P (xs ++ ys)
  append_all P [] ys first second = second
  append_all P (x ∷ xs) ys first second = (first.0, append_all P xs ys first.1 second)

  weaker : {X : Type 0} (P Q : X → Type 0) → ((x : X) → P x → Q x) → (xs : List X) → AllByRecursion P xs → AllByRecursion Q xs
  weaker P Q gives [] all = tt
  weaker P Q gives (x ∷ xs) all = (gives x all.0, weaker P Q gives xs all.1)

  all_of : (at : ℕ) (requests : List Request) → AllByRecursion (λ (r : Request). r.client ≡ at) requests → of at requests ≡ requests
  all_of at [] all = refl
  all_of at (request ∷ requests) all =
      rw (eq-eqb request.client at all.0) (ap (λ (l : List Request). request ∷ l) (all_of at requests all.1))

  none_of : (at : ℕ) (requests : List Request) → AllByRecursion (λ (r : Request). r.client ≡ at → ⊥) requests → of at requests ≡ []
  none_of at [] all = refl
  none_of at (request ∷ requests) all = rw (ne_eqb request.client at all.0) (none_of at requests all.1)

  pub of_clients : (place : ℕ) (clients : List Client) → AllByRecursion (IsClient settings epoch) clients
      → OfClients settings epoch place clients
  of_clients place [] all = record {
    requests = [];
    placed = refl;
    good = tt;
    beyond = tt;
    each = λ nth at client same found. absurd (cc);
  }
  of_clients place (client ∷ clients) all =
      let first = of_client place client.first 0 client.asked client.told all.0.answered all.0.published all.0.rising (inl refl) in
      let rest = of_clients (place + 1) clients all.1 in
      record {
        requests = first.requests ++ rest.requests;
        placed = map-append placed_as first.requests rest.requests ∙ ap₂ (λ (a b : List Placed). a ++ b) first.placed rest.placed;
        good = append_all (IsGood settings epoch.tape) first.requests rest.requests first.good rest.good;
        beyond = append_all (λ (r : Request). place ≤ r.client) first.requests rest.requests
            (weaker (λ (r : Request). r.client ≡ place) (λ (r : Request). place ≤ r.client) (λ r is. omega (arith, is)) first.requests
            first.clients)
            (weaker (λ (r : Request). place + 1 ≤ r.client) (λ (r : Request). place ≤ r.client) (λ r is. omega (arith, is)) rest.requests
            rest.beyond);
        each = λ nth at wanted same found. by_place first rest nth at wanted same found;
      }
    where
      by_place : (first : OfClient settings epoch place client.first 0 client.asked client.told)
          (rest : OfClients settings epoch (place + 1) clients) (nth at : ℕ) (wanted : Client)
          → at ≡ place + nth → slice_get (client ∷ clients) nth ≡ Some wanted
          → (one : OfClient settings epoch at wanted.first 0 wanted.asked wanted.told)
          × (of at (first.requests ++ rest.requests) ≡ one.requests)
      by_place first rest zero at wanted same found =
          let here : at ≡ place = omega (arith, same) in
          let it : client ≡ wanted = cc found in
          let none : of place rest.requests ≡ [] =
          none_of place rest.requests (weaker (λ (r : Request). place + 1 ≤ r.client) (λ (r : Request). r.client ≡ place → ⊥)
          (λ r is e. omega (arith, is, e)) rest.requests rest.beyond) in
          let whole : of place (first.requests ++ rest.requests) ≡ first.requests =
          filter-append (λ (r : Request). r.client == place) first.requests rest.requests
          ∙ ap₂ (λ (a b : List Request). a ++ b) (all_of place first.requests first.clients) none ∙ append-nil first.requests in
          subst (λ (n : ℕ). (one : OfClient settings epoch n wanted.first 0 wanted.asked wanted.told)
          × (of n (first.requests ++ rest.requests) ≡ one.requests)) (sym here)
          (subst (λ (c : Client). (one : OfClient settings epoch place c.first 0 c.asked c.told)
          × (of place (first.requests ++ rest.requests) ≡ one.requests)) it (first, whole))
      by_place first rest (suc nth) at wanted same found =
          let later = rest.each nth at wanted (omega (arith, same)) found in
          let none : of at first.requests ≡ [] =
          none_of at first.requests (weaker (λ (r : Request). r.client ≡ place) (λ (r : Request). r.client ≡ at → ⊥)
          (λ r is e. omega (arith, is, e, same)) first.requests first.clients) in (
            later.0,
            filter-append (λ (r : Request). r.client == at) first.requests rest.requests
                ∙ ap (λ (a : List Request). a ++ of at rest.requests) none ∙ later.1,
          )

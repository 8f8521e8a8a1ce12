-- Clients by the parts between commas.
use Rattle.std.proofs.Common.{◌≡◌, ◌≢◌, ◌∙◌, ◌<◌, ◌+◌, ◌==◌, ◌||◌, ◌++◌, ℕ, zero, suc, Bool, Bor, true, false}
use Rattle.std.proofs.Common.{List, [], ◌∷◌, Option, Some, None}
use Rattle.std.proofs.Common.{map, drop, length, get_or, is_some, option_map, option_and_then, refl, sym, subst, ap, arith, if◌then◌else◌}
use borrow.Author.Tests.{eq-eqb, ne_eqb}
use Rattle.std.proofs.lemmas.List.{append_assoc, drop_more, map-append}
use Rattle.std.specs.List.{list_any}
use Rattle.std.specs.Str.{bytes_eq}
use Rattle.std.specs.String.{string_bytes}
use Rattle.clap.specs.Words.{Text}
use Rattle.nms_serve.specs.CommandLine.{Given, IsClientsFault, IsFaultOf, shown_client}
use Rattle.nms_serve.specs.Values.{Client, before_part, client_in, client_of, clients_of, comma_parts, feeds_of, has_twice}
use Rattle.nms_serve.specs.Values.{is_same_input, is_same_output, share_path}
use Rattle.nms_serve.specs.declared.words.request.ClientPaths.{ClientPaths}
use Rattle.nms_serve.specs.declared.words.words_fault.WordsFault.{WordsFault}
use Rattle.nms_serve.specs.declared.words.words_fault.WordsFault.TheVariants as fault
use Rattle.nms_serve.proofs.FeedLemmas.{Lacks, texts}
use Rattle.nms_serve.proofs.Lists.{any_map, twice_map}

-- ---- one value

abbrev parts_by : Bool → ℕ → List Text → List Text
parts_by b c parts = if b then [] ∷ parts else before_part c parts

no_comma : (c : ℕ) (rest : Text) → Lacks 44 (c ∷ rest) → (c == 44) ≡ false
no_comma c rest lacks = let no : c ≢ 44 = lacks 0 (omega arith) in ne_eqb c 44 no

lacks_rest : (c : ℕ) (rest : Text) → Lacks 44 (c ∷ rest) → Lacks 44 rest
lacks_rest c rest lacks = λ i within. lacks (suc i) (omega arith)

-- a text with no comma is one part
one_part : (text : Text) → Lacks 44 text → comma_parts text ≡ text ∷ []
one_part [] lacks = refl
one_part (c ∷ rest) lacks = ap (λ b. parts_by b c (comma_parts rest)) (no_comma c rest lacks)
    ∙ ap (before_part c) (one_part rest (lacks_rest c rest lacks))

-- the part before the first comma
first_part : (front back : Text) → Lacks 44 front → comma_parts (front ++ 44 ∷ back) ≡ front ∷ comma_parts back
first_part [] back lacks = refl
first_part (c ∷ rest) back lacks = ap (λ b. parts_by b c (comma_parts (rest ++ 44 ∷ back))) (no_comma c rest lacks)
    ∙ ap (before_part c) (first_part rest back (lacks_rest c rest lacks))

-- more than one part
abbrev HasMore : List Text → Type 0
HasMore [] = ⊥
HasMore (part ∷ []) = ⊥
HasMore (part ∷ other ∷ parts) = Unit {0}

one_before : (c : ℕ) (parts : List Text) → HasMore parts → HasMore (before_part c parts)
one_before c [] has = elim has [ ]
one_before c (part ∷ []) has = elim has [ ]
one_before c (part ∷ other ∷ parts) has = tt

after_comma : (text : Text) → HasMore ([] ∷ comma_parts text)
after_comma [] = tt
after_comma (c ∷ rest) = go (c == 44) (comma_parts rest)
  where
    go : (b : Bool) (parts : List Text) → HasMore ([] ∷ parts_by b c parts)
    go true parts = tt
    go false [] = tt
    go false (part ∷ parts) = tt

-- a comma makes more than one
more_parts : (text : Text) (i : ℕ) → i < length text → get_or text i 0 ≡ 44 → HasMore (comma_parts text)
more_parts [] i within is = absurd (omega arith)
more_parts (c ∷ rest) zero within is =
    let comma : c ≡ 44 = is in
    subst (λ b. HasMore (parts_by b c (comma_parts rest))) (sym (eq-eqb c 44 comma)) (after_comma rest)
more_parts (c ∷ rest) (suc i) within is = go (c == 44) (more_parts rest i (omega arith) is)
  where
    go : (b : Bool) → HasMore (comma_parts rest) → HasMore (parts_by b c (comma_parts rest))
    go true has = after_comma rest
    go false has = one_before c (comma_parts rest) has

none_of_more : (input : Text) (parts : List Text) → HasMore parts → client_in (input ∷ parts) ≡ None
none_of_more input [] has = elim has [ ]
none_of_more input (part ∷ []) has = elim has [ ]
none_of_more input (part ∷ other ∷ parts) has = refl

-- a value with no comma
pub client_without : (value : Text) → Lacks 44 value → client_of value ≡ None
client_without value lacks = ap client_in (one_part value lacks)

-- a value with one comma
pub client_with : (value input output : Text) → value ≡ input ++ 44 ∷ output → Lacks 44 input → Lacks 44 output
    → client_of value ≡ client_in (input ∷ output ∷ [])
client_with value input output is lacks lacks_more =
    ap client_of is ∙ ap client_in (first_part input output lacks ∙ ap (λ (parts : List Text). input ∷ parts) (one_part output lacks_more))

-- a value with more than one comma
pub client_with_more : (value input output : Text) → value ≡ input ++ 44 ∷ output → Lacks 44 input
    → (i : ℕ) → i < length output → get_or output i 0 ≡ 44 → client_of value ≡ None
client_with_more value input output is lacks i within comma =
    ap client_of is ∙ ap client_in (first_part input output lacks)
    ∙ none_of_more input (comma_parts output) (more_parts output i within comma)

-- a value with a comma and nothing on one side of it
pub client_with_none : (value input output : Text) → value ≡ input ++ 44 ∷ output → Lacks 44 input → input ≡ [] → client_of value ≡ None
client_with_none value input output is lacks none =
    ap client_of is ∙ ap client_in (first_part input output lacks) ∙ ap (λ (text : Text). client_in (text ∷ comma_parts output)) none
    ∙ go (comma_parts output)
  where
    go : (parts : List Text) → client_in ([] ∷ parts) ≡ None
    go [] = refl
    go (part ∷ []) = refl
    go (part ∷ other ∷ parts) = refl

-- a value with nothing after its comma
pub no_output : (input : Text) → client_in (input ∷ [] ∷ []) ≡ None
no_output [] = refl
no_output (c ∷ rest) = refl

-- two paths
pub both_given : (input output : Text) → 0 < length input → 0 < length output
    → client_in (input ∷ output ∷ []) ≡ Some (record { input = input; output = output })
both_given [] output some more = absurd (omega arith)
both_given (c ∷ rest) [] some more = absurd (omega arith)
both_given (c ∷ rest) (d ∷ others) some more = refl

-- ---- the values

-- the clients from i on, by the value at i
from_next : (values : List (Bor Text)) (i : ℕ) (d : Bor Text) → i < length values
    → clients_of (texts (drop i values)) ≡ option_and_then (λ client. option_map (λ clients. client ∷ clients)
    (clients_of (texts (drop (i + 1) values)))) (client_of (get_or values i d).now)
from_next values i d within = ap (λ (rest : List (Bor Text)). clients_of (texts rest)) (drop_more values i d within)

-- the value at i is no client, so there are no clients of it and those after it
none_from : (values : List (Bor Text)) (i : ℕ) (d : Bor Text) → i < length values → None ≡ client_of (get_or values i d).now
    → clients_of (texts (drop i values)) ≡ None
none_from values i d within none = from_next values i d within
    ∙ ap (option_and_then (λ (client : Client). option_map (λ clients. client ∷ clients)
    (clients_of (texts (drop (i + 1) values))))) (sym none)

joined : (before : List Client) (client : Client) (rest : Option (List Client))
    → option_map (λ after. before ++ after) (option_map (λ clients. client ∷ clients) rest)
    ≡ option_map (λ after. (before ++ client ∷ []) ++ after) rest
joined before client None = refl
joined before client (Some after) = ap (λ (clients : List Client). Some clients) (sym (append_assoc before (client ∷ []) after))

-- the client at i is before those after it
next_from : (before : List Client) (values : List (Bor Text)) (i : ℕ) (d : Bor Text) (client : Client) → i < length values
    → Some client ≡ client_of (get_or values i d).now
    → option_map (λ after. before ++ after) (clients_of (texts (drop i values)))
    ≡ option_map (λ after. (before ++ client ∷ []) ++ after) (clients_of (texts (drop (i + 1) values)))
next_from before values i d client within some =
    let rest = clients_of (texts (drop (i + 1) values)) in
    ap (option_map (λ (after : List Client). before ++ after)) (from_next values i d within
    ∙ ap (option_and_then (λ (one : Client). option_map (λ clients. one ∷ clients) rest)) (sym some))
    ∙ joined before client rest

-- the client at i is read: it is after the clients so far
pub one_read : (values : List (Bor Text)) (i : ℕ) (d : Bor Text) (clients more : List ClientPaths) (client : ClientPaths)
    → i < length values
    → clients_of (texts values) ≡ option_map (λ rest. map shown_client clients ++ rest) (clients_of (texts (drop i values)))
    → Some (shown_client client) ≡ client_of (get_or values i d).now → more ≡ clients ++ client ∷ []
    → clients_of (texts values) ≡ option_map (λ rest. map shown_client more ++ rest) (clients_of (texts (drop (i + 1) values)))
one_read values i d clients more client within so_far some all =
    so_far ∙ next_from (map shown_client clients) values i d (shown_client client) within some
    ∙ ap (λ (found : List Client). option_map (λ rest. found ++ rest) (clients_of (texts (drop (i + 1) values))))
    (sym (ap (map shown_client) all ∙ map-append shown_client clients (client ∷ [])))

-- the client at i is none: so the values give no clients
pub none_read : (values : List (Bor Text)) (i : ℕ) (d : Bor Text) (clients : List ClientPaths) → i < length values
    → clients_of (texts values) ≡ option_map (λ rest. map shown_client clients ++ rest) (clients_of (texts (drop i values)))
    → None ≡ client_of (get_or values i d).now → clients_of (texts values) ≡ None
none_read values i d clients within so_far none =
    so_far ∙ ap (option_map (λ (rest : List Client). map shown_client clients ++ rest)) (none_from values i d within none)

-- ---- paths

shared : (clients : List ClientPaths) (tape : Text)
    → share_path (map shown_client clients) tape ≡ (has_twice (λ one other. is_same_input (shown_client one) (shown_client other)) clients
    || (has_twice (λ one other. is_same_output (shown_client one) (shown_client other)) clients
    || list_any (λ client. bytes_eq tape (string_bytes client.output)) clients))
shared clients tape = λ i. twice_map is_same_input shown_client clients i
    || (twice_map is_same_output shown_client clients i || any_map (λ (c : Client). bytes_eq tape c.output) shown_client clients i)

-- the test of the clients and the tape, by what is given
pub shared_given : (clients read : List ClientPaths) (tape given : Text) (b : Bool) → read ≡ clients → tape ≡ given
    → b ≡ (has_twice (λ one other. is_same_input (shown_client one) (shown_client other)) read
    || (has_twice (λ one other. is_same_output (shown_client one) (shown_client other)) read
    || list_any (λ client. bytes_eq tape (string_bytes client.output)) read))
    → share_path (map shown_client clients) given ≡ b
shared_given clients read tape given b is same told =
    (λ i. share_path (map shown_client (sym is i)) (sym same i)) ∙ shared read tape ∙ sym told

-- a fault of the clients is one of all that is given
pub clients_fault : (given : Given) (why : WordsFault) → is_some (feeds_of given.feeds) ≡ true → IsClientsFault given.clients why
    → IsFaultOf given why
clients_fault given (fault.Parser text help) right is = elim is [ ]
clients_fault given fault.NoMemory right is = tt
clients_fault given fault.FeedForm right is = elim is [ ]
clients_fault given fault.FeedTwice right is = elim is [ ]
clients_fault given fault.ClientForm right is = (right, is)
clients_fault given fault.PathTwice right is = elim is [ ]
clients_fault given fault.StaleForm right is = elim is [ ]

-- What the arguments of the command line ask for, or why they are refused. This product's own rule.
use Rattle.std.specs.Prelude.{ℕ, ◌≡◌, Bool, true, false, List, [], ◌∷◌, map, fold, codes, unwrap_or}
use Rattle.std.specs.Prelude.{Option, Some, None, is_some, option_map}
use Rattle.std.specs.Option.{option_map_or}
use Rattle.std.specs.Str.{bytes_eq}
use Rattle.std.specs.String.{string_bytes}
use Rattle.clap.specs.Words.{App, IsAmong, Kinds, Row, Rule, Text, all_of, fault_of, first_of, matches_of, new_app, new_rule, with_rule}
use Rattle.clap.specs.Simple.{on_top}
use Rattle.clap.specs.declared.builder.action.ArgAction.TheVariants.{Append, SetTrue}
use Rattle.clap.specs.declared.error.kind.ErrorKind.{ErrorKind}
use Rattle.clap.specs.declared.error.kind.ErrorKind.TheVariants.{DisplayHelp, DisplayVersion}
use Rattle.nms_serve.specs.Values.{Client, Feed, IsFirstAtFault, clients_of, feed_of, feeds_of, share_path, stale_of}
use Rattle.nms_serve.specs.declared.words.request.ClientPaths.{ClientPaths}
use Rattle.nms_serve.specs.declared.words.request.FeedPath.{FeedPath}
use Rattle.nms_serve.specs.declared.words.request.Request.{Request}
use Rattle.nms_serve.specs.declared.words.words_fault.WordsFault.{WordsFault}
use Rattle.nms_serve.specs.declared.words.words_fault.WordsFault.TheVariants.{Parser, NoMemory, FeedForm, FeedTwice, ClientForm, PathTwice}
use Rattle.nms_serve.specs.declared.words.words_fault.WordsFault.TheVariants.{StaleForm}

-- ---- the options that the parser takes

-- an option with one value, as `--setup FILE`
abbrev pub valued_rule : Text → Rule
valued_rule name = record (new_rule name) { long = Some name; value_names = 1 }

-- a flag, as `--strict`
abbrev pub flag_rule : Text → Rule
flag_rule name = record (new_rule name) { long = Some name; action = Some SetTrue }

abbrev pub setup_rule : Rule
setup_rule = valued_rule (codes "setup")

-- it may be given several times, and is given at least once
abbrev pub feed_rule : Rule
feed_rule = record (valued_rule (codes "feed")) { action = Some Append; required = true }

-- it may be given several times
abbrev pub client_rule : Rule
client_rule = record (valued_rule (codes "client")) { action = Some Append }

-- it has to be given
abbrev pub tape_rule : Rule
tape_rule = record (valued_rule (codes "tape")) { required = true }

abbrev pub strict_rule : Rule
strict_rule = flag_rule (codes "strict")

abbrev pub keep_rule : Rule
keep_rule = flag_rule (codes "keep")

abbrev pub wait_rule : Rule
wait_rule = flag_rule (codes "wait")

abbrev pub stale_rule : Rule
stale_rule = valued_rule (codes "stale")

abbrev pub resume_rule : Rule
resume_rule = flag_rule (codes "resume")

abbrev pub check_rule : Rule
check_rule = flag_rule (codes "check")

abbrev pub status_rule : Rule
status_rule = valued_rule (codes "status")

abbrev pub ready_rule : Rule
ready_rule = valued_rule (codes "ready")

abbrev pub log_time_rule : Rule
log_time_rule = flag_rule (codes "log-time")

abbrev pub times_rule : Rule
times_rule = valued_rule (codes "times")

abbrev pub record_rule : Rule
record_rule = valued_rule (codes "record")

abbrev pub sync_rule : Rule
sync_rule = valued_rule (codes "sync")

-- the arguments are those after the program's name, no words at all are refused with the help, and there is a version to print
abbrev pub without_options : App
without_options = on_top (λ top. record top { no_binary_name = true; arg_required_else_help = true; has_version = true })
    (new_app (codes "nms_serve"))

-- with the options that name files
abbrev pub with_files : App
with_files = fold with_rule without_options (setup_rule ∷ feed_rule ∷ client_rule ∷ tape_rule ∷ [])

-- with those of how it goes on
abbrev pub with_ways : App
with_ways = fold with_rule with_files (strict_rule ∷ keep_rule ∷ wait_rule ∷ stale_rule ∷ resume_rule ∷ check_rule ∷ [])

-- the complete command line
abbrev pub serve : App
serve = fold with_rule with_ways (status_rule ∷ ready_rule ∷ log_time_rule ∷ times_rule ∷ record_rule ∷ sync_rule ∷ [])

-- ---- what the matches hold

-- the values of the options as they were written
pub record Given : Type 0 where
  pub setup : Option Text
  pub feeds : List Text
  pub clients : List Text
  pub tape : Text
  pub strict : Bool
  pub keep : Bool
  pub wait : Bool
  pub stale : Option Text
  pub resume : Bool
  pub check : Bool
  pub status : Option Text
  pub ready : Option Text
  pub log_time : Bool
  pub times : Option Text
  pub recorded : Option Text
  pub sync : Option Text

-- whether the matches hold the flag: the parser gives it the value `true` or `false`
abbrev pub is_flagged : List Row → Text → Bool
is_flagged rows name = option_map_or (λ value. bytes_eq value (codes "true")) (first_of name rows) false

-- what the matches hold; the parser refuses words without a tape
abbrev pub given_in : List Row → Given
given_in rows = record {
  setup = first_of (codes "setup") rows;
  feeds = unwrap_or (all_of (codes "feed") rows) [];
  clients = unwrap_or (all_of (codes "client") rows) [];
  tape = unwrap_or (first_of (codes "tape") rows) [];
  strict = is_flagged rows (codes "strict");
  keep = is_flagged rows (codes "keep");
  wait = is_flagged rows (codes "wait");
  stale = first_of (codes "stale") rows;
  resume = is_flagged rows (codes "resume");
  check = is_flagged rows (codes "check");
  status = first_of (codes "status") rows;
  ready = first_of (codes "ready") rows;
  log_time = is_flagged rows (codes "log-time");
  times = first_of (codes "times") rows;
  recorded = first_of (codes "record") rows;
  sync = first_of (codes "sync") rows;
}

-- what the arguments give, by the matches that the parser makes of them
abbrev pub given_by : List Text → Given
given_by words = given_in (matches_of serve words)

-- ---- what is asked

pub record Asked : Type 0 where
  pub setup : Option Text
  pub feeds : List Feed
  pub clients : List Client
  pub tape : Text
  pub strict : Bool
  pub keep : Bool
  pub wait : Bool
  pub stale : Option ℕ
  pub resume : Bool
  pub check : Bool
  pub status : Option Text
  pub ready : Option Text
  pub log_time : Bool
  pub times : Option Text
  pub recorded : Option Text
  pub sync : Option Text

-- what is given asks for that
pub record IsAsked (given : Given) (asked : Asked) : Type 0 where
  pub setup : asked.setup ≡ given.setup
  pub feeds : feeds_of given.feeds ≡ Some asked.feeds
  pub clients : clients_of given.clients ≡ Some asked.clients
  pub paths : share_path asked.clients given.tape ≡ false
  pub tape : asked.tape ≡ given.tape
  pub strict : asked.strict ≡ given.strict
  pub keep : asked.keep ≡ given.keep
  pub wait : asked.wait ≡ given.wait
  pub stale : stale_of given.stale ≡ Some asked.stale
  pub resume : asked.resume ≡ given.resume
  pub check : asked.check ≡ given.check
  pub status : asked.status ≡ given.status
  pub ready : asked.ready ≡ given.ready
  pub log_time : asked.log_time ≡ given.log_time
  pub times : asked.times ≡ given.times
  pub recorded : asked.recorded ≡ given.recorded
  pub sync : asked.sync ≡ given.sync

abbrev pub shown_feed : FeedPath → Feed
shown_feed feed = record { place = feed.place; path = string_bytes feed.path }

abbrev pub shown_client : ClientPaths → Client
shown_client client = record { input = string_bytes client.input; output = string_bytes client.output }

-- what a request asks
abbrev pub shown : Request → Asked
shown request = record {
  setup = option_map string_bytes request.setup;
  feeds = map shown_feed request.feeds.items;
  clients = map shown_client request.clients.items;
  tape = string_bytes request.tape;
  strict = request.strict;
  keep = request.keep;
  wait = request.wait;
  stale = request.stale;
  resume = request.resume;
  check = request.check;
  status = option_map string_bytes request.status;
  ready = option_map string_bytes request.ready;
  log_time = request.log_time;
  times = option_map string_bytes request.times;
  recorded = option_map string_bytes request.recorded;
  sync = option_map string_bytes request.sync;
}

-- ---- words that are no request

-- the kinds of fault that the parser finds in the arguments, among which it answers one; none if it takes them
abbrev pub faults_in : List Text → Kinds
faults_in = fault_of serve

-- the arguments ask for help, or for the version
abbrev pub asks_for_help : ErrorKind → Bool
asks_for_help DisplayHelp = true
asks_for_help DisplayVersion = true
asks_for_help _ = false

-- the fault of these values of `--feed`: that of the first one at fault; or out of memory
abbrev pub IsFeedsFault : List Text → WordsFault → Type 0
IsFeedsFault values NoMemory = Unit {0}
IsFeedsFault values FeedForm = (value : Text) × IsFirstAtFault values value × (feed_of value ≡ None)
IsFeedsFault values FeedTwice = (value : Text) × IsFirstAtFault values value × (is_some (feed_of value) ≡ true)
IsFeedsFault values _ = ⊥

-- the fault of these values of `--client`: one is no client; or out of memory
abbrev pub IsClientsFault : List Text → WordsFault → Type 0
IsClientsFault values NoMemory = Unit {0}
IsClientsFault values ClientForm = clients_of values ≡ None
IsClientsFault values _ = ⊥

-- the clients of what is given, if its feeds are right too
pub record HasClients (given : Given) (met : List Client) : Type 0 where
  pub feeds : is_some (feeds_of given.feeds) ≡ true
  pub clients : clients_of given.clients ≡ Some met

-- the fault of what the parser took. Values of `--feed` come first, then those of `--client`, then paths that are given twice,
-- and `--stale` comes last. Or memory is out.
abbrev pub IsFaultOf : Given → WordsFault → Type 0
IsFaultOf given FeedForm = IsFeedsFault given.feeds FeedForm
IsFaultOf given FeedTwice = IsFeedsFault given.feeds FeedTwice
IsFaultOf given ClientForm = (is_some (feeds_of given.feeds) ≡ true) × (clients_of given.clients ≡ None)
IsFaultOf given PathTwice = (clients : List Client) × HasClients given clients × (share_path clients given.tape ≡ true)
IsFaultOf given StaleForm =
    (clients : List Client) × HasClients given clients × (share_path clients given.tape ≡ false) × (stale_of given.stale ≡ None)
IsFaultOf given NoMemory = Unit {0}
IsFaultOf given (Parser text help) = ⊥

-- the parser's answer to these kinds of fault: one of them, marked as help if it is that; or out of memory
abbrev pub IsParserFault : Kinds → WordsFault → Type 0
IsParserFault kinds (Parser text help) = (kind : ErrorKind) × IsAmong kind kinds × (help ≡ asks_for_help kind)
IsParserFault kinds NoMemory = Unit {0}
IsParserFault kinds _ = ⊥

-- why the arguments are no request: a fault that the parser finds; or, if it finds none, the fault of what they give; or out of memory
abbrev pub IsRefusal : List Text → WordsFault → Type 0
IsRefusal words (Parser text help) = IsParserFault (faults_in words) (Parser text help)
IsRefusal words NoMemory = Unit {0}
IsRefusal words fault = (faults_in words ≡ []) × IsFaultOf (given_by words) fault

-- What the values of the options mean. This product's own rule.
use Rattle.std.specs.Prelude.{ℕ, ◌≡◌, ◌==◌, ◌-◌, ◌&&◌, ◌||◌, Bool, true, false, List, [], ◌∷◌, ◌++◌, nat_le}
use Rattle.std.specs.Prelude.{Option, Some, None, is_some, option_map, option_and_then, if◌then◌else◌}
use Rattle.std.specs.Char.{is_ascii_digit}
use Rattle.std.specs.List.{list_all, list_any}
use Rattle.std.specs.Str.{bytes_eq}
use Rattle.std.specs.Str.Parse.{digits_value}
use Rattle.clap.specs.Words.{Text}

-- what each value gives, in order, if each gives something
abbrev pub each_of : {X : Type 0} → (Text → Option X) → List Text → Option (List X)
each_of read [] = Some []
each_of read (value ∷ rest) = option_and_then (λ x. option_map (λ xs. x ∷ xs) (each_of read rest)) (read value)

-- whether one is there twice
abbrev pub has_twice : {X : Type 0} → (X → X → Bool) → List X → Bool
has_twice same [] = false
has_twice same (x ∷ rest) = list_any (same x) rest || has_twice same rest

abbrev pub is_given : Text → Bool
is_given [] = false
is_given _ = true

-- ---- --feed LETTER=PATH

-- a feed by its place, 0 for `A` to 7 for `H`, and the path that it is read from
pub record Feed : Type 0 where
  pub place : ℕ
  pub path : Text

-- the place of the feed that a letter from `A` to `H` names
abbrev pub place_of : Text → Option ℕ
place_of (letter ∷ []) = if nat_le 65 letter && nat_le letter 72 then Some (letter - 65) else None
place_of _ = None

-- the feed of a letter and a path that is not empty
abbrev pub feed_at : Option ℕ → Text → Option Feed
feed_at None path = None
feed_at (Some place) path = if is_given path then Some (record { place = place; path = path }) else None

-- the feed of a value: a letter from `A` to `H`, `=`, and a path
abbrev pub feed_of : Text → Option Feed
feed_of (letter ∷ equals ∷ path) = if equals == 61 then feed_at (place_of (letter ∷ [])) path else None
feed_of _ = None

abbrev pub is_same_feed : Feed → Feed → Bool
is_same_feed one other = one.place == other.place

-- the feeds, if no letter is there twice
abbrev pub apart : List Feed → Option (List Feed)
apart feeds = if has_twice is_same_feed feeds then None else Some feeds

-- the feeds of the values, in order: each value is one, and no letter is there twice
abbrev pub feeds_of : List Text → Option (List Feed)
feeds_of values = option_and_then apart (each_of feed_of values)

-- the values are feeds up to that one, which is none or has a letter that is there before it
pub record IsFirstAtFault (values : List Text) (value : Text) : Type 0 where
  pub before : List Text
  pub after : List Text
  pub split : values ≡ before ++ value ∷ after
  pub right : is_some (feeds_of before) ≡ true
  pub wrong : feeds_of (before ++ value ∷ []) ≡ None

-- ---- --client IN,OUT

-- a client by the path of its requests and the path of its answers
pub record Client : Type 0 where
  pub input : Text
  pub output : Text

abbrev pub before_part : ℕ → List Text → List Text
before_part c [] = (c ∷ []) ∷ []
before_part c (part ∷ parts) = (c ∷ part) ∷ parts

-- the parts of a text between its commas
abbrev pub comma_parts : Text → List Text
comma_parts [] = [] ∷ []
comma_parts (c ∷ rest) = if c == 44 then [] ∷ comma_parts rest else before_part c (comma_parts rest)

-- the client of two paths
abbrev pub client_in : List Text → Option Client
client_in (input ∷ output ∷ []) = if is_given input && is_given output then Some (record { input = input; output = output }) else None
client_in _ = None

-- the client of a value: two paths with a comma between them, and no other
abbrev pub client_of : Text → Option Client
client_of value = client_in (comma_parts value)

-- the clients of the values, in order
abbrev pub clients_of : List Text → Option (List Client)
clients_of values = each_of client_of values

abbrev pub is_same_input : Client → Client → Bool
is_same_input one other = bytes_eq one.input other.input

abbrev pub is_same_output : Client → Client → Bool
is_same_output one other = bytes_eq one.output other.output

-- whether two clients read one path, or two write to one path, or one writes to the tape
abbrev pub share_path : List Client → Text → Bool
share_path clients tape = has_twice is_same_input clients
    || (has_twice is_same_output clients || list_any (λ client. bytes_eq tape client.output) clients)

-- ---- --stale SECONDS

-- a day has 86,400 seconds
abbrev pub day : ℕ
day = 86400

-- the seconds, if they are 1 or more and no more than a day has
abbrev pub in_a_day : ℕ → Option ℕ
in_a_day seconds = if nat_le 1 seconds && nat_le seconds day then Some seconds else None

-- the seconds of a value: only digits, one or more, whose number is in a day
abbrev pub seconds_of : Text → Option ℕ
seconds_of value =
    if is_given value && list_all is_ascii_digit value then in_a_day (digits_value 10 value) else None

-- the seconds that an option gives, if its value is right: none if it is not given
abbrev pub stale_of : Option Text → Option (Option ℕ)
stale_of None = Some None
stale_of (Some value) = option_map (λ seconds. Some seconds) (seconds_of value)

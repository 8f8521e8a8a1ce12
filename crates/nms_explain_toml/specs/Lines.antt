-- A line of a setup's text: a header, or a key with its value. TOML 1.0, "Keys", "Table" and "Array of Tables", except for keys
-- with escapes: in quotes a key ends at the next quotation mark.
use Rattle.std.specs.Prelude.{ℕ, ◌+◌, ◌-◌, ◌≤◌, ◌==◌, ◌&&◌, ◌||◌, List, [], ◌∷◌, Bool, true, false}
use Rattle.std.specs.Prelude.{Option, Some, None, bytes_eq, codes, drop, length, option_map, position, take, take_while, if◌then◌else◌}
use Rattle.std.specs.Char.{is_ascii_alphanumeric}
use Rattle.nms_explain_toml.specs.declared.toml_line.Pair.{Pair}
use Rattle.nms_explain_toml.specs.Blanks.{trim, trim_end, trim_start}
use Rattle.nms_explain_toml.specs.Nesting.{begins, after_byte, is_plain, outer_nest}
use Rattle.nms_explain_toml.specs.declared.nest.Nest.{Nest}

-- whether a byte is allowed in a key without quotes
abbrev pub is_bare : ℕ → Bool
is_bare byte = (is_ascii_alphanumeric byte || byte == 95) || byte == 45

-- a key in quotes, after the first of them, and the text after it
abbrev pub quoted_key : ℕ → List ℕ → Option (List ℕ × List ℕ)
quoted_key quote text = option_map (λ end. (take end text, drop (end + 1) text)) (position (λ byte. byte == quote) text)

-- a key without quotes, and the text after it
abbrev pub bare_key : List ℕ → Option (List ℕ × List ℕ)
bare_key text =
    let long = length (take_while is_bare text) in
    if long == 0 then None else Some (take long text, drop long text)

-- the key at the beginning of a text, and the text after it
abbrev pub key_at : List ℕ → Option (List ℕ × List ℕ)
key_at text =
    if begins (34 ∷ []) text then quoted_key 34 (drop 1 text)
    else if begins (codes "'") text then quoted_key 39 (drop 1 text)
    else bare_key text

-- a name, without its quotes if it is a key
abbrev pub unquoted : List ℕ → Option (List ℕ × List ℕ) → List ℕ
unquoted name None = name
unquoted name (Some (key, rest)) = if length rest == 0 then key else name

-- the name before the next bracket, without white space round it
abbrev pub name_in : List ℕ → Option (List ℕ)
name_in text = option_map (λ end. unquoted (trim (take end text)) (key_at (trim (take end text)))) (position (λ byte. byte == 93) text)

-- the name in a header, and whether it has two brackets
abbrev pub header_in : List ℕ → Option (List ℕ × Bool)
header_in line =
    if begins (codes "[[") (trim line) then option_map (λ name. (name, true)) (name_in (drop 2 (trim line)))
    else if begins (codes "[") (trim line) then option_map (λ name. (name, false)) (name_in (drop 1 (trim line)))
    else None

-- whether a text begins with a key, and a point follows it
abbrev pub is_dotted : List ℕ → Option (List ℕ × List ℕ) → Bool
is_dotted key None = false
is_dotted key (Some (first, rest)) = bytes_eq first key && begins (codes ".") rest

-- whether the name in a header is a key, or begins with it and a point
abbrev pub names_key : List ℕ → List ℕ → Bool
names_key name key = bytes_eq name key || is_dotted key (key_at name)

-- whether a value ends before a byte: before a comma, a bracket or a brace that closes, or a comment
abbrev pub ends_value : ℕ → Bool
ends_value byte = ((byte == 44 || byte == 93) || byte == 125) || byte == 35

-- whether a byte there is TOML's own, outside all brackets and braces
abbrev pub is_free : Nest → Bool
is_free nest = (is_plain nest.within && nest.skipped == 0) && nest.depth == 0

-- how many bytes of a text come before the end of its value
abbrev pub value_length : Nest → List ℕ → ℕ
value_length nest [] = 0
value_length nest (byte ∷ rest) =
    if is_free nest && ends_value byte then 0 else 1 + value_length (after_byte nest (byte ∷ rest)) rest

-- the value that a text begins with
abbrev pub value_in : List ℕ → List ℕ
value_in text = trim_end (take (value_length outer_nest text) text)

-- the text after the `=` of a key; from the key on if a point follows it
abbrev pub value_after : List ℕ → List ℕ → Option (List ℕ)
value_after from_key rest =
    if begins (codes "=") (trim_start rest) then Some (trim_start (drop 1 (trim_start rest)))
    else if begins (codes ".") (trim_start rest) then Some from_key
    else None

-- the places of a key and its value in a line, given what follows each
abbrev pub placed : List ℕ → List ℕ → List ℕ → List ℕ → Pair
placed line from_key rest from_value = record {
  key = length line - length from_key;
  key_end = length line - length rest;
  start = length line - length from_value;
  end = (length line - length from_value) + length (value_in from_value);
}

-- the place of a key with its value in a line that begins with it, given what the line begins with
abbrev pub pair_of : List ℕ → List ℕ → List ℕ → Option (List ℕ × List ℕ) → Option Pair
pair_of line key from_key None = None
pair_of line key from_key (Some (found, rest)) =
    if bytes_eq found key then option_map (placed line from_key rest) (value_after from_key rest) else None

abbrev pub pair_in : List ℕ → List ℕ → Option Pair
pair_in line key = pair_of line key (trim_start line) (key_at (trim_start line))

-- the places of a key and its value, moved by n bytes
abbrev pub moved : Pair → ℕ → Pair
moved pair bytes = record {
  key = pair.key + bytes;
  key_end = pair.key_end + bytes;
  start = pair.start + bytes;
  end = pair.end + bytes;
}

-- the places of a key and of a value in a line of n bytes: each begins before it ends, and ends in the line
pub record IsIn (long : ℕ) (pair : Pair) : Type 0 where
  pub key : pair.key ≤ pair.key_end
  pub key_end : pair.key_end ≤ long
  pub start : pair.start ≤ pair.end
  pub end : pair.end ≤ long

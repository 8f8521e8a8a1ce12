-- How deep a place of a TOML text lies: in a comment, in a text in quotes, in the brackets and braces of a value. TOML 1.0,
-- "Comment", "String", "Array" and "Inline Table".
use Rattle.std.specs.Prelude.{ℕ, ◌+◌, ◌-◌, ◌==◌, ◌&&◌, ◌||◌, List, [], ◌∷◌, Bool, true, false, codes, nat_eq, if◌then◌else◌}
use Rattle.std.specs.List.{starts_with}
use Rattle.nms_explain_toml.specs.declared.nest.Nest.{Nest}
use Rattle.nms_explain_toml.specs.declared.nest.Within.{Within}
use Rattle.nms_explain_toml.specs.declared.nest.Within.TheVariants.{Plain, Basic, Literal, LongBasic, LongLiteral, Comment}

-- whether a text begins with a sign
abbrev pub begins : List ℕ → List ℕ → Bool
begins sign text = starts_with nat_eq text sign

-- before the first byte: TOML's own, and nothing is open
abbrev pub outer_nest : Nest
outer_nest = record { within = Plain; depth = 0; skipped = 0 }

-- what follows is read otherwise, after the other bytes of the sign that says so: `more` of them
abbrev pub entered : Within → ℕ → Nest → Nest
entered within more nest = record { within = within; depth = nest.depth; skipped = more }

-- with n brackets and braces open
abbrev pub at_depth : ℕ → Nest → Nest
at_depth depth nest = record { within = nest.within; depth = depth; skipped = 0 }

-- after a byte of TOML's own: three quotes or one begin a text, `#` a comment; a bracket or a brace opens or closes. One that
-- closes nothing leaves none open
abbrev pub after_plain : Nest → List ℕ → Nest
after_plain nest text =
    if begins (34 ∷ 34 ∷ 34 ∷ []) text then entered LongBasic 2 nest
    else if begins (codes "'''") text then entered LongLiteral 2 nest
    else if begins (34 ∷ []) text then entered Basic 0 nest
    else if begins (codes "'") text then entered Literal 0 nest
    else if begins (codes "#") text then entered Comment 0 nest
    else if begins (codes "[") text || begins (codes "{") text then at_depth (nest.depth + 1) nest
    else if begins (codes "]") text || begins (codes "}") text then at_depth (nest.depth - 1) nest
    else nest

-- after a byte of a text in quotes: the same quotes end it, and a backslash, if it escapes, takes the next byte with it
abbrev pub after_quoted : List ℕ → ℕ → Bool → Nest → List ℕ → Nest
after_quoted quotes more escapes nest text =
    if begins quotes text then entered Plain more nest
    else if escapes && begins (92 ∷ []) text then entered nest.within 1 nest
    else nest

-- after a byte, by what it is read as
abbrev pub after_read : Within → Nest → List ℕ → Nest
after_read Plain nest text = after_plain nest text
after_read Basic nest text = after_quoted (34 ∷ []) 0 true nest text
after_read Literal nest text = after_quoted (codes "'") 0 false nest text
after_read LongBasic nest text = after_quoted (34 ∷ 34 ∷ 34 ∷ []) 2 true nest text
after_read LongLiteral nest text = after_quoted (codes "'''") 2 false nest text
after_read Comment nest text = nest

-- after the first byte of a text
abbrev pub after_byte : Nest → List ℕ → Nest
after_byte nest text =
    if nest.skipped == 0 then after_read nest.within nest text else entered nest.within (nest.skipped - 1) nest

-- after each byte of a line
abbrev pub after_bytes : Nest → List ℕ → Nest
after_bytes nest [] = nest
after_bytes nest (byte ∷ rest) = after_bytes (after_byte nest (byte ∷ rest)) rest

-- what the bytes of the next line are read as: only a text in three quotes goes on
abbrev pub goes_on : Within → Within
goes_on LongBasic = LongBasic
goes_on LongLiteral = LongLiteral
goes_on _ = Plain

-- after the end of a line
abbrev pub after_end : Nest → Nest
after_end nest = entered (goes_on nest.within) 0 nest

-- after a line and its end
abbrev pub after_line : Nest → List ℕ → Nest
after_line nest line = after_end (after_bytes nest line)

-- whether the bytes are TOML's own
abbrev pub is_plain : Within → Bool
is_plain Plain = true
is_plain _ = false

-- whether a header or a key may begin there, if a line does
abbrev pub is_outer : Nest → Bool
is_outer nest = is_plain nest.within && nest.depth == 0

-- Texts that are the program's own, and stay within printable ASCII. This product's own rule.
use Rattle.std.specs.Prelude.{ℕ, ◌≡◌, ◌==◌, ◌&&◌, Bool, List, Option, Some, None, length, if◌then◌else◌}
use Rattle.std.specs.Borrow.{Bor}
use Rattle.std.specs.Int.{is_in_range}
use Rattle.std.specs.List.{list_all}
use Rattle.nms_show.specs.Safe.{own_text}
use Rattle.nms_show.specs.declared.item.Item.{Item}
use Rattle.nms_show.specs.declared.item.Item.TheVariants as item

-- from the space to the tilde
abbrev pub is_plain : List ℕ → Bool
is_plain text = list_all (is_in_range 32 126) text

-- the item's own text is such; a file's bytes and a number are no text of the program's own
abbrev pub is_own_plain : Item → Bool
is_own_plain shown = is_plain (own_text shown)

-- the key of a JSON object and its value are such
abbrev pub is_plain_member : Bor (List ℕ) × Item → Bool
is_plain_member member = is_plain member.0.now && is_own_plain member.1

-- the item of a text of a file or of the call: its bytes; absent if there is no text
abbrev pub IsItemOf : Option (Bor (List ℕ)) → Item → Type 0
IsItemOf None shown = shown ≡ item.Absent
IsItemOf (Some text) shown = (bytes : Bor (List ℕ)) × (shown ≡ item.Bytes bytes) × (bytes.now ≡ text.now)

-- the text, if it is not empty
abbrev pub if_any : Bor (List ℕ) → Option (Bor (List ℕ))
if_any text = if length text.now == 0 then None else Some text

-- words that come before a text: absent if there is no text
abbrev pub words_if : Option (Bor (List ℕ)) → Bor (List ℕ) → Item
words_if None words = item.Absent
words_if (Some text) words = item.Text words

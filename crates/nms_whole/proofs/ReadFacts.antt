-- What known bytes become from one read to the next.
use Rattle.std.proofs.Common.{ℕ, ◌≡◌, ◌++◌, List, [], false, Option, Some, None, refl, ap, sym, ◌∙◌, append_assoc}
use Rattle.std.specs.Prelude.{option_map}
use Rattle.std.specs.Io.KnownBytes.{Consumes, IsAtEnd, Keeps}
use Rattle.nms_whole.specs.Going.{given_after}
use Rattle.nms_whole.specs.Lines.{whole_lines}
use Rattle.nms_whole.proofs.LineFacts.{whole_from}

-- kept twice is kept
pub keeps_on : (a b c : Option (List ℕ)) → Keeps a b → Keeps b c → Keeps a c
keeps_on None b c first then = tt
keeps_on (Some xs) None c first then = absurd first
keeps_on (Some xs) (Some ys) None first then = absurd then
keeps_on (Some xs) (Some ys) (Some zs) first then = then ∙ first

pub keeps_itself : (a : Option (List ℕ)) → Keeps a a
keeps_itself None = tt
keeps_itself (Some xs) = refl

-- kept, and then consumed
pub keeps_consumes : (a b c : Option (List ℕ)) (bytes : List ℕ) → Keeps a b → Consumes b c bytes → Consumes a c bytes
keeps_consumes None b c bytes same took = tt
keeps_consumes (Some xs) None c bytes same took = absurd same
keeps_consumes (Some xs) (Some ys) c bytes same took = rw (← same) took

-- a source that gave some bytes, of which this much was made
pub made_of : (old new : Option (List ℕ)) (bytes : List ℕ) (before after : List ℕ → List ℕ)
    → ((rest : List ℕ) → after rest ≡ before (bytes ++ rest)) → Consumes old new bytes
    → Keeps (option_map before old) (option_map after new)
made_of None new bytes before after made took = tt
made_of (Some xs) None bytes before after made took = absurd took
made_of (Some xs) (Some ys) bytes before after made took = made ys ∙ ap before (sym took)

-- a source that has ended, of which the rest was made
pub made_last : (old new : Option (List ℕ)) (before after : List ℕ → List ℕ) → after [] ≡ before [] → Consumes old new [] → IsAtEnd new
    → Keeps (option_map before old) (option_map after new)
made_last None new before after made took end = tt
made_last (Some xs) None before after made took end = absurd took
made_last (Some xs) (Some ys) before after made took end = ap after end ∙ made ∙ ap before (sym (took ∙ end))

-- a source that gave none, of which the same is still made
pub kept_of : (old new : Option (List ℕ)) (before : List ℕ → List ℕ) → Keeps old new → Keeps (option_map before old) (option_map before new)
kept_of None new before same = tt
kept_of (Some xs) None before same = absurd same
kept_of (Some xs) (Some ys) before same = ap before same

-- at the end of the source nothing is made any more
pub ended_of : (left : Option (List ℕ)) (after : List ℕ → List ℕ) → IsAtEnd left → after [] ≡ [] → IsAtEnd (option_map after left)
ended_of None after end none = tt
ended_of (Some xs) after end none = ap after end ∙ none

-- from the beginning
pub from_first : (left : Option (List ℕ)) (made : List ℕ → List ℕ) → ((bytes : List ℕ) → made bytes ≡ given_after [] false bytes)
    → option_map made left ≡ option_map whole_lines left
from_first None made is = refl
from_first (Some xs) made is = ap Some (is xs ∙ whole_from xs)

-- a part of what is ready was given
pub gave : (left : Option (List ℕ)) (front rest : List ℕ) (more : List ℕ → List ℕ)
    → Consumes (option_map (λ bytes. (front ++ rest) ++ more bytes) left) (option_map (λ bytes. rest ++ more bytes) left) front
gave None front rest more = tt
gave (Some xs) front rest more = append_assoc front rest (more xs)

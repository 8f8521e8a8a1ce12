-- Symbols that are added to a roster in turn.
use Rattle.std.proofs.Common.{ℕ, ◌≡◌, ◌++◌, ◌∷◌, [], List, map, refl, sym, ◌∙◌}
use Rattle.std.proofs.lemmas.List.{append-nil, append_assoc, map-append}
use Rattle.nms_quote.specs.Roster.{Listing}
use Rattle.nms_shards.specs.Added.{Grown}

-- nothing was added
pub grown_none : (roster : Listing) → Grown roster roster
grown_none roster = record { names = []; parts = refl; syms = sym (append-nil roster.syms) }

-- one was added
pub grown_one : (before after : Listing) (name : List ℕ) → after.syms ≡ before.syms ++ (name, 100) ∷ [] → after.parts ≡ before.parts
    → Grown before after
grown_one before after name syms parts = record { names = name ∷ []; parts = parts; syms = syms }

-- some were added, and then more
pub grown_more : (first second third : Listing) → Grown first second → Grown second third → Grown first third
grown_more first second third some more = record {
  names = some.names ++ more.names;
  parts = more.parts ∙ some.parts;
  syms =
      let listed : List ℕ → List ℕ × ℕ = λ name. (name, 100) in
      rw (more.syms, some.syms, map-append listed some.names more.names)
      (append_assoc first.syms (map listed some.names) (map listed more.names));
}

-- How a desk's work comes from one order to the next.
use Rattle.std.proofs.Common.{ℕ, ◌≡◌, ◌≤◌, ◌++◌, List, [], ◌∷◌, length, refl, ap, ◌∙◌, inl, inr, arith}
use Rattle.std.specs.List.{AllByRecursion, AllZip}
use mathlib.Core.List.{map-append}
use Rattle.nms_quote.specs.Tape.{Tape}
use Rattle.nms_fees.specs.Settings.{Settings}
use Rattle.nms_versions.specs.Taped.{AllBegin, longest_of}
use Rattle.nms_versions.proofs.Offered.{prefix_length}
use Rattle.nms_live.specs.Answering.{IsBestOn, IsFor, IsWorked, versions}
use Rattle.nms_live.specs.Lists.{IsRising, SomeOf}
use Rattle.nms_quote.specs.declared.answer.Answer.{Answer}
use Rattle.nms_quote.specs.declared.desk_order.DeskOrder.{DeskOrder}
use Rattle.nms_live.proofs.NumberFacts.{all_push, all_weaker, below_all, rising_push}

-- a desk's work so far: what it knew first is still known, and its answers are on versions that it knows
pub record IsSoFar (settings : Settings) (orders : List (ℕ × DeskOrder)) (first known : List Tape) (answers : List Answer) : Type 0 where
  pub knows : (more : List Tape) × (known ≡ more ++ first)
  pub matched : AllZip IsFor orders answers
  pub best : AllByRecursion (λ answer. SomeOf (λ tape. IsBestOn settings tape answer) known) answers
  pub rising : IsRising (versions answers)
  pub within : AllByRecursion (λ n. n ≤ longest_of known) (versions answers)
  pub later : AllByRecursion (λ n. longest_of first ≤ n) (versions answers)

-- the answer is the best on a version that the desk saw now, which begins with all that it knew
abbrev pub IsBestStep : Answer → List Tape → List Tape → Settings → Type 0
IsBestStep answer known new settings =
    (tape : Tape) × (new ≡ tape ∷ known) × AllBegin tape known × (answer.plan.version ≡ length tape) × IsBestOn settings tape answer

pub so_far_start : (settings : Settings) (first : List Tape) → IsSoFar settings [] first first []
so_far_start settings first = record { knows = ([], refl); matched = tt; best = tt; rising = tt; within = tt; later = tt }

-- all that begins a version is no longer than it
pub longest_begins : (tape : Tape) (known : List Tape) → AllBegin tape known → longest_of known ≤ length tape
longest_begins tape [] all = omega arith
longest_begins tape (earlier ∷ known) all = omega (arith, prefix_length earlier tape all.0, longest_begins tape known all.1)

pub longest_append : (more first : List Tape) → longest_of first ≤ longest_of (more ++ first)
longest_append [] first = omega arith
longest_append (tape ∷ more) first = omega (arith, longest_append more first)

pub zip_push : {A B : Type 0} (R : A → B → Type 0) (xs : List A) (ys : List B) (x : A) (y : B) → AllZip R xs ys → R x y
    → AllZip R (xs ++ x ∷ []) (ys ++ y ∷ [])
zip_push R [] [] x y all here = (here, tt)
zip_push R [] (b ∷ ys) x y all here = absurd all
zip_push R (a ∷ xs) [] x y all here = absurd all
zip_push R (a ∷ xs) (b ∷ ys) x y all here = (all.0, zip_push R xs ys x y all.1 here)

-- an order more, answered on a version that begins with all that it knows
pub so_far_more : (settings : Settings) (orders : List (ℕ × DeskOrder)) (order : ℕ × DeskOrder) (first known new : List Tape)
    (answers : List Answer) (answer : Answer) (tape : Tape)
    → IsFor order answer → new ≡ tape ∷ known → AllBegin tape known → answer.plan.version ≡ length tape
    → IsBestOn settings tape answer
    → IsSoFar settings orders first known answers → IsSoFar settings (orders ++ order ∷ []) first new (answers ++ answer ∷ [])
so_far_more settings orders order first known new answers answer tape for is begins version best had =
    let le : longest_of known ≤ length tape = longest_begins tape known begins in
    let low : longest_of first ≤ longest_of known = rw had.knows.1 (longest_append had.knows.0 first) in
    let top : length tape ≤ longest_of (tape ∷ known) = omega arith in
    let all : versions (answers ++ answer ∷ []) ≡ versions answers ++ length tape ∷ [] =
    map-append (λ (a : Answer). a.plan.version) answers (answer ∷ []) ∙ ap (λ (n : ℕ). versions answers ++ n ∷ []) version in
    let below = below_all (versions answers) (longest_of known) (length tape) le had.within in
    rw is (record {
      knows = (tape ∷ had.knows.0, ap (λ (k : List Tape). tape ∷ k) had.knows.1);
      matched = zip_push IsFor orders answers order answer had.matched for;
      best = all_push (λ (a : Answer). SomeOf (λ t. IsBestOn settings t a) (tape ∷ known)) answers answer
          (all_weaker (λ (a : Answer). SomeOf (λ t. IsBestOn settings t a) known)
          (λ (a : Answer). SomeOf (λ t. IsBestOn settings t a) (tape ∷ known)) answers (λ a some. inr some) had.best)
          (inl best);
      rising = rw all (rising_push (versions answers) (length tape) had.rising below);
      within = rw all (all_push (λ n. n ≤ longest_of (tape ∷ known)) (versions answers) (length tape)
          (below_all (versions answers) (length tape) (longest_of (tape ∷ known)) top below) top);
      later = rw all (all_push (λ n. longest_of first ≤ n) (versions answers) (length tape) had.later (omega (arith, low, le)));
    })

pub worked_so_far : (settings : Settings) (orders : List (ℕ × DeskOrder)) (first known : List Tape) (answers : List Answer)
    → IsSoFar settings orders first known answers → IsWorked settings orders known answers
worked_so_far settings orders first known answers had = record { matched = had.matched; best = had.best; rising = had.rising }

-- What follows once a desk has settled: each version that it knew begins the tape, and was published.
use Rattle.std.proofs.Common.{ℕ, ◌≡◌, ◌≤◌, ◌⊎◌, ◌++◌, List, [], ◌∷◌, length, take, ap, sym, subst, ◌∙◌, inl, inr, arith}
use Rattle.std.specs.List.{AllByRecursion, Contains}
use Rattle.std.proofs.Math.Seq.{take-append_seam}
use mathlib.Core.List.{IsPrefix, map-append}
use Rattle.nms_quote.specs.Tape.{Tape, version}
use Rattle.nms_fees.specs.Settings.{Settings}
use Rattle.nms_versions.specs.Published.{Batches, publications}
use Rattle.nms_versions.specs.Taped.{AllBegin, longest_of}
use Rattle.nms_versions.proofs.Offered.{prefix_length}
use Rattle.nms_live.specs.Answering.{IsBestOn, IsClosed, IsSound, IsWorked, numbered, own, versions}
use Rattle.nms_live.specs.Keeping.{AreListed}
use Rattle.nms_live.specs.Lists.{IsRising, SomeOf}
use Rattle.nms_quote.specs.declared.answer.Answer.{Answer}
use Rattle.nms_live.specs.declared.closing.DeskRow.{DeskRow}
use Rattle.nms_quote.specs.declared.desk_order.DeskOrder.{DeskOrder}
use Rattle.nms_live.proofs.NumberFacts.{all_append, all_weaker}

prefix_take : (front tape : Tape) → IsPrefix front tape → version (length front) tape ≡ front
prefix_take front tape p = ap (take (length front)) (sym p.1) ∙ take-append_seam front p.0

-- these versions begin the tape, and were published
pub record AreSettled (published : Batches) (tape : Tape) (known : List Tape) : Type 0 where
  pub begin : AllBegin tape known
  pub published_them : AllByRecursion (λ earlier. Contains (publications published) (length earlier)) known

best_at : (settings : Settings) (published : Batches) (listed : List ℕ) (tape earlier : Tape) (answer : Answer) → AreListed published listed
    → IsPrefix earlier tape → Contains (publications published) (length earlier) → IsBestOn settings earlier answer
    → IsSound settings tape listed answer × (answer.plan.version ≤ length tape)
best_at settings published listed tape earlier answer listed_all begins among best =
    let is : answer.plan.version ≡ length earlier = best.accepted.faultless.version in
    let whole : version answer.plan.version tape ≡ earlier = ap (λ (n : ℕ). version n tape) is ∙ prefix_take earlier tape begins in
    let P : Tape → Type 0 = λ t. IsBestOn settings t answer in
    let Q : ℕ → Type 0 = λ n. (n ≡ 0) ⊎ Contains listed n in (
      record { published_it = subst Q (sym is) ((listed_all (length earlier)).0 among); best = subst P (sym whole) best },
      omega (arith, is, prefix_length earlier tape begins),
    )

sound_one : (settings : Settings) (published : Batches) (listed : List ℕ) (tape : Tape) (known : List Tape) (answer : Answer)
    → AreListed published listed
    → AllBegin tape known → AllByRecursion (λ earlier. Contains (publications published) (length earlier)) known
    → SomeOf (λ t. IsBestOn settings t answer) known
    → IsSound settings tape listed answer × (answer.plan.version ≤ length tape)
sound_one settings published listed tape [] answer listed_all begins among some = absurd some
sound_one settings published listed tape (earlier ∷ known) answer listed_all begins among (inl best) =
    best_at settings published listed tape earlier answer listed_all begins.0 among.0 best
sound_one settings published listed tape (earlier ∷ known) answer listed_all begins among (inr some) =
    sound_one settings published listed tape known answer listed_all begins.1 among.1 some

-- answers on versions that a settled desk knew
record AreSound (settings : Settings) (listed : List ℕ) (tape : Tape) (answers : List Answer) : Type 0 where
  sound : AllByRecursion (IsSound settings tape listed) answers
  within : AllByRecursion (λ n. n ≤ length tape) (versions answers)

sound_all : (settings : Settings) (published : Batches) (listed : List ℕ) (tape : Tape) (known : List Tape) (answers : List Answer)
    → AreListed published listed → AreSettled published tape known
    → AllByRecursion (λ answer. SomeOf (λ t. IsBestOn settings t answer) known) answers → AreSound settings listed tape answers
sound_all settings published listed tape known [] listed_all settled best = record { sound = tt; within = tt }
sound_all settings published listed tape known (answer ∷ answers) listed_all settled best =
    let first = sound_one settings published listed tape known answer listed_all settled.begin settled.published_them best.0 in
    let rest = sound_all settings published listed tape known answers listed_all settled best.1 in
    record { sound = (first.0, rest.sound); within = (first.1, rest.within) }

some_later : {X : Type 0} (P : X → Type 0) (xs ys : List X) → SomeOf P ys → SomeOf P (xs ++ ys)
some_later P [] ys some = some
some_later P (x ∷ xs) ys some = inr (some_later P xs ys some)

rising_append : (xs ys : List ℕ) (m : ℕ) → IsRising xs → IsRising ys → AllByRecursion (λ n. n ≤ m) xs → AllByRecursion (λ n. m ≤ n) ys
    → IsRising (xs ++ ys)
rising_append [] ys m one other low high = other
rising_append (x ∷ xs) ys m one other low high =
    let le = low.0 in (
      all_append (λ n. x ≤ n) xs ys one.0 (all_weaker (λ n. m ≤ n) (λ n. x ≤ n) ys (λ n h. omega (arith, h, le)) high),
      rising_append xs ys m one.1 other low.1 high,
    )

all_equal : (answers : List Answer) (m : ℕ) → AllByRecursion (λ n. n ≤ m) (versions answers)
    → AllByRecursion (λ n. m ≤ n) (versions answers) → AllByRecursion (λ answer. answer.plan.version ≡ m) answers
all_equal [] m low high = tt
all_equal (answer ∷ answers) m low high = (omega (arith, low.0, high.0), all_equal answers m low.1 high.1)

-- a desk that learned of the complete tape, answered its orders again, and settled
pub closed : (settings : Settings) (desk : ℕ) (orders : List DeskOrder) (published : Batches) (listed : List ℕ) (tape : Tape)
    (before after more : List Tape) (row : DeskRow)
    → AreListed published listed → AreSettled published tape after → after ≡ more ++ tape ∷ before
    → IsWorked settings (own desk (numbered orders)) before row.answers.items
    → IsWorked settings (own desk (numbered orders)) after row.closing.items
    → AllByRecursion (λ n. longest_of (tape ∷ before) ≤ n) (versions row.closing.items)
    → IsClosed settings desk orders tape listed row
closed settings desk orders published listed tape before after more row listed_all settled is worked again later =
    let answers = row.answers.items in
    let closing = row.closing.items in
    let known : AllByRecursion (λ answer. SomeOf (λ t. IsBestOn settings t answer) after) answers =
    all_weaker (λ (a : Answer). SomeOf (λ t. IsBestOn settings t a) before) (λ (a : Answer). SomeOf (λ t. IsBestOn settings t a) after)
    answers
    (λ a some. rw is (some_later (λ t. IsBestOn settings t a) more (tape ∷ before) (inr some))) worked.best in
    let one = sound_all settings published listed tape after answers listed_all settled known in
    let two = sound_all settings published listed tape after closing listed_all settled again.best in
    let top : AllByRecursion (λ n. length tape ≤ n) (versions closing) =
    all_weaker (λ n. longest_of (tape ∷ before) ≤ n) (λ n. length tape ≤ n) (versions closing) (λ n h. omega (arith, h)) later in
    record {
      matched = worked.matched;
      closing_matched = again.matched;
      sound = one.sound;
      closing_sound = two.sound;
      rising = rw (map-append (λ (a : Answer). a.plan.version) answers closing)
          (rising_append (versions answers) (versions closing) (length tape) worked.rising again.rising one.within top);
      last = all_equal closing (length tape) two.within top;
    }

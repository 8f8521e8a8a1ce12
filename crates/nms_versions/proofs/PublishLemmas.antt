-- How appending and publishing move what a publisher keeps.
use Rattle.std.proofs.Common.{ℕ, zero, suc, ◌≡◌, ◌+◌, ◌<◌, ◌≤◌, ◌⊎◌, ◌↔◌, inl, inr, ⊎_elim, Bool, true, false, List, [], ◌∷◌, ◌++◌, length}
use Rattle.std.proofs.Common.{fold, All, refl, ap, sym, ◌∙◌, subst, arith, append_assoc, length-append, slice_index_or}
use Rattle.std.specs.List.{Contains}
use Rattle.std.proofs.lemmas.List.{append-nil}
use Rattle.std.proofs.lemmas.List.Elements.{All-head, All-nil, All-push, All-tail, Contains-append_cases, Contains-append_left}
use Rattle.std.proofs.lemmas.List.Elements.{Contains-append_right}
use Rattle.nms_quote.specs.Roster.{Sizes, holds}
use Rattle.nms_quote.specs.Tape.{Tape}
use Rattle.nms_quote.specs.declared.TheConstants.{MOST_CHANGES}
use Rattle.nms_quote.specs.declared.change.Change.{Change}
use Rattle.nms_board.specs.Cells.{Board, StandsFor, after, takes}
use Rattle.nms_board.proofs.Offered.{sizes_after, stands_after, takes_by}
use Rattle.nms_versions.specs.Fresh.{items_of}
use Rattle.nms_versions.specs.History.{Chronicle}
use Rattle.nms_versions.specs.Published.{Batches, NoneEmpty, changes, committed, lengths_from, publications}
use Rattle.nms_versions.specs.Publishing.{Follows, IsSound, IsTaped}
use Rattle.nms_versions.specs.Rule.{after_taken}
use Rattle.nms_versions.specs.declared.batch.Batch.{Batch}
use Rattle.nms_versions.specs.declared.sealed.Sealed.{Sealed}
use Rattle.nms_versions.proofs.BatchLemmas.{among, changes-append}
use Rattle.nms_versions.proofs.Beginnings.{prefix_self}
use Rattle.nms_versions.proofs.HistoryLemmas.{none_empty_push}

pub no_items : (xs : List Change) → length xs ≡ 0 → xs ≡ []
no_items [] none = refl
no_items (x ∷ xs) none = absurd (omega arith)

-- no more batches than changes
pub batches_within : (log : Batches) → NoneEmpty log → length log ≤ length (changes log)
batches_within [] some = omega arith
batches_within (batch ∷ log) some = omega (arith, batches_within log some.1, some.0, length-append batch (changes log))

-- the changes with one more batch
pub changes-push : (log : Batches) (batch : List Change) → changes (log ++ batch ∷ []) ≡ changes log ++ batch
changes-push log batch = changes-append log (batch ∷ []) ∙ ap (λ t. changes log ++ t) (append-nil batch)

lengths_from-push : (n : ℕ) (log : Batches) (batch : List Change)
    → lengths_from n (log ++ batch ∷ []) ≡ lengths_from n log ++ (n + length (changes log) + length batch) ∷ []
lengths_from-push n [] batch = ap (λ m. n ∷ m ∷ []) (omega arith)
lengths_from-push n (x ∷ log) batch =
    ap (λ l. n ∷ l) (lengths_from-push (n + length x) log batch
    ∙ ap (λ m. lengths_from (n + length x) log ++ m ∷ []) (omega (arith, length-append x (changes log))))

contains_push : (xs : List ℕ) (y n : ℕ) → Contains (xs ++ y ∷ []) n ↔ Contains xs n ⊎ (n ≡ y)
contains_push xs y n = (
  (λ h. ⊎_elim (λ front. inl front) (λ (last : Contains (y ∷ []) n). inr (only last.0 last.1 last.2))
      (Contains-append_cases xs (y ∷ []) n h)),
  ⊎_elim (Contains-append_left xs (y ∷ []) n) (λ (last : n ≡ y). Contains-append_right xs (y ∷ []) n (0, omega arith, sym last)),
)
  where
    only : (k : ℕ) → k < 1 → slice_index_or (y ∷ []) k n ≡ n → n ≡ y
    only zero within is = sym is
    only (suc k) within is = absurd (omega arith)

-- publishing adds the length of the complete tape to the publications, if it is not there yet
pub publications_push : (log : Batches) (pending : List Change) (n : ℕ)
    → Contains (publications (committed log pending)) n ↔ Contains (publications log) n ⊎ (n ≡ length (changes log ++ pending))
publications_push log [] n =
    let there : Contains (publications log) (length (changes log ++ [])) =
    subst (Contains (publications log)) (omega (arith, ap length (append-nil (changes log)))) (among log log 0 (prefix_self log)) in
    ((λ h. inl h), ⊎_elim (λ h. h) (λ (last : n ≡ length (changes log ++ [])). subst (Contains (publications log)) (sym last) there))
publications_push log (change ∷ pending) n =
    let batch : List Change = change ∷ pending in
    let same : lengths_from 0 (log ++ batch ∷ []) ≡ publications log ++ length (changes log ++ batch) ∷ [] =
    lengths_from-push 0 log batch ∙ ap (λ m. publications log ++ m ∷ []) (omega (arith, length-append (changes log) batch)) in
    subst (λ l. Contains l n ↔ Contains (publications log) n ⊎ (n ≡ length (changes log ++ batch))) (sym same)
    (contains_push (publications log) (length (changes log ++ batch)) n)

-- the version after publishing is the complete tape
pub changes_committed : (log : Batches) (pending : List Change) → changes (committed log pending) ≡ changes log ++ pending
changes_committed log [] = sym (append-nil (changes log))
changes_committed log (change ∷ pending) = changes-push log (change ∷ pending)

pub committed_some : (log : Batches) (pending : List Change) → 0 < length pending → committed log pending ≡ log ++ pending ∷ []
committed_some log [] some = absurd (omega arith)
committed_some log (change ∷ pending) some = refl

one_taken : (board : Board) (change : Change) (fits : Bool) → takes board change ≡ fits → (after_taken board change).sizes ≡ board.sizes
one_taken board change true is = rw is (sizes_after board change)
one_taken board change false is = rw is refl

-- the roster's sizes stay
pub sizes_taken : (batch : List Change) (board : Board) → (fold after_taken board batch).sizes ≡ board.sizes
sizes_taken [] board = refl
sizes_taken (change ∷ batch) board = sizes_taken batch (after_taken board change) ∙ one_taken board change (takes board change) refl

-- a board takes every change of a batch that is of its roster and that there is room for
pub takes_batch : (batch : List Change) (board : Board) (tape : Tape) → StandsFor board tape
    → All (λ change. holds board.sizes change ≡ true) batch → length (tape ++ batch) ≤ MOST_CHANGES
    → StandsFor (fold after_taken board batch) (tape ++ batch)
takes_batch [] board tape stands held room = subst (StandsFor board) (sym (append-nil tape)) stands
takes_batch (change ∷ batch) board tape stands held room =
    let Held : Change → Type 0 = λ c. holds board.sizes c ≡ true in
    let fits : takes board change ≡ true = takes_by board change (All-head Held change batch held) (omega (
      arith,
      stands.applied,
      room,
      length-append tape (change ∷ batch),
    )) in
    let one : after_taken board change ≡ after board change = rw fits refl in
    let seam : (tape ++ change ∷ []) ++ batch ≡ tape ++ change ∷ batch = append_assoc tape (change ∷ []) batch in
    let rest : StandsFor (fold after_taken (after board change) batch) ((tape ++ change ∷ []) ++ batch) =
    takes_batch batch (after board change) (tape ++ change ∷ []) (stands_after board tape change stands fits)
    (subst (λ (sizes : Sizes). All (λ c. holds sizes c ≡ true) batch) (sym (sizes_after board change)) (All-tail Held change batch held))
    (omega (arith, room, ap length seam)) in
    subst (λ (b : Board). StandsFor (fold after_taken b batch) (tape ++ change ∷ batch)) (sym one)
    (subst (StandsFor (fold after_taken (after board change) batch)) seam rest)

-- what was pending goes after what is shown
pub follows : (sealed : Sealed) (waiting : List Batch) (history : Chronicle) (tape pending : List Change) (published limit : ℕ)
    (batch : Batch)
    → IsSound sealed waiting history → IsTaped history tape pending published limit sealed.boards.sizes
    → batch.seen.book ≡ history.opening → batch.seen.log ≡ history.published ++ pending ∷ [] → items_of batch.changes ≡ pending
    → Follows sealed batch
follows sealed waiting history tape pending published limit batch sound taped book log items = record {
  book = book ∙ sym sound.book;
  log = log ∙ (λ i. sym sound.log i ++ sym items i ∷ []);
  held = subst (All (λ change. holds sealed.boards.sizes change ≡ true)) (sym items) taped.held;
  room = omega (
    arith,
    ap (λ l. length (changes l)) log,
    ap length (changes-push history.published pending),
    ap length taped.tape_is,
    taped.within,
    taped.most,
  );
}

-- a tape that was just opened
pub taped_new : (history : Chronicle) (limit : ℕ) (sizes : Sizes) → history.published ≡ [] → limit ≤ MOST_CHANGES
    → IsTaped history [] [] 0 limit sizes
taped_new history limit sizes empty most = record {
  tape_is = rw empty refl;
  counted = rw empty refl;
  none_empty = rw empty tt;
  is_open = λ some. absurd (omega arith);
  held = All-nil _;
  within = omega arith;
  most = most;
}

-- a change more is pending
pub taped_push : (history new : Chronicle) (tape pending : List Change) (published limit : ℕ) (sizes : Sizes) (change : Change)
    → IsTaped history tape pending published limit sizes
    → new ≡ record history { is_open = true } → holds sizes change ≡ true → length tape < limit
    → IsTaped new (tape ++ change ∷ []) (pending ++ change ∷ []) published limit sizes
taped_push history new tape pending published limit sizes change taped is held room = rw is (record {
  tape_is = ap (λ t. t ++ change ∷ []) taped.tape_is ∙ append_assoc (changes history.published) pending (change ∷ []);
  counted = taped.counted;
  none_empty = taped.none_empty;
  is_open = λ _. refl;
  held = All-push (λ c. holds sizes c ≡ true) pending change taped.held held;
  within = omega (arith, length-append tape (change ∷ []), room);
  most = taped.most;
})

-- there is room for one batch more
pub batch_room : (history : Chronicle) (tape pending : List Change) (published limit : ℕ) (sizes : Sizes)
    → IsTaped history tape pending published limit sizes
    → (length history.published + length pending ≤ MOST_CHANGES) × (length history.published + length pending ≤ length tape)
batch_room history tape pending published limit sizes taped =
    let le : length history.published + length pending ≤ length tape =
    omega (
      arith,
      batches_within history.published taped.none_empty,
      ap length taped.tape_is,
      length-append (changes history.published) pending,
    ) in
    (omega (arith, le, taped.within, taped.most), le)

-- what was pending is published
pub taped_close : (history new : Chronicle) (tape pending : List Change) (published limit : ℕ) (sizes : Sizes)
    → IsTaped history tape pending published limit sizes
    → 0 < length pending → new ≡ record history { published = history.published ++ pending ∷ []; is_open = false }
    → IsTaped new tape [] (length tape) limit sizes
taped_close history new tape pending published limit sizes taped some is =
    let whole : tape ≡ changes (history.published ++ pending ∷ []) = taped.tape_is ∙ sym (changes-push history.published pending) in
    rw is (record {
      tape_is = whole ∙ sym (append-nil (changes (history.published ++ pending ∷ [])));
      counted = ap length whole;
      none_empty = none_empty_push history.published pending taped.none_empty some;
      is_open = λ any. absurd (omega (arith, any));
      held = All-nil (λ c. holds sizes c ≡ true);
      within = taped.within;
      most = taped.most;
    })

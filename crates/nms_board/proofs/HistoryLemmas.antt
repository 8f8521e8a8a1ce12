-- What one more change does to the history of a side: its content, its receipt and the state.
use Rattle.std.proofs.Common.{◌≡◌, ℕ, ◌+◌, ◌&&◌, Bool, true, false, List, [], ◌∷◌, ◌++◌, map, length, Option, Some, None, option_map}
use Rattle.std.proofs.Common.{slice_get, unwrap_or, if◌then◌else◌, refl, sym, ap, ap₂, ◌∙◌, inl, inr, suc, arith, eqb, eq-eqb}
use Rattle.std.specs.List.{filter_map, last_or, list_all}
use Rattle.std.specs.Option.{option_or}
use Rattle.std.proofs.lemmas.List.{map_push, length-append, length-map}
use Rattle.std.proofs.lemmas.List.Folds.{list_all-append}
use Rattle.std.proofs.lemmas.Bool.{eqb-true, and_parts, cases_Bool, both_ways, false_from_ne_true}
use Rattle.nms_quote.specs.Content.{Content}
use Rattle.nms_quote.specs.Roster.{Sizes}
use Rattle.nms_quote.specs.Tape.{Tape, versions}
use Rattle.nms_quote.specs.declared.side_quote.Side.{Side}
use Rattle.nms_quote.specs.declared.change.Change.{Change}
use Rattle.nms_board.specs.History.{said_of, content_at, lot_listed, lot_said, lot_since, state_said, state_at, same_content}
use Rattle.nms_board.specs.History.{before_equal_end, contents_over, receipt_of}
use Rattle.nms_board.proofs.ListLemmas.{last_answer_push}

pub same_content-refl : (x : Option Content) → same_content x x ≡ true
same_content-refl None = refl
same_content-refl (Some x) = rw (eq-eqb x.price x.price refl, eq-eqb x.shares x.shares refl)

pub same_content-true : (x y : Option Content) → same_content x y ≡ true → x ≡ y
same_content-true None None h = refl
same_content-true None (Some y) h = absurd (cc)
same_content-true (Some x) None h = absurd (cc)
same_content-true (Some x) (Some y) h =
    let parts = and_parts (eqb x.price y.price) (eqb x.shares y.shares) h in
    let price : x.price ≡ y.price = eqb-true x.price y.price parts.0 in
    let shares : x.shares ≡ y.shares = eqb-true x.shares y.shares parts.1 in
    ap₂ (λ price shares. Some (record { price = price; shares = shares })) price shares

-- a test passes a list that ends twice in x if and only if it passes the list that ends in x once
all_repeated : (p : Option Content → Bool) (h : List (Option Content)) (x : Option Content)
    → list_all p ((h ++ x ∷ []) ++ x ∷ []) ≡ list_all p (h ++ x ∷ [])
all_repeated p h x = rw (list_all-append p (h ++ x ∷ []) (x ∷ []), list_all-append p h (x ∷ [])) (absorbed (list_all p h) (p x))
  where
    absorbed : (a b : Bool) → ((a && (b && true)) && (b && true)) ≡ (a && (b && true))
    absorbed true true = refl
    absorbed true false = refl
    absorbed false b = refl

-- the last content once more: the same number of entries is before the equal ones
before_equal_end_same : (h : List (Option Content)) (x : Option Content)
    → before_equal_end ((h ++ x ∷ []) ++ x ∷ []) ≡ before_equal_end (h ++ x ∷ [])
unfolding before_equal_end
before_equal_end_same [] x = rw (same_content-refl x)
before_equal_end_same (z ∷ h) x = rw (all_repeated (same_content z) h x, before_equal_end_same h x)

-- x and y, both at the end, can't both equal z unless they are equal
not_all_equal : (z : Option Content) (h : List (Option Content)) (x y : Option Content) → same_content x y ≡ false
    → list_all (same_content z) ((h ++ x ∷ []) ++ y ∷ []) ≡ false
not_all_equal z h x y ne =
    false_from_ne_true _ (λ all.
    let both = and_parts (list_all (same_content z) (h ++ x ∷ [])) (same_content z y && true)
    (sym (list_all-append (same_content z) (h ++ x ∷ []) (y ∷ [])) ∙ all) in
    let front = and_parts (list_all (same_content z) h) (same_content z x && true)
    (sym (list_all-append (same_content z) h (x ∷ [])) ∙ both.0) in
    let zx = same_content-true z x (and_parts (same_content z x) true front.1).0 in
    let zy = same_content-true z y (and_parts (same_content z y) true both.1).0 in
    both_ways (same_content x y) ne (ap (same_content x) (sym zy ∙ zx) ∙ same_content-refl x))

-- another content: all earlier entries are before it
before_equal_end_new : (h : List (Option Content)) (x y : Option Content) → same_content x y ≡ false
    → before_equal_end ((h ++ x ∷ []) ++ y ∷ []) ≡ length (h ++ x ∷ [])
unfolding before_equal_end
before_equal_end_new [] x y ne = rw ne refl
before_equal_end_new (z ∷ h) x y ne = rw (not_all_equal z h x y ne, before_equal_end_new h x y ne) (omega arith)

-- one more entry after a list's last
before_equal_end_push : (h : List (Option Content)) (x y : Option Content)
    → before_equal_end ((h ++ x ∷ []) ++ y ∷ []) ≡ (if same_content x y then before_equal_end (h ++ x ∷ []) else length (h ++ x ∷ []))
before_equal_end_push h x y =
    elim (cases_Bool (same_content x y)) [
      | inl same ↦ rw same (ap (λ w. before_equal_end ((h ++ x ∷ []) ++ w ∷ [])) (sym (same_content-true x y same))
          ∙ before_equal_end_same h x)
      | inr new ↦ rw new (before_equal_end_new h x y new)
    ]

-- the versions after one more change
versions_push : (tape : Tape) (change : Change) → versions (tape ++ change ∷ []) ≡ versions tape ++ (tape ++ change ∷ []) ∷ []
versions_push [] change = refl
versions_push (x ∷ xs) change =
    ap (λ vs. [] ∷ map (λ tape. x ∷ tape) vs) (versions_push xs change)
    ∙ ap (λ vs. [] ∷ vs) (map_push (λ tape. x ∷ tape) (versions xs) (xs ++ change ∷ []))

-- the versions before the last, which is the complete tape
record EndsInAll (tape : Tape) : Type 0 where
  before : List Tape
  is : versions tape ≡ before ++ tape ∷ []
  count : length before ≡ length tape

versions_end : (tape : Tape) → EndsInAll tape
versions_end [] = record { before = []; is = refl; count = refl }
versions_end (x ∷ xs) =
    let rest = versions_end xs in
    record {
      before = [] ∷ map (λ tape. x ∷ tape) rest.before;
      is = ap (λ vs. [] ∷ map (λ tape. x ∷ tape) vs) rest.is ∙ ap (λ vs. [] ∷ vs) (map_push (λ tape. x ∷ tape) rest.before xs);
      count = ap suc (length-map rest.before (λ tape. x ∷ tape) ∙ rest.count);
    }

-- the content after one more change: what it says of the side, or the content there was
pub content_at-push : (part sym : ℕ) (side : Side) (tape : Tape) (change : Change)
    → content_at part sym side (tape ++ change ∷ []) ≡ unwrap_or (said_of part sym side change) (content_at part sym side tape)
content_at-push part symbol side tape change =
    ap (λ said. unwrap_or said None) (last_answer_push (said_of part symbol side) tape change)
    ∙ newer (said_of part symbol side change) (last_or None (filter_map (said_of part symbol side) tape))
  where
    newer : (new old : Option (Option Content)) → unwrap_or (option_or new old) None ≡ unwrap_or new (unwrap_or old None)
    newer None old = refl
    newer (Some y) old = refl

-- the state after one more change
pub state_at-push : (part sym : ℕ) (tape : Tape) (change : Change)
    → state_at part sym (tape ++ change ∷ []) ≡ option_or (state_said part sym change) (state_at part sym tape)
state_at-push part symbol tape change = last_answer_push (state_said part symbol) tape change

-- the receipt after one more change: it stays if the content does
pub receipt_of-push : (part sym : ℕ) (side : Side) (tape : Tape) (change : Change)
    → receipt_of part sym side (tape ++ change ∷ [])
    ≡ (if same_content (content_at part sym side tape) (content_at part sym side (tape ++ change ∷ [])) then receipt_of part sym side tape
    else length tape + 1)
receipt_of-push part symbol side tape change =
    let content = content_at part symbol side in
    let end = versions_end tape in
    let last = content (tape ++ change ∷ []) in
    let so_far : contents_over part symbol side tape ≡ map content end.before ++ content tape ∷ [] = ap (map content) end.is
    ∙ map_push content end.before tape in
    let all : contents_over part symbol side (tape ++ change ∷ []) ≡ contents_over part symbol side tape ++ last ∷ [] =
    ap (map content) (versions_push tape change) ∙ map_push content (versions tape) (tape ++ change ∷ []) in
    let count : length (map content end.before ++ content tape ∷ []) ≡ length tape + 1 =
    length-append (map content end.before) (content tape ∷ []) ∙ ap (λ n. n + 1) (length-map end.before content ∙ end.count) in
    ap before_equal_end (all ∙ ap (λ xs. xs ++ last ∷ []) so_far) ∙ before_equal_end_push (map content end.before) (content tape) last
    ∙ rw (← so_far, ap length so_far ∙ count) refl

-- the lot after one more change: what it says of the symbol's, or the lot there was
pub lot_since-push : (sym : ℕ) (tape : Tape) (change : Change) (opening : ℕ)
    → lot_since sym (tape ++ change ∷ []) opening ≡ unwrap_or (lot_said sym change) (lot_since sym tape opening)
lot_since-push symbol tape change opening =
    ap (λ said. unwrap_or said opening) (last_answer_push (lot_said symbol) tape change)
    ∙ newer (lot_said symbol change) (last_or None (filter_map (lot_said symbol) tape))
  where
    newer : (new old : Option ℕ) → unwrap_or (option_or new old) opening ≡ unwrap_or new (unwrap_or old opening)
    newer None old = refl
    newer (Some lot) old = refl

pub lot_listed-push : (sizes : Sizes) (sym : ℕ) (tape : Tape) (change : Change)
    → lot_listed sizes (tape ++ change ∷ []) sym ≡ option_map (unwrap_or (lot_said sym change)) (lot_listed sizes tape sym)
lot_listed-push sizes symbol tape change = by_opening (slice_get sizes.lots symbol)
  where
    by_opening : (opening : Option ℕ) → option_map (lot_since symbol (tape ++ change ∷ [])) opening
        ≡ option_map (unwrap_or (lot_said symbol change)) (option_map (lot_since symbol tape) opening)
    by_opening None = refl
    by_opening (Some opening) = ap Some (lot_since-push symbol tape change opening)

-- a change that says nothing of a symbol's lot leaves it
pub lot_listed_unsaid : (sizes : Sizes) (sym : ℕ) (tape : Tape) (change : Change) → lot_said sym change ≡ None
    → lot_listed sizes (tape ++ change ∷ []) sym ≡ lot_listed sizes tape sym
lot_listed_unsaid sizes symbol tape change unsaid =
    lot_listed-push sizes symbol tape change ∙ ap (λ said. option_map (unwrap_or said) (lot_listed sizes tape symbol)) unsaid
    ∙ as_was (lot_listed sizes tape symbol)
  where
    as_was : (lot : Option ℕ) → option_map (λ (n : ℕ). unwrap_or None n) lot ≡ lot
    as_was None = refl
    as_was (Some lot) = refl

-- Each step over the lane's queue keeps the rule.
use Rattle.std.proofs.Common.{ℕ, ◌≡◌, ◌≢◌, ◌*◌, ◌<◌, ◌≤◌, ◌⊎◌, zero, suc, eqb, eq-eqb, ne_eqb, true, false, List, [], ◌∷◌, ◌++◌, length}
use Rattle.std.proofs.Common.{map, set, Option, Some, None, sym, refl, ap}
use Rattle.std.proofs.Common.{◌∙◌, subst, inl, inr, ⊎_elim, append_assoc, arith, length-append, if◌then◌else◌}
use Rattle.std.specs.List.{AllByRecursion}
use Rattle.std.proofs.lemmas.Bool.{cases_Bool}
use Rattle.std.proofs.lemmas.Option.{none-some, same_Some}
use mathlib.Core.Option.{some, some-ne-none, some-injective}
use lib.ListN.{get_elem?}
use Rattle.crossbeam_queue.specs.Fifo.{Pushes, Pops, Forks, Merges, Learns}
use Rattle.crossbeam_queue.proofs.Lists.{at_set}
use Rattle.nms_quote.specs.Merge.{feeds, is_same_feed, of_feed}
use Rattle.nms_quote.specs.declared.change.Change.{Change}
use Rattle.nms_quote.specs.declared.feed.Feed.{Feed}
use Rattle.nms_quote.specs.declared.marked.Marked.{Marked}
use Rattle.nms_quote.specs.declared.TheConstants.{MOST_FEEDS}
use Rattle.nms_quote.proofs.Offered.{of_feed-mine, of_feed-other, of_feed-total, same_feed-one, same_feed-self, total}
use Rattle.nms_feed.specs.declared.TheConstants.{MOST_SENT}
use Rattle.nms_feed.specs.declared.known.Known.{Known}
use Rattle.nms_feed.specs.declared.known.Sent.{Sent}
use Rattle.nms_feed.specs.Known.{first_view, gathered, sender_view, sent_for, spent_view, unsent}
use Rattle.nms_feed.specs.Rule.{Fits, IsAllSent, Kept}

-- a fact of each pass and what it knows
abbrev Each : (ℕ → Known → Type 0) → List Known → Type 0
Each F views = (pass : ℕ) (known : Known) → get_elem? views pass ≡ some known → F pass known

-- one pass came to know something else
each_set : (F : ℕ → Known → Type 0) (views : List Known) (pass : ℕ) (mine : Known) → F pass mine
    → ((other : ℕ) (known : Known) → other ≢ pass → get_elem? views other ≡ some known → F other known) → Each F (set views pass mine)
each_set F views pass mine fits others other known at =
    ⊎_elim (λ (x : (other ≡ pass) × (mine ≡ known)). subst (λ (y : ℕ × Known). F y.0 y.1) (λ i. (sym x.0 i, x.1 i)) fits)
    (λ (x : (other ≢ pass) × (get_elem? views other ≡ some known)). others other known x.0 x.1) (at_set views pass other mine known at)

-- a new pass comes last
at_push : (views : List Known) (new : Known) (pass : ℕ) (known : Known) → get_elem? (views ++ new ∷ []) pass ≡ some known
    → (get_elem? views pass ≡ some known) ⊎ ((pass ≡ length views) × (new ≡ known))
at_push [] new zero known at = inr (refl, some-injective new known at)
at_push [] new (suc pass) known at = absurd (some-ne-none known (sym at))
at_push (v ∷ views) new zero known at = inl at
at_push (v ∷ views) new (suc pass) known at = ⊎_elim (λ x. inl x) (λ x. inr (ap suc x.0, x.1)) (at_push views new pass known at)

each_push : (F : ℕ → Known → Type 0) (views : List Known) (new : Known) → Each F views → F (length views) new → Each F (views ++ new ∷ [])
each_push F views new olds fits pass known at =
    ⊎_elim (λ (x : get_elem? views pass ≡ some known). olds pass known x)
    (λ (x : (pass ≡ length views) × (new ≡ known)). subst (λ (y : ℕ × Known). F y.0 y.1) (λ i. (sym x.0 i, x.1 i)) fits)
    (at_push views new pass known at)

all_by : {X : Type 0} (P Q : X → Type 0) → ((x : X) → P x → Q x) → (xs : List X) → AllByRecursion P xs → AllByRecursion Q xs
all_by P Q so [] h = tt
all_by P Q so (x ∷ xs) h = (so x h.0, all_by P Q so xs h.1)

all_both : {X : Type 0} (P Q R : X → Type 0) → ((x : X) → P x → Q x → R x) → (xs : List X) → AllByRecursion P xs → AllByRecursion Q xs
    → AllByRecursion R xs
all_both P Q R so [] h k = tt
all_both P Q R so (x ∷ xs) h k = (so x h.0 k.0, all_both P Q R so xs h.1 k.1)

all_append : {X : Type 0} (P : X → Type 0) (xs ys : List X) → AllByRecursion P xs → AllByRecursion P ys → AllByRecursion P (xs ++ ys)
all_append P [] ys h k = k
all_append P (x ∷ xs) ys h k = (h.0, all_append P xs ys h.1 k)

-- two feeds that different passes send for are two
two_feeds : (holder : Feed → ℕ) (f g : Feed) → holder f ≢ holder g → is_same_feed f g ≡ false
two_feeds holder f g apart = ⊎_elim (λ (same : is_same_feed f g ≡ true). absurd (apart (ap holder (same_feed-one f g same))))
    (λ other. other) (cases_Bool (is_same_feed f g))

all_unsent : (fs : List Feed) → AllByRecursion (IsAllSent [] (λ f. 0) 0) (map unsent fs)
unfolding of_feed
all_unsent [] = tt
all_unsent (f ∷ fs) = (record { alone = refl; all = refl }, all_unsent fs)

pub begins : Kept [] (first_view ∷ [])
unfolding of_feed
begins = record {
  whole = [];
  taken = [];
  holder = λ f. 0;
  taker = 0;
  order = refl;
  within = λ f. omega arith;
  each = each_push (Fits [] [] (λ f. 0) 0) [] first_view (λ pass known at. absurd (some-ne-none known (sym at)))
      (record { sends = all_unsent feeds; takes = λ marked is. (refl, sym (same_Some _ _ is)) });
}

-- each feed's list stays within its limit
within_push : (g f : Feed) (whole : List Marked) (change : Change) → length (of_feed f whole) < MOST_SENT
    → length (of_feed g whole) ≤ MOST_SENT
    → length (of_feed g (whole ++ record { feed = f; change = change } ∷ [])) ≤ MOST_SENT
within_push g f whole change room le =
    let m : Marked = record { feed = f; change = change } in
    ⊎_elim
    (λ (same : is_same_feed g f ≡ true).
    let one : length (of_feed g whole) ≡ length (of_feed f whole) = ap (λ h. length (of_feed h whole)) (same_feed-one g f same) in
    omega (arith, one, ap length (of_feed-mine g whole m same), length-append (of_feed g whole) (change ∷ [])))
    (λ (other : is_same_feed g f ≡ false). omega (arith, ap length (of_feed-other g whole m other)))
    (cases_Bool (is_same_feed g f))

-- a sender's pass may send while there is room in its list
pub sends : (n pass : ℕ) (f : Feed) (changes : List Change) (change : Change) → length changes < MOST_SENT
    → Pushes Kept n pass (sender_view f changes) (record { feed = f; change = change })
    (λ after. after ≡ sender_view f (changes ++ change ∷ []))
sends n pass f changes change room items views short kept at =
    let m : Marked = record { feed = f; change = change } in
    let whole : List Marked = kept.whole ++ m ∷ [] in
    let after : Known = sender_view f (changes ++ change ∷ []) in
    let mine : IsAllSent kept.whole kept.holder pass (sent_for f changes) = (kept.each pass (sender_view f changes) at).sends.0 in
    let stays : (other : ℕ) → other ≢ pass → (s : Sent) → IsAllSent kept.whole kept.holder other s → IsAllSent whole kept.holder other s =
    λ other apart s h. record {
      alone = h.alone;
      all = h.all ∙ sym (of_feed-other s.feed kept.whole m (two_feeds kept.holder s.feed f (λ e. apart (sym h.alone ∙ e ∙ mine.alone))));
    } in (
      after,
      record {
        whole = whole;
        taken = kept.taken;
        holder = kept.holder;
        taker = kept.taker;
        order = ap (λ l. l ++ m ∷ []) kept.order ∙ append_assoc kept.taken items (m ∷ []);
        within = λ g. within_push g f kept.whole change (omega (arith, ap length mine.all)) (kept.within g);
        each = each_set (Fits whole kept.taken kept.holder kept.taker) views pass after
            (record {
              sends = (
                record {
                  alone = mine.alone;
                  all = ap (λ l. l ++ change ∷ []) mine.all
                      ∙ sym (of_feed-mine f kept.whole m (same_feed-self f));
                },
                tt,
              );
              takes = λ marked is. absurd (none-some marked is);
            })
            (λ other known apart there. record {
              sends = all_by (IsAllSent kept.whole kept.holder other) (IsAllSent whole kept.holder other) (stays other apart) known.sent
                  (kept.each other known there).sends;
              takes = (kept.each other known there).takes;
            });
      },
      refl,
    )

-- lists that each stay within a limit do so together
total-le : (lists : Feed → List Change) (most : ℕ) (fs : List Feed) → ((f : Feed) → length (lists f) ≤ most)
    → total lists fs ≤ length fs * most
total-le lists most [] within = omega arith
total-le lists most (f ∷ fs) within = omega (arith, within f, total-le lists most fs within)

-- the taker's pass may take
pub takes : (pass : ℕ) (sent : List Sent) (taken : List Marked)
    → Pops Kept pass (record { sent = sent; taken = Some taken })
    (λ m after. (after ≡ record { sent = sent; taken = Some (taken ++ m ∷ []) }) × (length taken < MOST_FEEDS * MOST_SENT))
takes pass sent taken m items views kept at =
    let mine : Fits kept.whole kept.taken kept.holder kept.taker pass (record { sent = sent; taken = Some taken }) = kept.each pass _ at in
    let is : (kept.taker ≡ pass) × (taken ≡ kept.taken) = mine.takes taken refl in
    let after : Known = record { sent = sent; taken = Some (taken ++ m ∷ []) } in
    let longer : List Marked = kept.taken ++ m ∷ [] in (
      after,
      record {
        whole = kept.whole;
        taken = longer;
        holder = kept.holder;
        taker = kept.taker;
        order = kept.order ∙ sym (append_assoc kept.taken (m ∷ []) items);
        within = kept.within;
        each = each_set (Fits kept.whole longer kept.holder kept.taker) views pass after
            (record { sends = mine.sends; takes = λ marked now. (is.0, sym (same_Some _ _ now) ∙ ap (λ l. l ++ m ∷ []) is.1) })
            (λ other known apart there. record {
              sends = (kept.each other known there).sends;
              takes = λ marked now. absurd (apart (sym ((kept.each other known there).takes marked now).0 ∙ is.0));
            });
      },
      (
        refl,
        omega (
          arith,
          ap length is.1,
          ap length kept.order,
          length-append kept.taken (m ∷ items),
          of_feed-total kept.whole,
          total-le (λ f. of_feed f kept.whole) MOST_SENT feeds kept.within,
        ),
      ),
    )

-- the right to send for the first feed may be cut off, if the others are other feeds
pub forks : (pass : ℕ) (s : Sent) (more : List Sent) (taken : Option (List Marked))
    → AllByRecursion (λ t. is_same_feed s.feed t.feed ≡ false) more
    → Forks Kept pass (record { sent = s ∷ more; taken = taken }) (record { sent = more; taken = taken })
    (record { sent = s ∷ []; taken = None })
forks pass s more taken others items views kept at =
    let left : Known = record { sent = more; taken = taken } in
    let right : Known = record { sent = s ∷ []; taken = None } in
    let views' : List Known = set views pass left in
    let new : ℕ = length views' in
    let holder : Feed → ℕ = λ f. if is_same_feed s.feed f then new else kept.holder f in
    let mine : Fits kept.whole kept.taken kept.holder kept.taker pass (record { sent = s ∷ more; taken = taken }) = kept.each pass _ at in
    let stays : (by : ℕ) (t : Sent) → is_same_feed s.feed t.feed ≡ false → IsAllSent kept.whole kept.holder by t
    → IsAllSent kept.whole holder by t =
    λ by t apart h. record { alone = ap (λ b. if b then new else kept.holder t.feed) apart ∙ h.alone; all = h.all } in
    let F : ℕ → Known → Type 0 = Fits kept.whole kept.taken holder kept.taker in
    record {
      whole = kept.whole;
      taken = kept.taken;
      holder = holder;
      taker = kept.taker;
      order = kept.order;
      within = kept.within;
      each = each_push F views' right
          (each_set F views pass left
          (record {
            sends = all_both (λ t. is_same_feed s.feed t.feed ≡ false) (IsAllSent kept.whole kept.holder pass)
                (IsAllSent kept.whole holder pass) (stays pass) more others mine.sends.1;
            takes = mine.takes;
          })
          (λ other known apart there. record {
            sends = all_by (IsAllSent kept.whole kept.holder other) (IsAllSent kept.whole holder other)
                (λ t h. stays other t (two_feeds kept.holder s.feed t.feed
                (λ e. apart (sym h.alone ∙ sym e ∙ mine.sends.0.alone))) h) known.sent (kept.each other known there).sends;
            takes = (kept.each other known there).takes;
          }))
          (record {
            sends = (
              record { alone = ap (λ b. if b then new else kept.holder s.feed) (same_feed-self s.feed); all = mine.sends.0.all },
              tt,
            );
            takes = λ marked is. absurd (none-some marked is);
          });
    }

-- a pass may take in another, which is spent then
pub merges : (pass : ℕ) (known : Known) (other : ℕ) (theirs : Known)
    → Merges Kept pass known other theirs (gathered known theirs) spent_view
merges pass known other theirs items views kept at apart at' =
    let both : Known = gathered known theirs in
    let views' : List Known = set views pass both in
    let was : get_elem? views other ≡ some theirs =
    ⊎_elim (λ (x : (other ≡ pass) × (both ≡ theirs)). absurd (apart x.0)) (λ x. x.1) (at_set views pass other both theirs at') in
    let holder : Feed → ℕ = λ f. if eqb (kept.holder f) other then pass else kept.holder f in
    let comes : (t : Sent) → IsAllSent kept.whole kept.holder other t → IsAllSent kept.whole holder pass t =
    λ t h. record { alone = ap (λ b. if b then pass else kept.holder t.feed) (eq-eqb (kept.holder t.feed) other h.alone); all = h.all } in
    let stays : (by : ℕ) → by ≢ other → (t : Sent) → IsAllSent kept.whole kept.holder by t → IsAllSent kept.whole holder by t =
    λ by by_apart t h. record {
      alone = ap (λ b. if b then pass else kept.holder t.feed) (ne_eqb (kept.holder t.feed) other (λ e. by_apart (sym h.alone ∙ e)))
          ∙ h.alone;
      all = h.all;
    } in
    let F : ℕ → Known → Type 0 = Fits kept.whole kept.taken holder kept.taker in
    let Now : ℕ → Known → Type 0 = λ j u. j ≢ other → F j u in
    let now : Each Now views' =
    each_set Now views pass both
    (λ pass_apart. record {
      sends = all_append (IsAllSent kept.whole holder pass) known.sent theirs.sent
          (all_by (IsAllSent kept.whole kept.holder pass) (IsAllSent kept.whole holder pass) (stays pass pass_apart) known.sent
          (kept.each pass known at).sends)
          (all_by (IsAllSent kept.whole kept.holder other) (IsAllSent kept.whole holder pass) comes theirs.sent
          (kept.each other theirs was).sends);
      takes = (kept.each pass known at).takes;
    })
    (λ j u _ there j_apart. record {
      sends = all_by (IsAllSent kept.whole kept.holder j) (IsAllSent kept.whole holder j) (stays j j_apart) u.sent
          (kept.each j u there).sends;
      takes = (kept.each j u there).takes;
    }) in
    record {
      whole = kept.whole;
      taken = kept.taken;
      holder = holder;
      taker = kept.taker;
      order = kept.order;
      within = kept.within;
      each = each_set F views' other spent_view (record { sends = tt; takes = λ marked is. absurd (none-some marked is) })
          (λ j u j_apart there. now j u there j_apart);
    }

-- a pass that may take learns what was sent for the feeds that it may send for
pub learns : (pass : ℕ) (sent : List Sent) (taken : List Marked)
    → Learns Kept pass (record { sent = sent; taken = Some taken })
    (λ items. AllByRecursion (λ s. s.changes ≡ of_feed s.feed (taken ++ items)) sent)
learns pass sent taken items views kept at =
    let fits : Fits kept.whole kept.taken kept.holder kept.taker pass (record { sent = sent; taken = Some taken }) = kept.each pass _ at in
    let order : kept.whole ≡ taken ++ items = kept.order ∙ ap (λ l. l ++ items) (sym (fits.takes taken refl).1) in
    all_by (IsAllSent kept.whole kept.holder pass) (λ s. s.changes ≡ of_feed s.feed (taken ++ items))
    (λ s h. h.all ∙ ap (of_feed s.feed) order) sent fits.sends

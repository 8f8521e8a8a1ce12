-- The counts of the records of a file, with one record more; and how a report ends by them.
use Rattle.std.proofs.Common.{ℕ, ◌≡◌, ◌+◌, ◌++◌, ◌∷◌, ◌||◌, List, [], Bool, true, false, cond, length, refl, sym, ap, ◌∙◌}
use Rattle.std.proofs.Common.{arith}
use Rattle.std.specs.Prelude.{Result, Ok, Err, IfOk, Option, fold}
use Rattle.std.specs.List.{count_by, list_any}
use Rattle.std.proofs.lemmas.List.{length-append}
use Rattle.std.proofs.lemmas.List.Folds.{list_any-append}
use Rattle.std.proofs.lemmas.List.Sums.{sum_by-append}
use Rattle.nms_lines.specs.Layout.{Record}
use Rattle.nms_lines.specs.declared.line.Line.{Line}
use Rattle.nms_lines.specs.declared.line_fault.LineFault.{LineFault}
use Rattle.nms_show.specs.declared.ending.Ending.{Ending}
use Rattle.nms_explain.specs.Counted.{EndsBy, IsFileTally, IsTallyOf, ending_by, is_fault, is_publishing, is_refused, publishes}
use Rattle.nms_explain.specs.declared.tally.Tally.{Tally}

-- before the first record
pub tally_none : (reading : Record → Result Line LineFault) (tally : Tally) → tally.records ≡ 0 → tally.refused ≡ 0
    → tally.publishes ≡ false → IsTallyOf reading [] tally
tally_none reading tally records refused publishing = record { records = records; refused = refused; publishes = publishing }

zero_more : (n : ℕ) → 0 + n ≡ n
zero_more n = omega arith

or_false : (b : Bool) → (b || false) ≡ b
or_false true = refl
or_false false = refl

module _ (reading : Record → Result Line LineFault) (records : List Record) (fields : Record) (old new : Tally)
    (before : IsTallyOf reading records old) (one : new.records ≡ old.records + 1) where
  longer : new.records ≡ length (records ++ fields ∷ [])
  longer = omega (arith, one, before.records, length-append records (fields ∷ []))

  -- a test counted over one record more
  counted : (test : Record → Bool) (b : Bool) → test fields ≡ b
      → count_by test (records ++ fields ∷ []) ≡ count_by test records + cond b 1 0
  counted test b is =
      sum_by-append (λ x. cond (test x) 1 0) records (fields ∷ [])
      ∙ ap (λ n. count_by test records + n) (zero_more (cond (test fields) 1 0) ∙ ap (λ (c : Bool). cond c 1 0) is)

  found : (test : Record → Bool) (b : Bool) → test fields ≡ b
      → list_any test (records ++ fields ∷ []) ≡ (list_any test records || b)
  found test b is = list_any-append test records (fields ∷ []) ∙ ap (λ (c : Bool). list_any test records || c) (or_false (test fields) ∙ is)

  -- after a record that is not refused
  pub tally_taken : (line : Line) → reading fields ≡ Ok line → new.refused ≡ old.refused
      → new.publishes ≡ (old.publishes || publishes line) → IsTallyOf reading (records ++ fields ∷ []) new
  tally_taken line said refused publishing = record {
    records = longer;
    refused = omega (arith, refused, before.refused, counted (is_refused reading) false (ap is_fault said));
    publishes =
        publishing ∙ ap (λ (b : Bool). b || publishes line) before.publishes
        ∙ sym (found (λ it. is_publishing (reading it)) (publishes line) (ap is_publishing said));
  }

  -- after a refused record
  pub tally_refused : (fault : LineFault) → reading fields ≡ Err fault → new.refused ≡ old.refused + 1
      → new.publishes ≡ old.publishes → IsTallyOf reading (records ++ fields ∷ []) new
  tally_refused fault said refused publishing = record {
    records = longer;
    refused = omega (arith, refused, before.refused, counted (is_refused reading) true (ap is_fault said));
    publishes =
        publishing ∙ before.publishes ∙ sym (or_false _)
        ∙ sym (found (λ it. is_publishing (reading it)) false (ap is_publishing said));
  }

-- two tests that agree on each record count the same
fold_same : {X : Type 0} (p q : X → Bool) → ((x : X) → p x ≡ q x) → (n : ℕ) (xs : List X)
    → fold (λ a x. a + cond (p x) 1 0) n xs ≡ fold (λ a x. a + cond (q x) 1 0) n xs
fold_same p q same n [] = refl
fold_same p q same n (x ∷ xs) =
    ap (λ (b : Bool). fold (λ a y. a + cond (p y) 1 0) (n + cond b 1 0) xs) (same x) ∙ fold_same p q same (n + cond (q x) 1 0) xs

-- two readings that refuse the same records end the same
pub ends_same : {X Y : Type 0} (first : Record → Result X LineFault) (second : Record → Result Y LineFault)
    → ((fields : Record) → is_refused first fields ≡ is_refused second fields)
    → (bytes : Option (List ℕ)) {E : Type 0} (r : Result Ending E) → IfOk r (EndsBy first bytes) → IfOk r (EndsBy second bytes)
ends_same first second same bytes (Ok ended) by =
    (by.0, by.1, by.2 ∙ ap ending_by (fold_same (is_refused first) (is_refused second) same 0 by.0))
ends_same first second same bytes (Err fault) by = tt

-- by a tally
pub ends_by : (reading : Record → Result Line LineFault) (bytes : Option (List ℕ)) (tally : Tally) (ended : Ending)
    → IsFileTally reading bytes tally → ended ≡ ending_by tally.refused → EndsBy reading bytes ended
ends_by reading bytes tally ended counts is = (counts.0, counts.1, is ∙ ap ending_by counts.2.refused)

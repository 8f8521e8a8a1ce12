-- Items whose own texts are printable ASCII, by a test that computes; and what calls added that wrote nothing, or all.
use Rattle.std.proofs.Common.{ℕ, ◌≡◌, ◌∙◌, true, List, [], ◌∷◌, All, Option, Some, ap, length, subst, sym, take}
use Rattle.std.specs.Borrow.{Bor}
use Rattle.std.specs.List.{list_all}
use Rattle.std.proofs.Math.Seq.{take-append_seam}
use Rattle.std.proofs.lemmas.List.{append-nil}
use Rattle.std.proofs.lemmas.List.Elements.{All-cons, All-nil}
use Rattle.nms_show.specs.Plain.{is_own_plain, is_plain, is_plain_member}
use Rattle.nms_show.specs.Safe.{IsPrintable, IsSafe, nothing, own_text}
use Rattle.nms_show.specs.Written.{Adds, AddsPart}
use Rattle.nms_show.specs.declared.item.Column.{Column}
use Rattle.nms_show.specs.declared.item.Item.{Item}
use Rattle.nms_show.proofs.SafeFacts.{both_true, join_safe, printable_ascii}
use Rattle.nms_show.proofs.WriteFacts.{adds_no_part, adds_none}

-- each of things that are shown so
pub all_plain : {A : Type 0} (shown : A → Item) (xs : List A) → list_all (λ x. is_own_plain (shown x)) xs ≡ true
    → All (λ x. IsPrintable (own_text (shown x))) xs
all_plain shown [] is = All-nil (λ x. IsPrintable (own_text (shown x)))
all_plain shown (x ∷ xs) is =
    let parts = both_true (is_own_plain (shown x)) (list_all (λ one. is_own_plain (shown one)) xs) is in
    All-cons (λ one. IsPrintable (own_text (shown one))) x xs (printable_ascii (own_text (shown x)) parts.0) (all_plain shown xs parts.1)

pub plain_items : (items : List Item) → list_all is_own_plain items ≡ true → All (λ item. IsPrintable (own_text item)) items
plain_items items is = all_plain (λ (item : Item). item) items is

pub plain_columns : (columns : List Column) → list_all (λ column. is_own_plain column.item) columns ≡ true
    → All (λ column. IsPrintable (own_text column.item)) columns
plain_columns columns is = all_plain (λ (column : Column). column.item) columns is

pub plain_members : (members : List (Bor (List ℕ) × Item)) → list_all is_plain_member members ≡ true
    → All (λ member. IsPrintable member.0.now × IsPrintable (own_text member.1)) members
plain_members [] is = All-nil (λ (member : Bor (List ℕ) × Item). IsPrintable member.0.now × IsPrintable (own_text member.1))
plain_members (member ∷ members) is =
    let parts = both_true (is_plain_member member) (list_all is_plain_member members) is in
    let two = both_true (is_plain member.0.now) (is_own_plain member.1) parts.0 in
    All-cons (λ (one : Bor (List ℕ) × Item). IsPrintable one.0.now × IsPrintable (own_text one.1)) member members
    (printable_ascii member.0.now two.0, printable_ascii (own_text member.1) two.1) (plain_members members parts.1)

-- what a failed call added is cut off again
pub cut_back : (had : ℕ) (was new : List ℕ) → had ≡ length was → AddsPart IsSafe (Some was) (Some new) → take had new ≡ was
cut_back had was new all more =
    ap (λ (n : ℕ). take n new) all ∙ ap (take (length was)) more.cut.written ∙ take-append_seam was more.cut.part

-- safe text that safe text was added to
pub safe_more : (was new : List ℕ) → IsSafe was → Adds IsSafe (Some was) (Some new) → IsSafe new
safe_more was new safe more = subst IsSafe (sym more.written) (join_safe was more.text safe more.kind)

pub safe_none : (text : List ℕ) → text ≡ [] → IsSafe text
safe_none text is = subst IsSafe (sym is) nothing

-- nothing was added
pub nothing_added : (x : Option (List ℕ)) → Adds IsSafe x x
nothing_added x = adds_none IsSafe x nothing

pub no_part_added : (x : Option (List ℕ)) → AddsPart IsSafe x x
no_part_added x = adds_no_part IsSafe x nothing

-- a text that was added is a prefix of itself
pub whole_part : (x y : Option (List ℕ)) → Adds IsSafe x y → AddsPart IsSafe x y
whole_part x y more = record {
  text = more.text;
  kind = more.kind;
  cut = record { part = more.text; rest = []; split = sym (append-nil more.text); written = more.written };
}

-- The values of exponent lists: column c's list has the value of column c, a list that is no column has 0, and a sum over the columns is a sum over
-- the cells of the box, because each column is one cell.
use Rattle.std.specs.Prelude.{◌≡◌, refl, Bool, true, false, cond, ℕ, zero, suc, ◌+◌, ◌*◌, ◌<◌, List, [], ◌∷◌, length, get_or}
use Rattle.std.proofs.Common.{sym, ap, ap₂, ◌∙◌, not-suc-le-zero, le_of_suc-le-suc, mul-zero, add-zero, zero-add, mul-add}
use Rattle.meaning.specs.Sums.{sum}
use Rattle.meaning.specs.Boxes.{cells, digits, cell, Within}
use Rattle.meaning.specs.Calls.{same_list}
use Rattle.meaning.specs.Fit.{value_of}
use Rattle.theory.specs.Sums.{sum_eq, sum-add, sum-zero, sum_one}
use Rattle.theory.specs.Boxes.{cell-lt, cell-digits, digits-cell}
use Rattle.theory.specs.EqualLists.{same_list-iff, same_true, same_false}
use Rattle.theory.specs.Columns.{In, here, there, Ordered, ordered_none, ordered_more, not_in-after, in_get_or}

-- the value of the first list, and of any other
value_of-first : (f : List ℕ) (fs : List (List ℕ)) (x : ℕ → ℕ) (es : List ℕ) → same_list f es ≡ true → value_of (f ∷ fs) x es ≡ x 0
unfolding value_of
value_of-first f fs x es e = ap (λ (b : Bool). cond b (x 0) (value_of fs (λ i. x (suc i)) es)) e

value_of_later : (f : List ℕ) (fs : List (List ℕ)) (x : ℕ → ℕ) (es : List ℕ) → same_list f es ≡ false → value_of (f ∷ fs) x es ≡ value_of fs (λ i. x (suc i)) es
unfolding value_of
value_of_later f fs x es e = ap (λ (b : Bool). cond b (x 0) (value_of fs (λ i. x (suc i)) es)) e

-- a list that is no column has the value 0
pub value_of_absent : (fs : List (List ℕ)) (x : ℕ → ℕ) (es : List ℕ) → (In es fs → ⊥) → value_of fs x es ≡ 0
unfolding value_of
value_of_absent [] x es h = refl
value_of_absent (f ∷ fs) x es h =
    value_of_later f fs x es (same_false f es (λ e. h (here (sym e)))) ∙ value_of_absent fs (λ i. x (suc i)) es (λ i. h (there i))

-- column c's list has the value of column c
pub value_of_column : {fs : List (List ℕ)} → Ordered fs → (x : ℕ → ℕ) (c : ℕ) → c < length fs → value_of fs x (get_or fs c []) ≡ x c
value_of_column ordered_none x c h = absurd (not-suc-le-zero h)
value_of_column (ordered_more {f} {fs} b o) x zero h = value_of-first f fs x f (same_true f f refl)
value_of_column (ordered_more {f} {fs} b o) x (suc c) h =
    value_of_later f fs x _ (same_false f _ (λ e. not_in-after b (rw (sym e) at (in_get_or fs c (le_of_suc-le-suc h)))))
    ∙ value_of_column o (λ i. x (suc i)) c (le_of_suc-le-suc h)

-- the value apart: that of the first list where it is the list, and that among the others
value_of_apart : (f : List ℕ) (fs : List (List ℕ)) (x : ℕ → ℕ) (es : List ℕ) → (In f fs → ⊥)
    → value_of (f ∷ fs) x es ≡ cond (same_list f es) (x 0) 0 + value_of fs (λ i. x (suc i)) es
value_of_apart f fs x es h = go (same_list f es) refl
  where
    go : (b : Bool) → same_list f es ≡ b → value_of (f ∷ fs) x es ≡ cond b (x 0) 0 + value_of fs (λ i. x (suc i)) es
    go true e =
        let s : f ≡ es = (same_list-iff f es).0 (rw e tt) in
        value_of-first f fs x es e
        ∙ sym (ap (x 0 +◌) (value_of_absent fs (λ i. x (suc i)) es (λ i. h (rw (sym s) at i))) ∙ add-zero (x 0))
    go false e = value_of_later f fs x es e ∙ sym (zero-add _)

-- a sum over the cells of the box is a sum over the columns
pub columns-sum : (ds : List ℕ) (F : List ℕ → ℕ) {fs : List (List ℕ)} → Ordered fs → ((g : List ℕ) → In g fs → Within ds g) → (x : ℕ → ℕ)
    → sum (cells ds) (λ n. F (digits ds n) * value_of fs x (digits ds n)) ≡ sum (length fs) (λ c. F (get_or fs c []) * x c)
unfolding sum value_of
columns-sum ds F ordered_none h x = sum-zero (cells ds) (λ n p. mul-zero (F (digits ds n)))
columns-sum ds F (ordered_more {f} {fs} b o) h x =
    sum_eq (cells ds) (λ n p. ap (F (digits ds n) *◌) (value_of_apart f fs x (digits ds n) (not_in-after b)) ∙ mul-add (F (digits ds n)) _ _)
    ∙ sum-add (cells ds) first (λ n. F (digits ds n) * value_of fs (λ i. x (suc i)) (digits ds n))
    ∙ ap₂ ◌+◌ one (columns-sum ds F o (λ g i. h g (there i)) (λ i. x (suc i)))
  where
    first : ℕ → ℕ
    first n = F (digits ds n) * cond (same_list f (digits ds n)) (x 0) 0

    w : Within ds f
    w = h f (here refl)

    one : sum (cells ds) first ≡ F f * x 0
    one =
        sum_one (cells ds) first (cell ds f) (cell-lt w)
        (λ n p q.
        ap (λ (r : Bool). F (digits ds n) * cond r (x 0) 0) (same_false f (digits ds n) (λ e. q (sym (cell-digits ds n p) ∙ sym (ap (cell ds) e))))
        ∙ mul-zero (F (digits ds n)))
        ∙ ap (λ (es : List ℕ). F es * cond (same_list f es) (x 0) 0) (digits-cell w)
        ∙ ap (λ (r : Bool). F f * cond r (x 0) 0) (same_true f f refl)

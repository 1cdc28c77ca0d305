-- The coefficients of a polynomial and the tables that hold them: at every whole-number point the polynomial's value is that of the powers with the
-- table's coefficients. Every table holds the coefficients of a polynomial, and every polynomial has such a table.
use Rattle.std.specs.Prelude.{◌≡◌, refl, Bool, true, false, cond, ℕ, zero, suc, ◌*◌, ◌%◌, ◌^◌, ◌<◌, List, map, eqb, ℤ, pos, ◌+ℤ◌, length}
use Rattle.std.proofs.Common.{sym, ap, ap₂, ◌∙◌, suc-le-suc, zero-mul, mod-eq_of_lt, zero-lt-suc, not-suc-le-zero, le_of_suc-le-suc, eq-eqb, ne_eqb, arith, pow_pos}
use Rattle.std.proofs.Math.Decide.{ℕ_discrete}
use Rattle.std.proofs.Math.Dec.{eqb-zero-suc, eqb-suc-zero, eqb-suc-suc}
use Rattle.std.proofs.Math.IntN.{+ℤ_idl, +ℤ_idr}
use Rattle.meaning.specs.Tables.{tabulate, at}
use Rattle.meaning.specs.Boxes.{cells, digits, cell, Within}
use Rattle.meaning.specs.Integers.{residue}
use Rattle.meaning.specs.Polynomials.{Term, Terms, no_terms, one_more, terms_at}
use Rattle.meaning.specs.Calls.{same_list, truth}
use Rattle.theory.specs.Congruence.{Cong, cong_of_eq, cong_sym, cong_trans, cong_add}
use Rattle.theory.specs.Tables.{length-tabulate, at-tabulate}
use Rattle.theory.specs.Boxes.{digits-within, cell-digits}
use Rattle.theory.specs.EqualLists.{same_true, same_false, product-delta}
use Rattle.theory.specs.Evaluation.{eval, eval_cong}
use Rattle.theory.specs.Integers.{residue_pos, residue-add, residue-lt}
use Rattle.theory.specs.PowerBoxes.{gathered, residue-terms_at, terms_of, polynomial_of}
use Rattle.theory.specs.Values.{entry, within_of_cells}
use Rattle.demand3.specs.Words.{polynomial_value, coefficient_of, Coefficients}

module _ {m : ℕ} (positive : 0 < m) where
  -- one term
  gathered-one : (b : Bool) (z : ℤ) → Cong m (truth b * residue m z) (residue m (cond b z (pos 0)))
  gathered-one true z = cong_of_eq m (omega arith)
  gathered-one false z = cong_trans (cong_of_eq m (zero-mul (residue m z))) (cong_sym (residue_pos positive 0))

  -- the gathered terms with the exponents js
  gathered_cong : {ds js : List ℕ} {p : List Term} → Within ds js → Terms ds p → Cong m (gathered m (length ds) p js) (residue m (coefficient_of p js))
  unfolding gathered coefficient_of
  gathered_cong u no_terms = cong_sym (residue_pos positive 0)
  gathered_cong {ds} {js} u (one_more {t} {ts} w r) =
      cong_trans
      (cong_add
      (cong_trans (cong_of_eq m (ap (◌* residue m t.coefficient) (product-delta u w))) (gathered-one (same_list t.exponents js) t.coefficient))
      (gathered_cong u r))
      (cong_sym (residue-add positive (cond (same_list t.exponents js) t.coefficient (pos 0)) (coefficient_of ts js)))

module _ (w : ℕ) (ds : List ℕ) (p : List Term) where
  -- a polynomial has the value of the powers with its coefficients
  pub value_coefficients : (c : List ℕ) → Coefficients w ds p c → (zs : List ℤ)
      → polynomial_value w ds p zs ≡ eval ◌^◌ ds (entry ds c) (map (residue (2 ^ w)) zs) % 2 ^ w
  value_coefficients c h zs =
      sym (mod-eq_of_lt (residue-lt positive (terms_at (length ds) p zs)))
      ∙ (cong_trans (residue-terms_at positive zs h.within) (eval_cong ◌^◌ ds (map (residue (2 ^ w)) zs) (λ es u. cong_sym (same es u)))).same
    where
      positive : 0 < 2 ^ w
      positive = pow_pos w

      same : (es : List ℕ) → Within ds es → Cong (2 ^ w) (entry ds c es) (gathered (2 ^ w) (length ds) p es)
      same =
          within_of_cells (λ es n. Cong (2 ^ w) (at c n) (gathered (2 ^ w) (length ds) p es)) ds
          (λ n l. cong_trans (record { same = h.each n l ∙ sym (mod-eq_of_lt (residue-lt positive (coefficient_of p (digits ds n)))) })
          (cong_sym (gathered_cong positive (digits-within ds n) h.within)))

-- ---- the table of a polynomial

pub coefficients : (w : ℕ) (ds : List ℕ) (p : List Term) → Terms ds p
    → Coefficients w ds p (tabulate (cells ds) (λ n. residue (2 ^ w) (coefficient_of p (digits ds n))))
coefficients w ds p degrees =
    record {
      within = degrees;
      whole = length-tabulate (cells ds) _;
      each = λ n l. ap (◌% 2 ^ w) (at-tabulate (cells ds) _ n l) ∙ mod-eq_of_lt (residue-lt (pow_pos w) (coefficient_of p (digits ds n)));
    }

-- ---- the polynomial of a table

-- cells with the same exponents are the same
same_list-digits : (ds : List ℕ) (i n : ℕ) → i < cells ds → n < cells ds → same_list (digits ds i) (digits ds n) ≡ eqb i n
same_list-digits ds i n p q = go (ℕ_discrete i n)
  where
    go : Dec (i ≡ n) → same_list (digits ds i) (digits ds n) ≡ eqb i n
    go (yes e) = same_true (digits ds i) (digits ds n) (ap (digits ds) e) ∙ sym (eq-eqb i n e)
    go (no ne) =
        same_false (digits ds i) (digits ds n) (λ e. ne (sym (cell-digits ds i p) ∙ ap (cell ds) e ∙ cell-digits ds n q)) ∙ sym (ne_eqb i n ne)

-- of terms given by a rule none has the exponents es, or the n-th alone
coefficient_none : (k : ℕ) (f : ℕ → Term) (es : List ℕ) → ((i : ℕ) → i < k → same_list (f i).exponents es ≡ false)
    → coefficient_of (terms_of k f) es ≡ pos 0
unfolding coefficient_of terms_of
coefficient_none zero f es h = refl
coefficient_none (suc k) f es h =
    ap₂ ◌+ℤ◌ (ap (λ (b : Bool). cond b (f 0).coefficient (pos 0)) (h 0 (zero-lt-suc k)))
    (coefficient_none k (λ i. f (suc i)) es (λ i l. h (suc i) (suc-le-suc l)))

coefficient-one : (k : ℕ) (f : ℕ → Term) (es : List ℕ) (n : ℕ) → n < k → ((i : ℕ) → i < k → same_list (f i).exponents es ≡ eqb i n)
    → coefficient_of (terms_of k f) es ≡ (f n).coefficient
unfolding coefficient_of terms_of
coefficient-one zero f es n l h = absurd (not-suc-le-zero l)
coefficient-one (suc k) f es zero l h =
    ap₂ ◌+ℤ◌ (ap (λ (b : Bool). cond b (f 0).coefficient (pos 0)) (h 0 (zero-lt-suc k)))
    (coefficient_none k (λ i. f (suc i)) es (λ i r. h (suc i) (suc-le-suc r) ∙ eqb-suc-zero i))
    ∙ +ℤ_idr (f 0).coefficient
coefficient-one (suc k) f es (suc n) l h =
    ap₂ ◌+ℤ◌ (ap (λ (b : Bool). cond b (f 0).coefficient (pos 0)) (h 0 (zero-lt-suc k) ∙ eqb-zero-suc n))
    (coefficient-one k (λ i. f (suc i)) es n (le_of_suc-le-suc l) (λ i r. h (suc i) (suc-le-suc r) ∙ eqb-suc-suc i n))
    ∙ +ℤ_idl (f (suc n)).coefficient

-- the polynomial with a term for each cell
pub table_coefficients : (w : ℕ) (ds c : List ℕ) → length c ≡ cells ds → Coefficients w ds (polynomial_of ds c).terms c
unfolding polynomial_of residue
table_coefficients w ds c e =
    record {
      within = (polynomial_of ds c).within;
      whole = e;
      each = λ n l. ap (residue (2 ^ w)) (sym
          (coefficient-one (cells ds) (λ i. record { coefficient = pos (at c i); exponents = digits ds i }) (digits ds n) n l
          (λ i r. same_list-digits ds i n r l)));
    }

-- The matrix as it is filled is the system of the fit, and the exponents of the columns are as low as the degrees.
use Rattle.std.specs.Prelude.{◌≡◌, Bool, cond, List, [], ◌∷◌, ◌++◌, ℕ, zero, suc, ◌+◌, ◌*◌, ◌%◌, ◌^◌, ◌<◌, length, take, drop, get_or}
use Rattle.std.proofs.Common.{sym, ap, ◌∙◌, suc-le-suc, lt_of_le_of_lt, lt_of_lt_of_le, le_of_eq, mul-one, suc-ne-zero, zero-mul, le_of_suc-le-suc, not-suc-le-zero, zero-lt-suc, arith, take_at}
use Rattle.std.proofs.Math.Nat.{suc_inj}
use Rattle.std.proofs.Math.Seq.{drop-append-add}
use borrow.Author.Tests.{lt-ltb}
use Rattle.meaning.specs.Tables.{at}
use Rattle.meaning.specs.Factorials.{falling}
use Rattle.meaning.specs.Boxes.{digits, Within}
use Rattle.meaning.specs.Values.{product}
use Rattle.meaning.specs.Elimination.{joined}
use Rattle.meaning.specs.Fit.{columns, fit_system}
use Rattle.theory.specs.Boxes.{length-within, within-at}
use Rattle.theory.specs.Columns.{in-columns-iff, in_get_or}
use Rattle.weighted_poly_fit.proofs.FewColumns.{columns-one}
use Rattle.theory.specs.MatrixTables.{places, at_joined}
use Rattle.weighted_poly_fit.specs.Entries.{weighed}
use Rattle.weighted_poly_fit.proofs.Listed.{length-columns-joined}

-- list c of lists of k numbers each, one behind the other
pub part-joined : (k : ℕ) (fs : List (List ℕ)) → ((i : ℕ) → i < length fs → length (get_or fs i []) ≡ k)
    → (c : ℕ) → c < length fs → take k (drop (c * k) (joined fs)) ≡ get_or fs c []
unfolding joined
part-joined k [] f c h = absurd (not-suc-le-zero h)
part-joined k (g ∷ fs) f zero h =
    ap (λ (i : ℕ). take k (drop i (g ++ joined fs))) (zero-mul k) ∙ take_at g (joined fs) k (f 0 (zero-lt-suc (length fs)))
part-joined k (g ∷ fs) f (suc c) h =
    let e : suc c * k ≡ length g + c * k = omega (arith, f 0 (zero-lt-suc (length fs))) in
    ap (λ (i : ℕ). take k (drop i (g ++ joined fs))) e
    ∙ ap (take k) (drop-append-add g (joined fs) (c * k))
    ∙ part-joined k fs (λ i l. f (suc i) (suc-le-suc l)) c (le_of_suc-le-suc h)

module _ (ds : List ℕ) (most : ℕ) where
  column_within : (i : ℕ) → i < length (columns ds most) → Within ds (get_or (columns ds most) i [])
  column_within i h = ((in-columns-iff ds most (get_or (columns ds most) i [])).0 (in_get_or (columns ds most) i h)).0

  column_length : (i : ℕ) → i < length (columns ds most) → length (get_or (columns ds most) i []) ≡ length ds
  column_length i h = length-within (column_within i h)

  -- every exponent is below a number that is above all degrees
  pub columns_small : (size : ℕ) → ((j : ℕ) → j < length ds → at ds j < size)
      → (n : ℕ) → n < length (joined (columns ds most)) → at (joined (columns ds most)) n < size
  columns_small size f n h =
      places (length (columns ds most)) (length ds) (λ m. at (joined (columns ds most)) m < size)
      (λ i c p q.
      rw (at_joined (length ds) (columns ds most) column_length i c p q) (lt_of_le_of_lt (within-at (column_within i p) c) (f c q)))
      n (rw (length-columns-joined ds most) at h)

  -- column c of one variable has the exponent c
  pub columns-one-at : length ds ≡ 1 → (c : ℕ) → c < length (joined (columns ds most)) → at (joined (columns ds most)) c ≡ c
  columns-one-at = go ds (length-columns-joined ds most)
    where
      go : (es : List ℕ) → length (joined (columns es most)) ≡ length (columns es most) * length es → length es ≡ 1
          → (c : ℕ) → c < length (joined (columns es most)) → at (joined (columns es most)) c ≡ c
      go [] long e c h = absurd (suc-ne-zero 0 (sym e))
      go (d ∷ []) long e c h = columns-one d most c (lt_of_lt_of_le h (le_of_eq (long ∙ mul-one (length (columns (d ∷ []) most)))))
      go (d ∷ (y ∷ ys)) long e c h = absurd (suc-ne-zero (length ys) (suc_inj e))

  module _ (w : ℕ) (gs weights targets : List ℕ) (same : length gs ≡ length ds) where
    -- an entry is that of the system
    pub weighed-system : (i c : ℕ) → c < length (columns ds most)
        → weighed w gs (joined (columns ds most)) weights i c ≡ fit_system w gs (columns ds most) weights targets i c
    unfolding weighed fit_system
    weighed-system i c h =
        ap (λ (es : List ℕ). (at weights i * product falling (length gs) (digits gs i) es) % 2 ^ w)
        (ap (λ (k : ℕ). take k (drop (c * k) (joined (columns ds most)))) same ∙ part-joined (length ds) (columns ds most) column_length c h)
        ∙ ap
        (λ (b : Bool). cond b (at weights i * product falling (length gs) (digits gs i) (get_or (columns ds most) c [])) (at targets i) % 2 ^ w)
        (sym (lt-ltb c (length (columns ds most)) h))

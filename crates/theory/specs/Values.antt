-- Laws of the value of a coefficient box: it is below m, depends on the coefficients and on the coordinates modulo m only, and agreement with a
-- table of values is agreement with the function that the table gives on the grid.
use Rattle.std.specs.Prelude.{◌≡◌, ◌↔◌, ℕ, ◌*◌, ◌%◌, ◌<◌, List, length}
use Rattle.std.proofs.Common.{sym, ap, ◌∙◌, mod-lt}
use Rattle.std.proofs.Math.Nat.{mod-mod}
use Rattle.meaning.specs.Tables.{tabulate, at}
use Rattle.meaning.specs.Sums.{sum}
use Rattle.meaning.specs.Factorials.{falling}
use Rattle.meaning.specs.Boxes.{cells, digits, cell, Within}
use Rattle.meaning.specs.Values.{product, value, Agrees}
use Rattle.meaning.specs.Differences.{grid}
use Rattle.theory.specs.Congruence.{Cong, cong_of_eq, cong_sym, cong_trans, mod-cong}
use Rattle.theory.specs.Sums.{sum_eq}
use Rattle.theory.specs.Tables.{at-tabulate}
use Rattle.theory.specs.Binomials.{falling_cong}
use Rattle.theory.specs.Boxes.{digits-within, cell-lt, cell-digits, digits-cell, box_sum-eq-sum}
use Rattle.theory.specs.Evaluation.{eval, eval_cong, eval_cong_point, value-eq-eval}
use Rattle.theory.specs.Recovery.{Fits}

-- a table over a box as a function of the exponent list
abbrev pub entry : List ℕ → List ℕ → List ℕ → ℕ
entry ds t es = at t (cell ds es)

-- what holds of every cell number holds of every list within the box
pub within_of_cells : (P : List ℕ → ℕ → Type 0) (ds : List ℕ) → ((n : ℕ) → n < cells ds → P (digits ds n) n)
    → (es : List ℕ) → Within ds es → P es (cell ds es)
within_of_cells P ds h es w = rw (digits-cell w) at (h (cell ds es) (cell-lt w))

-- the table of a function of the exponent list has that function's entries
pub entry-tabulate : (ds : List ℕ) (F : List ℕ → ℕ) (es : List ℕ) → Within ds es → entry ds (tabulate (cells ds) (λ n. F (digits ds n))) es ≡ F es
entry-tabulate ds F =
    within_of_cells (λ es n. at (tabulate (cells ds) (λ n. F (digits ds n))) n ≡ F es) ds
    (λ n p. at-tabulate (cells ds) (λ n. F (digits ds n)) n p)

-- an evaluation of a table is the flat sum over its cells
pub eval-entry : (f : ℕ → ℕ → ℕ) (ds c xs : List ℕ) → eval f ds (entry ds c) xs ≡ sum (cells ds) (λ n. product f (length ds) xs (digits ds n) * at c n)
unfolding eval
eval-entry f ds c xs =
    box_sum-eq-sum ds (λ es. product f (length ds) xs es * entry ds c es)
    ∙ sum_eq (cells ds) (λ n p. ap (λ (i : ℕ). product f (length ds) xs (digits ds n) * at c i) (cell-digits ds n p))

-- a value is below m
pub value-lt : {m : ℕ} (ds c xs : List ℕ) → 0 < m → value m ds c xs < m
unfolding value
value-lt ds c xs p = mod-lt _ p

-- the value and the evaluation by falling factorials are congruent
pub value_cong_eval : (m : ℕ) (ds c xs : List ℕ) → Cong m (value m ds c xs) (eval falling ds (entry ds c) xs)
value_cong_eval m ds c xs = cong_trans (cong_of_eq m (value-eq-eval m ds c xs)) (mod-cong m (eval falling ds (entry ds c) xs))

-- values are equal where the evaluations are congruent
pub value-eq_of_cong : (m : ℕ) (ds c d xs ys : List ℕ)
    → Cong m (eval falling ds (entry ds c) xs) (eval falling ds (entry ds d) ys) → value m ds c xs ≡ value m ds d ys
value-eq_of_cong m ds c d xs ys h = value-eq-eval m ds c xs ∙ h.same ∙ sym (value-eq-eval m ds d ys)

-- the value depends on the coefficients modulo m only
pub value_cong : (m : ℕ) (ds c d xs : List ℕ) → ((n : ℕ) → n < cells ds → Cong m (at c n) (at d n)) → value m ds c xs ≡ value m ds d xs
value_cong m ds c d xs h =
    value-eq_of_cong m ds c d xs xs (eval_cong falling ds xs (within_of_cells (λ es n. Cong m (at c n) (at d n)) ds h))

-- and on the coordinates modulo m only
pub value_cong_point : (m : ℕ) (ds c xs ys : List ℕ) → ((i : ℕ) → i < length ds → Cong m (at xs i) (at ys i)) → value m ds c xs ≡ value m ds c ys
value_cong_point m ds c xs ys h =
    value-eq_of_cong m ds c c xs ys (eval_cong_point falling ds (entry ds c) xs ys (λ x y e r. falling_cong e r) h)

-- to agree with a table is to agree with its function on the grid
pub agrees_iff : (m : ℕ) (ds c v : List ℕ) → Agrees m ds c v ↔ Fits m ds (entry ds c) (grid m ds v)
unfolding Agrees grid
agrees_iff m ds c v = (there, back)
  where
    there : ((n : ℕ) → n < cells ds → value m ds c (digits ds n) ≡ at v n % m) → Fits m ds (entry ds c) (grid m ds v)
    there a =
        record {
          fits = λ xs w.
              cong_trans (cong_sym (value_cong_eval m ds c xs)) (cong_of_eq m (within_of_cells (λ es n. value m ds c es ≡ at v n % m) ds a xs w));
        }

    back : Fits m ds (entry ds c) (grid m ds v) → (n : ℕ) → n < cells ds → value m ds c (digits ds n) ≡ at v n % m
    back a n p =
        value-eq-eval m ds c (digits ds n)
        ∙ (a.fits (digits ds n) (digits-within ds n)).same
        ∙ mod-mod (at v (cell ds (digits ds n))) m
        ∙ ap (λ (i : ℕ). at v i % m) (cell-digits ds n p)

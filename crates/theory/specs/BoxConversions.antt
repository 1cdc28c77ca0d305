-- Conversions in several variables: between the coefficients of powers and those of falling factorials, over a box, modulo m.
-- A transform of each line by a matrix, done along every variable, is the evaluation by that matrix; then the change of basis of one variable,
-- which is Stirling's identity, carries over to all.
use Rattle.std.specs.Prelude.{◌≡◌, ℕ, suc, ◌*◌, ◌^◌, ◌≤◌, ◌<◌, List, [], ◌∷◌}
use Rattle.std.proofs.Common.{sym, ◌∙◌, inl, mul_comm}
use Rattle.meaning.specs.Sums.{sum}
use Rattle.meaning.specs.Factorials.{falling}
use Rattle.meaning.specs.Boxes.{Within, none, next, along}
use Rattle.meaning.specs.Stirling.{stirling2, falling_line, power_line}
use Rattle.theory.specs.Congruence.{Cong, cong_of_eq, cong_sym, cong_trans, mod-cong}
use Rattle.theory.specs.Sums.{sum_eq}
use Rattle.theory.specs.Evaluation.{eval, eval-nil, eval-cons, eval_cong, eval-sum, eval_change, each_of_all}
use Rattle.theory.specs.StirlingNumbers.{signed, power_eq-sum-falling, falling_cong_sum_power}

-- a transform of each line by the matrix t, along every variable, is the evaluation by t
pub along_cong_eval : {m : ℕ} (line : ℕ → (ℕ → ℕ) → ℕ → ℕ) (t : ℕ → ℕ → ℕ) {ds es : List ℕ} (v : List ℕ → ℕ)
    → ((d : ℕ) (f : ℕ → ℕ) (j : ℕ) → Cong m (line d f j) (sum (suc d) (λ e. t j e * f e)))
    → Within ds es → Cong m (along line ds v es) (eval t ds v es)
unfolding along
along_cong_eval {m} line t v h none = cong_of_eq m (sym (eval-nil t v []))
along_cong_eval {m} line t v h (next {d} {e} {ds} {es} p w) =
    cong_trans (along_cong_eval line t (λ xs. line d (λ x. v (x ∷ xs)) e) h w)
    (cong_trans (eval_cong t ds es (λ xs u. h d (λ x. v (x ∷ xs)) e))
    (cong_of_eq m (eval-sum t ds (suc d) (t e) (λ x xs. v (x ∷ xs)) es ∙ sym (eval-cons t d ds v (e ∷ es)))))

-- from powers to falling factorials
pub eval-falling-along : {m : ℕ} (ds : List ℕ) (a : List ℕ → ℕ) (xs : List ℕ)
    → Cong m (eval falling ds (along (falling_line m) ds a) xs) (eval ◌^◌ ds a xs)
unfolding falling_line
eval-falling-along {m} ds a xs =
    cong_trans
    (eval_cong falling ds xs (λ es w. along_cong_eval (falling_line m) (λ j e. stirling2 e j) a (λ d f j. mod-cong m _) w))
    (eval_change falling (λ j e. stirling2 e j) ◌^◌ a (each_of_all ds xs (λ d x k p. cong_of_eq m (one d x k p))))
  where
    one : (d x k : ℕ) → k ≤ d → sum (suc d) (λ j. falling x j * stirling2 k j) ≡ x ^ k
    one d x k p =
        sum_eq (suc d) (λ j q. mul_comm (falling x j) (stirling2 k j)) ∙ sym (power_eq-sum-falling x k d (inl p))

-- from falling factorials to powers
pub eval_power_along : {m : ℕ} (ds : List ℕ) (c : List ℕ → ℕ) (xs : List ℕ) → 0 < m
    → Cong m (eval ◌^◌ ds (along (power_line m) ds c) xs) (eval falling ds c xs)
unfolding power_line
eval_power_along {m} ds c xs pos =
    cong_trans
    (eval_cong ◌^◌ ds xs (λ es w. along_cong_eval (power_line m) (λ j e. signed m e j) c (λ d f j. mod-cong m _) w))
    (eval_change ◌^◌ (λ j e. signed m e j) falling c (each_of_all ds xs one))
  where
    one : (d x k : ℕ) → k ≤ d → Cong m (sum (suc d) (λ j. x ^ j * signed m k j)) (falling x k)
    one d x k p =
        cong_trans (cong_of_eq m (sum_eq (suc d) (λ j q. mul_comm (x ^ j) (signed m k j))))
        (cong_sym (falling_cong_sum_power pos x k d p))

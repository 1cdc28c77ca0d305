-- A transform along every variable with a line of its own for each variable, `lines i` for variable i. With one line for all it is `along`. One law
-- carries a change of basis of one variable to all: where for each variable the transformed line, evaluated by f at that variable's coordinate of xs, is
-- the line evaluated by g at that of ys, the same holds of the box at xs and ys. It is an induction over the variables: the first variable's sum is taken
-- inside the sum over the others, where its law applies, and out again.
use Rattle.std.specs.Prelude.{◌≡◌, refl, ℕ, suc, ◌*◌, List, [], ◌∷◌, drop}
use Rattle.std.proofs.Common.{sym, ◌∙◌}
use Rattle.meaning.specs.Tables.{at}
use Rattle.meaning.specs.Sums.{sum}
use Rattle.meaning.specs.Boxes.{along}
use Rattle.theory.specs.Congruence.{Cong, cong_of_eq, cong_trans, cong_mul-left}
use Rattle.theory.specs.Sums.{sum_cong}
use Rattle.theory.specs.Evaluation.{eval, eval-nil, eval-cons, eval_cong, eval-sum}

-- a transform of one line: the degree, the line and the index
abbrev pub Line : Type 0
Line = ℕ → (ℕ → ℕ) → ℕ → ℕ

-- the transform along every variable, first variable first, variable i by `lines i`
unfoldable pub along_each : (ℕ → Line) → List ℕ → (List ℕ → ℕ) → List ℕ → ℕ
along_each lines [] v es = v []
along_each lines (d ∷ ds) v [] = 0
along_each lines (d ∷ ds) v (e ∷ es) = along_each (λ i. lines (suc i)) ds (λ xs. lines 0 d (λ x. v (x ∷ xs)) e) es

-- with one line for all variables
pub along_each_same : (line : Line) (ds : List ℕ) (v : List ℕ → ℕ) (es : List ℕ) → along_each (λ i. line) ds v es ≡ along line ds v es
unfolding along_each along
along_each_same line [] v es = refl
along_each_same line (d ∷ ds) v [] = refl
along_each_same line (d ∷ ds) v (e ∷ es) = along_each_same line ds (λ xs. line d (λ x. v (x ∷ xs)) e) es

-- the coordinates after the first
at_drop : (xs : List ℕ) (i : ℕ) → at (drop 1 xs) i ≡ at xs (suc i)
at_drop [] i = refl
at_drop (x ∷ xs) i = refl

-- a change of basis of each variable, done to a box
pub eval-along_each : {m : ℕ} (f g : ℕ → ℕ → ℕ) (lines : ℕ → Line) (ds : List ℕ) (v : List ℕ → ℕ) (xs ys : List ℕ)
    → ((i d : ℕ) (c : ℕ → ℕ) → Cong m (sum (suc d) (λ e. f (at xs i) e * lines i d c e)) (sum (suc d) (λ e. g (at ys i) e * c e)))
    → Cong m (eval f ds (along_each lines ds v) xs) (eval g ds v ys)
unfolding along_each
eval-along_each {m} f g lines [] v xs ys h = cong_of_eq m (eval-nil f (along_each lines [] v) xs ∙ sym (eval-nil g v ys))
eval-along_each {m} f g lines (d ∷ ds) v xs ys h =
    cong_trans (cong_of_eq m (eval-cons f d ds (along_each lines (d ∷ ds) v) xs))
    (cong_trans
    (sum_cong (suc d) (λ e q. cong_mul-left (f (at xs 0) e)
    (eval-along_each f g (λ i. lines (suc i)) ds (λ zs. lines 0 d (λ x. v (x ∷ zs)) e) (drop 1 xs) (drop 1 ys) rest)))
    (cong_trans (cong_of_eq m (sym (eval-sum g ds (suc d) (f (at xs 0)) (λ e zs. lines 0 d (λ x. v (x ∷ zs)) e) (drop 1 ys))))
    (cong_trans (eval_cong g ds (drop 1 ys) (λ zs w. h 0 d (λ x. v (x ∷ zs))))
    (cong_of_eq m (eval-sum g ds (suc d) (g (at ys 0)) (λ e zs. v (e ∷ zs)) (drop 1 ys) ∙ sym (eval-cons g d ds v ys))))))
  where
    rest : (i d : ℕ) (c : ℕ → ℕ)
        → Cong m (sum (suc d) (λ e. f (at (drop 1 xs) i) e * lines (suc i) d c e)) (sum (suc d) (λ e. g (at (drop 1 ys) i) e * c e))
    rest i d c = rw (at_drop xs i, at_drop ys i) (h (suc i) d c)

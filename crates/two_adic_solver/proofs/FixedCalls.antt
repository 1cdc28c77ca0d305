-- A call of the four by four solver: the shape of the arrays that it is given, and its number and answer from those of the system that fits.
use Rattle.std.proofs.Common.{Bool, cond, ◌≡◌, ℕ, zero, suc, ◌*◌, ◌<◌, true, false, List, [], ◌∷◌, length, get_or, replicate, sym, refl, ap, ◌∙◌, le_of_suc-le-suc, not-suc-le-zero, w64, arith, ◌≤◌}
use mir.Val.{Val}
use denote.Shadow.{shadow}
use denote.Laws.{Is}
use denote.Plain.{UInt}
use denote.Array.{Array, each}
use Rattle.meaning.specs.Tables.{tabulate}
use Rattle.meaning.specs.Elimination.{joined, fixed_number, fixed_answer}
use Rattle.meaning.specs.Settings.{fits_width}
use Rattle.two_adic_solver.specs.Fixed.{Square, joined_length}
use Rattle.two_adic_solver.specs.Solved.{Finished}
use Rattle.two_adic_solver.proofs.SolverLaws.{refused_width, fitting_call}

-- ---- arrays by value have the shape of their types

pub length_good : (xs : List ℕ) (vs : List Val) → Is (Array (UInt w64) 4) xs vs → length xs ≡ 4
length_good xs vs p = p.1.0.1

each_full : (xs : List (List ℕ)) (us : List Val) → shadow (each (List ℕ) (Array (UInt w64) 4).own_val xs us)
    → (i : ℕ) → i < length xs → length (get_or xs i []) ≡ 4
each_full [] us s i l = absurd (not-suc-le-zero l)
each_full (x ∷ xs) [] s i l = absurd s
each_full (x ∷ xs) (u ∷ us) s zero l = length_good x (u ∷ []) s.0
each_full (x ∷ xs) (u ∷ us) s (suc i) l = each_full xs us s.1 i (le_of_suc-le-suc l)

pub square_good : (xs : List (List ℕ)) (vs : List Val) → Is (Array (Array (UInt w64) 4) 4) xs vs → Square xs
square_good xs vs p =
    record { rows = p.1.0.1; row = λ i l. each_full xs p.0 p.1.1 i (rw p.1.0.1 l) }

-- ---- the call

module _ (w : ℕ) (m : List (List ℕ)) (r : List ℕ) where
  pub fixed_width : fits_width w ≡ false → (3 ≡ fixed_number w m r) × (replicate 4 0 ≡ fixed_answer w m r)
  unfolding fixed_number fixed_answer
  fixed_width e =
      let q = refused_width w 4 (joined m) r (replicate 4 0) e in
      (q.0, q.3)

  module _ (s : Square m) (e : length r ≡ 4) where
    pub fixed_solved : fits_width w ≡ true → (n : ℕ) (mat rhs x : List ℕ) → Finished w 4 (joined m) r mat rhs x n
        → (n ≡ fixed_number w m r) × (x ≡ fixed_answer w m r)
    unfolding fixed_number fixed_answer
    fixed_solved fits n mat rhs x k =
        let l = joined_length s in
        let few : length (joined m) ≤ 65536 = omega (arith, l) in
        let q = fitting_call w 4 (joined m) r (replicate 4 0) fits few (omega arith) (λ f. absurd (omega (arith, f)))
        (omega (arith, l)) (omega (arith, l, e)) refl n mat rhs x (k.shows.matrix_length ∙ ap (◌* 4) e ∙ sym l) k in
        (q.0, q.3)

    -- a refusal comes with zeros
    zeros : (b : Bool) (f : ℕ → ℕ) (x : List ℕ) → (b ≡ true → ⊥) → x ≡ tabulate 4 (λ c. cond b (f c) 0) → x ≡ replicate 4 0
    unfolding tabulate
    zeros true f x ne e = absurd (ne refl)
    zeros false f x ne e = e

    pub fixed_refused : fits_width w ≡ true → (n : ℕ) (mat rhs x : List ℕ) → Finished w 4 (joined m) r mat rhs x n → (n ≡ 0 → ⊥)
        → (n ≡ fixed_number w m r) × (replicate 4 0 ≡ fixed_answer w m r)
    fixed_refused fits n mat rhs x k some =
        let q = fixed_solved fits n mat rhs x k in
        (q.0, sym (zeros _ _ x (λ e. some (k.number_eq ∙ ap (λ (b : Bool). cond b 0 10) e)) k.answer_eq) ∙ q.1)

-- An accepted call leaves an answer that solves the system: the number 0 says that no cause is met, so that there is a right side for each row, and then
-- that every row is satisfied.
use Rattle.std.proofs.Common.{◌≡◌, ℕ, ◌*◌, Bool, true, false, cond, ◌&&◌, ◌||◌, T, eqb, ltb, List, length, replicate, sym, refl, ◌∙◌, subst, arith, eqb-true}
use Rattle.meaning.specs.Elimination.{joined, solver_rows, solver_cause, solver_number, solver_answer, fixed_number, fixed_answer}
use Rattle.meaning.specs.Settings.{fits_width}
use Rattle.theory.specs.AcceptedCalls.{first-zero}
use Rattle.theory.specs.SolverLaws.{solver_answer-solves}
use Rattle.two_adic_solver.specs.Solves.{Solves}

and_left : (a b : Bool) → (a && b) ≡ true → a ≡ true
and_left true b e = refl
and_left false b e = e

and_right : (a b : Bool) → (a && b) ≡ true → b ≡ true
and_right true b e = e
and_right false b e = absurd (subst (λ (b : Bool). T b) (sym e) tt)

no_cause : (a b d : Bool) → ◌≡◌ {A = ℕ} (cond a (cond b 8 (cond d 0 9)) 3) 0 → d ≡ true
no_cause true false true e = refl
no_cause true true d e = absurd (omega arith)
no_cause true false false e = absurd (omega arith)
no_cause false b d e = absurd (omega arith)

module _ (w cols : ℕ) (mat rhs x : List ℕ) where
  rows_eq : solver_number w cols mat rhs x ≡ 0 → length rhs ≡ solver_rows cols mat
  unfolding solver_number solver_cause
  rows_eq ok =
      let whole : Bool = ltb 0 cols && eqb (solver_rows cols mat * cols) (length mat) in
      let sides : Bool = eqb (length rhs) (solver_rows cols mat) in
      let values : Bool = eqb (length x) cols in
      let fits =
      no_cause (fits_width w) (ltb 65536 (length mat) || ltb 65536 cols) (whole && sides && values)
      (first-zero (solver_cause w cols mat rhs x) _ ok).0 in
      eqb-true (length rhs) (solver_rows cols mat) (and_right whole sides (and_left (whole && sides) values fits))

  pub answer-solves : (n : ℕ) (y : List ℕ) → n ≡ solver_number w cols mat rhs x → y ≡ solver_answer w cols mat rhs x → n ≡ 0 → Solves w cols mat rhs y
  answer-solves n y en ey z =
      let ok : solver_number w cols mat rhs x ≡ 0 = sym en ∙ z in
      rw ey (record { row = λ i l. solver_answer-solves w cols mat rhs x ok i (rw (rows_eq ok) at l) })

-- the four by four solver's
pub fixed_solves : (w : ℕ) (m : List (List ℕ)) (r : List ℕ) (n : ℕ) (y : List ℕ) → n ≡ fixed_number w m r → y ≡ fixed_answer w m r → n ≡ 0
    → Solves w 4 (joined m) r y
unfolding fixed_number fixed_answer
fixed_solves w m r = answer-solves w 4 (joined m) r (replicate 4 0)

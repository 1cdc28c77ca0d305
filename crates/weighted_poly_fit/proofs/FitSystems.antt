-- The filled matrix and right side have the system of the fit: at every row and column, past the end of the tables too.
use Rattle.std.specs.Prelude.{◌≡◌, refl, Bool, true, false, cond, List, [], ℕ, ◌+◌, ◌*◌, ◌%◌, ◌^◌, ◌≤◌, ◌<◌, ltb, length, get_or}
use Rattle.std.proofs.Common.{sym, ap, ap₂, ◌∙◌, zero-mul, mul-le-mul_right, arith}
use Rattle.std.proofs.Math.Path.{fun_ext}
use Rattle.std.proofs.Math.Nat.{mod-mod}
use Rattle.std.proofs.Math.ListN.{get_or-eq_default}
use borrow.Author.Tests.{ltb-true, ltb-false, lt-ltb}
use Rattle.meaning.specs.Tables.{at, tabulate}
use Rattle.meaning.specs.Factorials.{falling}
use Rattle.meaning.specs.Boxes.{digits}
use Rattle.meaning.specs.Values.{product}
use Rattle.meaning.specs.Elimination.{joined, system}
use Rattle.meaning.specs.Fit.{columns, fit_system}
use Rattle.theory.specs.Tables.{at-tabulate, length-tabulate}
use Rattle.theory.specs.MatrixTables.{flat, at_matrix}
use Rattle.weighted_poly_fit.specs.Entries.{weighed}
use Rattle.weighted_poly_fit.proofs.FitMatrix.{weighed-system}

-- past its end a table has 0
past : (t : List ℕ) (n : ℕ) → length t ≤ n → at t n ≡ 0
past t n h = get_or-eq_default t 0 h

module _ (w : ℕ) (ds gs weights targets : List ℕ) (most : ℕ) (same : length gs ≡ length ds) where
  abbrev fs : List (List ℕ)
  fs = columns ds most

  -- a row's weight times the falling factorials of column c
  abbrev term : ℕ → ℕ → ℕ
  term i c = at weights i * product falling (length gs) (digits gs i) (get_or fs c [])

  abbrev entries : List ℕ
  entries = tabulate (length weights * length fs) (flat (length fs) (weighed w gs (joined fs) weights))

  abbrev rights : List ℕ
  rights = tabulate (length targets) (λ i. at targets i % 2 ^ w)

  -- an entry of the matrix
  matrix_entry : (i c : ℕ) → c < length fs → (b : Bool) → ltb i (length weights) ≡ b → at entries (i * length fs + c) % 2 ^ w ≡ term i c % 2 ^ w
  unfolding fit_system
  matrix_entry i c h true e =
      ap (◌% 2 ^ w)
      (at_matrix (length weights) (length fs) (weighed w gs (joined fs) weights) i c (ltb-true i _ e) h
      ∙ weighed-system ds most w gs weights targets same i c h
      ∙ ap (λ (b : Bool). cond b (term i c) (at targets i) % 2 ^ w) (lt-ltb c (length fs) h))
      ∙ mod-mod (term i c) (2 ^ w)
  matrix_entry i c h false e =
      let l : length weights * length fs ≤ i * length fs = mul-le-mul_right (length fs) (ltb-false i (length weights) e) in
      ap (◌% 2 ^ w)
      (past entries (i * length fs + c) (omega (arith, length-tabulate (length weights * length fs) (flat (length fs) (weighed w gs (joined fs) weights))))
      ∙ sym (ap (◌* product falling (length gs) (digits gs i) (get_or fs c [])) (past weights i (ltb-false i (length weights) e)) ∙ zero-mul _))

  -- an entry of the right side
  right_entry : (i : ℕ) (b : Bool) → ltb i (length targets) ≡ b → at rights i % 2 ^ w ≡ at targets i % 2 ^ w
  right_entry i true e =
      ap (◌% 2 ^ w) (at-tabulate (length targets) (λ i. at targets i % 2 ^ w) i (ltb-true i _ e)) ∙ mod-mod (at targets i) (2 ^ w)
  right_entry i false e =
      let l : length targets ≤ i = ltb-false i (length targets) e in
      ap (◌% 2 ^ w)
      (past rights i (omega (arith, length-tabulate (length targets) (λ i. at targets i % 2 ^ w))) ∙ sym (past targets i l))

  -- the system
  tables_system : system w (length fs) entries rights ≡ fit_system w gs fs weights targets
  unfolding system fit_system
  tables_system = fun_ext λ i. fun_ext λ c. one i c (ltb c (length fs)) refl
    where
      one : (i c : ℕ) (b : Bool) → ltb c (length fs) ≡ b
          → cond b (at entries (i * length fs + c)) (at rights i) % 2 ^ w ≡ cond b (term i c) (at targets i) % 2 ^ w
      one i c true e = matrix_entry i c (ltb-true c _ e) (ltb i (length weights)) refl
      one i c false e = right_entry i (ltb i (length targets)) refl

  -- the tables as they are filled, with `cols` columns
  pub filled_system : (cols : ℕ) → cols ≡ length (columns ds most) → (mat rhs exps : List ℕ) (m r : ℕ) → exps ≡ joined (columns ds most)
      → m ≡ length weights * cols → mat ≡ tabulate m (flat cols (weighed w gs exps weights))
      → length targets ≡ r → rhs ≡ tabulate r (λ i. at targets i % 2 ^ w)
      → system w cols mat rhs ≡ fit_system w gs (columns ds most) weights targets
  filled_system cols count mat rhs exps m r listed long filled few aimed =
      ap₂ (system w cols)
      (filled
      ∙ ap₂ (λ (n : ℕ) (l : List ℕ). tabulate n (flat cols (weighed w gs l weights))) long listed)
      (aimed ∙ ap (λ (n : ℕ). tabulate n (λ i. at targets i % 2 ^ w)) (sym few))
      ∙ ap (λ (n : ℕ). system w n (tabulate (length weights * n) (flat n (weighed w gs (joined fs) weights))) rights) count
      ∙ tables_system

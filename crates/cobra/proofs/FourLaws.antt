-- The call of the four by four solver: what is said and left for each of its ways.
use Rattle.std.specs.Prelude.{◌≡◌, refl, Bool, true, false, cond, List, ℕ, zero, suc, ◌+◌, ◌*◌, ◌%◌, ◌^◌, ◌<◌, length}
use Rattle.std.proofs.Common.{sym, ap₂, ◌∙◌, arith}
use Rattle.meaning.specs.Tables.{at}
use Rattle.meaning.specs.Sums.{sum}
use Rattle.meaning.specs.Elimination.{joined, fixed_number, fixed_answer}
use Rattle.meaning.specs.Settings.{fits_width}
use Rattle.two_adic_solver.specs.Solves.{Solves}
use Rattle.cobra.specs.Systems.{four, square, four_fit, four_number, four_answer}

-- a row of the sixteen entries is one of the four rows
square_row : (w : ℕ) (m r x : List ℕ) → Solves w 4 (joined (square m)) (four 0 r) x
    → (i : ℕ) → i < 4 → sum 4 (λ c. at m (i * 4 + c) * at x c) % 2 ^ w ≡ at r i % 2 ^ w
unfolding sum joined
square_row w m r x s zero l = s.row 0 (omega arith)
square_row w m r x s (suc zero) l = s.row 1 (omega arith)
square_row w m r x s (suc (suc zero)) l = s.row 2 (omega arith)
square_row w m r x s (suc (suc (suc zero))) l = s.row 3 (omega arith)
square_row w m r x s (suc (suc (suc (suc i)))) l = absurd (omega arith)

module _ (w : ℕ) (m r a : List ℕ) where
  -- the width and the lengths decide
  decided : (b c : Bool) → fits_width w ≡ b → four_fit m r a ≡ c
      → (four_number w m r a ≡ cond b (cond c (fixed_number w (square m) (four 0 r)) 9) 3)
      × (four_answer w m r a ≡ cond b (cond c (fixed_answer w (square m) (four 0 r)) a) a)
  unfolding four_number four_answer
  decided b c e f = (
    ap₂ (λ (b c : Bool). cond b (cond c (fixed_number w (square m) (four 0 r)) 9) 3) e f,
    ap₂ (λ (b c : Bool). cond b (cond c (fixed_answer w (square m) (four 0 r)) a) a) e f,
  )

  -- what the call says and leaves, and that an answer solves the system
  abbrev Told : ℕ → List ℕ → Type 0
  Told n out = (n ≡ four_number w m r a) × ((out ≡ four_answer w m r a) × (n ≡ 0 → Solves w 4 m r out))

  pub four_width : fits_width w ≡ false → Told 3 a
  four_width e = let d = decided false (four_fit m r a) e refl in (sym d.0, (sym d.1, λ z. absurd (omega arith)))

  pub four-length : fits_width w ≡ true → four_fit m r a ≡ false → Told 9 a
  four-length e f = let d = decided true false e f in (sym d.0, (sym d.1, λ z. absurd (omega arith)))

  pub four_solved : fits_width w ≡ true → four_fit m r a ≡ true → length r ≡ 4 → (n : ℕ) (x out : List ℕ)
      → n ≡ fixed_number w (square m) (four 0 r) → x ≡ fixed_answer w (square m) (four 0 r)
      → (n ≡ 0 → Solves w 4 (joined (square m)) (four 0 r) x) → out ≡ x → Told n out
  four_solved e f lr n x out en ex s whole =
      let d = decided true true e f in
      (en ∙ sym d.0, (whole ∙ ex ∙ sym d.1, λ z. rw whole (record { row = λ i p. square_row w m r x (s z) i (rw lr at p) })))

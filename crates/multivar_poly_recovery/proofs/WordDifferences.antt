-- Recovery's steps on a table. The values are moved up by 64 - w bits: their differences modulo 2^64, moved down again, are recovery's differences, which
-- are those modulo 2^w.
use Rattle.std.proofs.Common.{◌≡◌, ℕ, ◌+◌, ◌-◌, ◌*◌, ◌/◌, ◌%◌, ◌^◌, ◌<◌, ◌≤◌, Bool, cond, eqb, List, length, sym, ap, ◌∙◌, ap₂, mod-eq_of_lt, zero-mul, mul-div_cancel, arith, pow_pos, pow-add, eq-eqb}
use Rattle.std.proofs.Math.Path.{fun_ext}
use Rattle.std.proofs.Math.Nat.{zero-mod}
use Rattle.std.proofs.Math.Decide.{dec_le}
use Rattle.std.proofs.Math.ListN.{get_or-eq_default}
use Rattle.meaning.specs.Tables.{tabulate, at}
use Rattle.meaning.specs.Boxes.{cells, cell, digits, along}
use Rattle.meaning.specs.Differences.{newton, differences, grid}
use Rattle.meaning.specs.Recovery.{difference, every, divides, coefficient, accepts, answer}
use Rattle.theory.specs.Every.{every_cong}
use Rattle.theory.specs.DifferenceBounds.{difference-lt}
use Rattle.theory.specs.Tables.{length-tabulate, tabulate_cong, at-tabulate}
use Rattle.lines.specs.Transforms.{transformed}
use Rattle.multivar_poly_recovery.proofs.Multiples.{mod_scaled, along_scaled}

module _ (w : ℕ) (ds v : List ℕ) (h : w ≤ 64) (whole : length v ≡ cells ds) where
  -- the values moved up
  abbrev high : List ℕ
  high = tabulate (length v) (λ n. (at v n * 2 ^ (64 - w)) % 2 ^ 64)

  word : 2 ^ 64 ≡ 2 ^ w * 2 ^ (64 - w)
  word =
      let e : 64 ≡ w + (64 - w) = omega arith in
      ap (2 ^◌) e ∙ pow-add 2 w (64 - w)

  -- are those modulo 2^w, times 2^(64 - w)
  at_high : (n : ℕ) → at high n ≡ at v n % 2 ^ w * 2 ^ (64 - w)
  at_high n = go (dec_le (length v) n)
    where
      go : Dec (length v ≤ n) → at high n ≡ at v n % 2 ^ w * 2 ^ (64 - w)
      go (yes p) =
          get_or-eq_default high 0 (rw (length-tabulate (length v) (λ n. (at v n * 2 ^ (64 - w)) % 2 ^ 64)) p)
          ∙ sym (ap (λ (x : ℕ). x % 2 ^ w * 2 ^ (64 - w)) (get_or-eq_default v 0 p) ∙ ap (◌* 2 ^ (64 - w)) (zero-mod (2 ^ w)) ∙ zero-mul _)
      go (no p) =
          at-tabulate (length v) _ n (omega arith)
          ∙ ap (λ (m : ℕ). (at v n * 2 ^ (64 - w)) % m) word
          ∙ mod_scaled (2 ^ w) (2 ^ (64 - w)) (pow_pos w) (pow_pos (64 - w)) (at v n)

  -- and so are their differences
  at-differenced : (n : ℕ) → n < cells ds → at (transformed newton (2 ^ 64) ds high) n ≡ difference w ds v n * 2 ^ (64 - w)
  unfolding difference differences grid
  at-differenced n k =
      let long : n < length high = rw (length-tabulate (length v) _, whole) k in
      at-tabulate (length high) _ n long
      ∙ ap (λ (f : List ℕ → ℕ). along (newton (2 ^ 64)) ds f (digits ds n)) (fun_ext λ xs. at_high (cell ds xs))
      ∙ ap (λ (m : ℕ). along (newton m) ds (λ xs. grid (2 ^ w) ds v xs * 2 ^ (64 - w)) (digits ds n)) word
      ∙ along_scaled (2 ^ w) (2 ^ (64 - w)) (pow_pos w) (pow_pos (64 - w)) ds (grid (2 ^ w) ds v) (digits ds n)

  -- the values moved up, differenced modulo 2^64, moved down, tested and divided
  pub recovered_of_steps : (a b c t : List ℕ) (r : Bool) → a ≡ high
      → b ≡ cond (eqb (length a) (cells ds)) (transformed newton (2 ^ 64) ds a) a
      → c ≡ tabulate (length b) (λ n. at b n / 2 ^ (64 - w))
      → r ≡ every (cells ds) (λ n. divides w (digits ds n) (at c n % 2 ^ w))
      → t ≡ cond r (tabulate (cells ds) (λ n. coefficient w (digits ds n) (at c n % 2 ^ w))) (tabulate (cells ds) (λ n. 0))
      → (r ≡ accepts w ds v) × (t ≡ cond (accepts w ds v) (answer w ds v) (tabulate (cells ds) (λ n. 0)))
  unfolding accepts answer
  recovered_of_steps a b c t r raised differenced lowered tested divided =
      (verdict, divided ∙ ap₂ (λ (x : Bool) (l : List ℕ). cond x l (tabulate (cells ds) (λ n. 0))) verdict left)
    where
      long : length high ≡ cells ds
      long = length-tabulate (length v) _ ∙ whole

      all : b ≡ transformed newton (2 ^ 64) ds high
      all = differenced ∙ (rw (raised, eq-eqb (length high) (cells ds) long))

      count : length b ≡ cells ds
      count = ap length all ∙ length-tabulate (length high) _ ∙ long

      entry : (n : ℕ) → n < cells ds → at c n % 2 ^ w ≡ difference w ds v n
      entry n k =
          ap (λ (l : List ℕ). at l n % 2 ^ w) lowered
          ∙ ap (◌% 2 ^ w) (at-tabulate (length b) _ n (rw count k))
          ∙ ap (λ (x : ℕ). x / 2 ^ (64 - w) % 2 ^ w) (ap (λ (l : List ℕ). at l n) all ∙ at-differenced n k)
          ∙ ap (◌% 2 ^ w) (mul-div_cancel (difference w ds v n) (pow_pos (64 - w)))
          ∙ mod-eq_of_lt (difference-lt w ds v n)

      verdict : r ≡ every (cells ds) (λ n. divides w (digits ds n) (difference w ds v n))
      verdict = tested ∙ every_cong (cells ds) (λ n k. ap (divides w (digits ds n)) (entry n k))

      left : tabulate (cells ds) (λ n. coefficient w (digits ds n) (at c n % 2 ^ w))
          ≡ tabulate (cells ds) (λ n. coefficient w (digits ds n) (difference w ds v n))
      left = tabulate_cong (cells ds) _ _ (λ n k. ap (coefficient w (digits ds n)) (entry n k))

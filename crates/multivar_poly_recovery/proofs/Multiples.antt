-- Differences of multiples: those of k times a function, modulo n k, are k times those modulo n, exactly.
use Rattle.std.proofs.Common.{◌≡◌, ℕ, zero, suc, ◌+◌, ◌-◌, ◌*◌, ◌%◌, ◌<◌, List, [], ◌∷◌, sym, refl, ap, ◌∙◌, ap₂, add-zero, mul_comm, add-mul, zero-mul, mul-div_cancel}
use Rattle.std.proofs.Math.Path.{fun_ext}
use Rattle.std.proofs.Math.Nat.{mul-sub, mul-mod_left}
use Rattle.std.proofs.Math.Arith.{mod-mul}
use Rattle.meaning.specs.Boxes.{along}
use Rattle.meaning.specs.Differences.{minus, diff, diffs, newton}

module _ (n k : ℕ) (pos : 0 < n) (positive : 0 < k) where
  pub mod_scaled : (x : ℕ) → x * k % (n * k) ≡ x % n * k
  mod_scaled x =
      mod-mul (x * k) pos positive
      ∙ ap₂ (λ (a b : ℕ). a % n * k + b) (mul-div_cancel x positive) (mul-mod_left x k)
      ∙ add-zero _

  minus_scaled : (a b : ℕ) → minus (n * k) (a * k) (b * k) ≡ minus n a b * k
  unfolding minus
  minus_scaled a b =
      ap (λ (x : ℕ). (a * k + (n * k - x)) % (n * k)) (mod_scaled b)
      ∙ ap (λ (x : ℕ). (a * k + x) % (n * k)) (sub-scaled n (b % n))
      ∙ ap (◌% (n * k)) (sym (add-mul a (n - b % n) k))
      ∙ mod_scaled (a + (n - b % n))
    where
      sub-scaled : (a b : ℕ) → a * k - b * k ≡ (a - b) * k
      sub-scaled a b = ap₂ ◌-◌ (mul_comm a k) (mul_comm b k) ∙ sym (mul-sub k a b) ∙ mul_comm k (a - b)

  diffs_scaled : (e : ℕ) (v : ℕ → ℕ) (x : ℕ) → diffs (n * k) e (λ y. v y * k) x ≡ diffs n e v x * k
  unfolding diffs diff
  diffs_scaled zero v x = refl
  diffs_scaled (suc e) v x =
      ap (λ (u : ℕ → ℕ). diffs (n * k) e u x) (fun_ext λ y. minus_scaled (v (suc y)) (v y)) ∙ diffs_scaled e (diff n v) x

  pub along_scaled : (ds : List ℕ) (v : List ℕ → ℕ) (es : List ℕ) → along (newton (n * k)) ds (λ xs. v xs * k) es ≡ along (newton n) ds v es * k
  unfolding along newton
  along_scaled [] v es = refl
  along_scaled (d ∷ ds) v [] = sym (zero-mul k)
  along_scaled (d ∷ ds) v (e ∷ es) =
      ap (λ (u : List ℕ → ℕ). along (newton (n * k)) ds u es) (fun_ext λ xs. diffs_scaled e (λ x. v (x ∷ xs)) 0)
      ∙ along_scaled ds (λ xs. newton n d (λ x. v (x ∷ xs)) e) es

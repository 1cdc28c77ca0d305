-- Where all differences of an order are 0, so are those of every higher order: from there on a pass changes nothing.
use Rattle.std.proofs.Common.{◌≡◌, ℕ, zero, suc, ◌+◌, ◌-◌, ◌*◌, ◌<◌, ◌≤◌, List, sym, ◌∙◌, ap₂, le_trans, suc-add, mul-le-mul_left, zero-add, le-add_left, arith}
use Rattle.std.proofs.Math.Decide.{dec_le}
use Rattle.meaning.specs.Tables.{at}
use Rattle.meaning.specs.Differences.{minus}
use Rattle.lines.specs.FlatTables.{lined}
use Rattle.lines.specs.InPlace.{ZeroFrom, differenced, lined-differenced, lined-kept, NewtonPassed}
use Rattle.lines.specs.NodeConversions.{minus-zero}

module _ {m s d : ℕ} {f : ℕ → ℕ} {n : ℕ} {t : List ℕ} (pos : 0 < s) where
  -- one pass
  still : {p : ℕ} → ZeroFrom (s * p) t → NewtonPassed m s d f n p t → NewtonPassed m s d f n (suc p) t
  still {p} zeros r = record { shows = record { same = r.shows.same; entry = λ i h. go i h (dec_le (s * suc p) i) } }
    where
      is_zero : (i : ℕ) → s * p ≤ i → i < n → 0 ≡ lined (differenced m p) s d f i
      is_zero i l h = sym (zeros i l (omega (arith, r.shows.same))) ∙ r.shows.entry i h

      go : (i : ℕ) → i < n → Dec (s * suc p ≤ i) → at t i ≡ lined (differenced m (suc p)) s d f i
      go i h (no l) = r.shows.entry i h ∙ sym (lined-kept m s p d f i pos (omega arith))
      go i h (yes l) =
          let back : i - s + s ≡ i = omega arith in
          zeros i (omega arith) (omega (arith, r.shows.same))
          ∙ sym (minus-zero m)
          ∙ ap₂ (minus m) (is_zero i (omega arith) h) (is_zero (i - s) (omega arith) (omega arith))
          ∙ (rw back at (sym (lined-differenced m s p d f (i - s) pos (omega arith))))

  -- any number of passes
  pub stays : (k : ℕ) {p : ℕ} → ZeroFrom (s * p) t → NewtonPassed m s d f n p t → NewtonPassed m s d f n (k + p) t
  stays zero {p} zeros r = rw (zero-add p) r
  stays (suc k) {p} zeros r =
      rw (suc-add k p)
      (still (λ i l h. zeros i (le_trans (mul-le-mul_left s (le-add_left p k)) l) h) (stays k zeros r))

-- Differences of numbers below m are below m, and recovery's differences below 2^w.
use Rattle.std.specs.Prelude.{List, [], ◌∷◌, ℕ, zero, suc, ◌^◌, ◌<◌}
use Rattle.std.proofs.Common.{mod-lt, pow_pos}
use Rattle.meaning.specs.Tables.{at}
use Rattle.meaning.specs.Boxes.{cell, along, Within, none, next}
use Rattle.meaning.specs.Differences.{diff, diffs, newton, differences, grid}
use Rattle.meaning.specs.Recovery.{difference}
use Rattle.theory.specs.Congruence.{minus-lt}
use Rattle.theory.specs.Boxes.{digits-within}

-- differences of numbers below m are below m
diffs-lt : {m : ℕ} → 0 < m → (n : ℕ) (v : ℕ → ℕ) → ((x : ℕ) → v x < m) → (x : ℕ) → diffs m n v x < m
unfolding diffs diff
diffs-lt p zero v h x = h x
diffs-lt {m} p (suc n) v h x = diffs-lt p n (diff m v) (λ y. minus-lt (v (suc y)) (v y) p) x

pub differences-lt : {m : ℕ} → 0 < m → {ds es : List ℕ} (v : List ℕ → ℕ) → Within ds es → ((xs : List ℕ) → v xs < m) → differences m ds v es < m
unfolding differences along newton
differences-lt p v none h = h []
differences-lt {m} p v (next {d = d} {e = e} q rest) h =
    differences-lt p (λ xs. newton m d (λ x. v (x ∷ xs)) e) rest (λ xs. diffs-lt p e (λ x. v (x ∷ xs)) (λ x. h (x ∷ xs)) 0)

-- so that recovery's differences are below 2^w
pub difference-lt : (w : ℕ) (ds v : List ℕ) (n : ℕ) → difference w ds v n < 2 ^ w
unfolding difference
difference-lt w ds v n =
    differences-lt (pow_pos w) (grid (2 ^ w) ds v) (digits-within ds n) (λ xs. unfold grid in mod-lt (at v (cell ds xs)) (pow_pos w))

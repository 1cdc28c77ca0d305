-- Moved points: a point with an offset added to each coordinate, of natural and of whole numbers, and its residues.
use Rattle.std.specs.Prelude.{◌≡◌, refl, ℤ, pos, get_or, ℕ, zero, suc, ◌+◌, ◌<◌, List, [], ◌∷◌, map}
use Rattle.std.proofs.Common.{sym, zero-add, add-zero}
use Rattle.std.proofs.Math.Nat.{zero-mod}
use Rattle.meaning.specs.Tables.{at}
use Rattle.meaning.specs.Integers.{residue}
use Rattle.meaning.specs.Datum.{moved_point, moved_pointℤ}
use Rattle.theory.specs.Congruence.{Cong, cong_of_eq}
use Rattle.theory.specs.Integers.{residue-add}

-- a coordinate of a moved point
pub at-moved_point : (xs bs : List ℕ) (i : ℕ) → at (moved_point xs bs) i ≡ at xs i + at bs i
unfolding moved_point
at-moved_point [] bs i = sym (zero-add (at bs i))
at-moved_point (x ∷ xs) [] i = sym (add-zero (at (x ∷ xs) i))
at-moved_point (x ∷ xs) (b ∷ bs) zero = refl
at-moved_point (x ∷ xs) (b ∷ bs) (suc i) = at-moved_point xs bs i

-- a coordinate of a list of residues
pub residue-at : (m : ℕ) (zs : List ℤ) (i : ℕ) → at (map (residue m) zs) i ≡ residue m (get_or zs i (pos 0))
unfolding residue
residue-at m [] i = sym (zero-mod m)
residue-at m (z ∷ zs) zero = refl
residue-at m (z ∷ zs) (suc i) = residue-at m zs i

module _ {m : ℕ} (positive : 0 < m) where
  -- the residues of a moved point
  pub residue-moved_point : (zs bs : List ℤ) (i : ℕ)
      → Cong m (at (map (residue m) (moved_pointℤ zs bs)) i) (at (map (residue m) zs) i + at (map (residue m) bs) i)
  unfolding moved_pointℤ
  residue-moved_point [] bs i = cong_of_eq m (sym (zero-add (at (map (residue m) bs) i)))
  residue-moved_point (z ∷ zs) [] i = cong_of_eq m (sym (add-zero (at (map (residue m) (z ∷ zs)) i)))
  residue-moved_point (z ∷ zs) (b ∷ bs) zero = residue-add positive z b
  residue-moved_point (z ∷ zs) (b ∷ bs) (suc i) = residue-moved_point zs bs i

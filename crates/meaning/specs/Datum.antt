-- A form with its datum moved: each variable is replaced by itself plus an offset. The moved form is recovery's answer from the values at the moved grid
-- points, so that there is nothing here but values and recovery.
use Rattle.std.specs.Prelude.{ℕ, ◌+◌, ◌^◌, List, [], ◌∷◌, ℤ, ◌+ℤ◌}
use Rattle.meaning.specs.Tables.{tabulate}
use Rattle.meaning.specs.Boxes.{cells, digits}
use Rattle.meaning.specs.Values.{value}
use Rattle.meaning.specs.Recovery.{answer}

-- the point xs with the offset of each coordinate added; a list that is too short is read as if zeros followed
unfoldable pub moved_point : List ℕ → List ℕ → List ℕ
moved_point [] os = os
moved_point (x ∷ xs) [] = x ∷ xs
moved_point (x ∷ xs) (o ∷ os) = (x + o) ∷ moved_point xs os

-- the same of whole numbers
unfoldable pub moved_pointℤ : List ℤ → List ℤ → List ℤ
moved_pointℤ [] bs = bs
moved_pointℤ (z ∷ zs) [] = z ∷ zs
moved_pointℤ (z ∷ zs) (b ∷ bs) = (z +ℤ b) ∷ moved_pointℤ zs bs

-- the values, modulo m, of the coefficient box c at the moved grid points
unfoldable pub moved_values : ℕ → List ℕ → List ℕ → List ℕ → List ℕ
unfolding value moved_point
moved_values m ds c os = tabulate (cells ds) (λ n. value m ds c (moved_point (digits ds n) os))

-- the coefficient box c with each variable replaced by itself plus its offset, in normal form
unfoldable pub moved : ℕ → List ℕ → List ℕ → List ℕ → List ℕ
unfolding answer moved_values
moved w ds c os = answer w ds (moved_values (2 ^ w) ds c os)

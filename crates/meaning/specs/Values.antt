-- Coefficient boxes, their values at natural numbers modulo m, their bounds and normal forms.
use Rattle.std.specs.Prelude.{◌≡◌, ℕ, zero, suc, ◌+◌, ◌*◌, ◌-◌, ◌%◌, ◌^◌, ◌<◌, List, [], ◌∷◌, length, drop}
use Rattle.meaning.specs.Tables.{tabulate, at}
use Rattle.meaning.specs.Sums.{sum}
use Rattle.meaning.specs.Factorials.{factorial, falling, twos, odd_part}
use Rattle.meaning.specs.Boxes.{cells, digits}

-- the product of f x e over k variables; a list that is too short is read as if zeros followed
unfoldable pub product : (ℕ → ℕ → ℕ) → ℕ → List ℕ → List ℕ → ℕ
product f zero xs es = 1
product f (suc k) xs es = f (at xs 0) (at es 0) * product f k (drop 1 xs) (drop 1 es)

-- the value, modulo m, of the coefficient box c at the point xs: the sum over the cells of the coefficient times the falling factorials of the
-- coordinates to that cell's exponents
unfoldable pub value : ℕ → List ℕ → List ℕ → List ℕ → ℕ
value m ds c xs = sum (cells ds) (λ n. product falling (length ds) xs (digits ds n) * at c n) % m

-- the box c agrees with the grid v: at every grid point its value is the lent one, modulo m
unfoldable pub Agrees : ℕ → List ℕ → List ℕ → List ℕ → Type 0
Agrees m ds c v = (n : ℕ) → n < cells ds → value m ds c (digits ds n) ≡ at v n % m

-- q: the twos in the factorials of the exponents
unfoldable pub weight : List ℕ → ℕ
weight [] = 0
weight (e ∷ es) = twos (factorial e) + weight es

-- the odd part of the product of the factorials of the exponents
unfoldable pub odd_factor : List ℕ → ℕ
odd_factor [] = 1
odd_factor (e ∷ es) = odd_part (factorial e) * odd_factor es

-- the bound of a coefficient at width w: 2^(w - q), which is 1 where q is w or more, so that only 0 is below it
unfoldable pub bound : ℕ → List ℕ → ℕ
unfolding weight
bound w es = 2 ^ (w - weight es)

-- a coefficient for each cell, each below the bound of its cell
pub record Bounded (h : List ℕ → ℕ) (ds c : List ℕ) : Type 0 where
  pub whole : length c ≡ cells ds
  pub below : (n : ℕ) → n < cells ds → at c n < h (digits ds n)

-- normal forms at width w
abbrev pub Normal : ℕ → List ℕ → List ℕ → Type 0
Normal w ds c = Bounded (bound w) ds c

-- the sum of two coefficient boxes, each coefficient kept below its bound
unfoldable pub box_total : (List ℕ → ℕ) → List ℕ → List ℕ → List ℕ → List ℕ
box_total h ds a b = tabulate (cells ds) (λ n. (at a n + at b n) % h (digits ds n))

-- a coefficient box with each coefficient taken modulo its bound
unfoldable pub box_reduced : (List ℕ → ℕ) → List ℕ → List ℕ → List ℕ
box_reduced h ds c = tabulate (cells ds) (λ n. at c n % h (digits ds n))

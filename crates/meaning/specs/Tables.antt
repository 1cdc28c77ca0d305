-- Tables of numbers given by a rule.
use Rattle.std.specs.Prelude.{ℕ, zero, suc, List, [], ◌∷◌, get_or}

-- the list f 0, f 1, .., f (n - 1)
unfoldable pub tabulate : ℕ → (ℕ → ℕ) → List ℕ
tabulate zero f = []
tabulate (suc n) f = f 0 ∷ tabulate n (λ i. f (suc i))

-- the entry at place i, and 0 past the end
abbrev pub at : List ℕ → ℕ → ℕ
at t i = get_or t i 0

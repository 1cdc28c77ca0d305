-- Where a walk over one form finds the coefficients of another. It has for each variable a limit and a step, the degree and the stride of that variable in the
-- other form, and the place of an exponent list is the sum of exponent times step. An exponent above its limit leads far past every table.
use Rattle.std.specs.Prelude.{Bool, cond, List, [], ◌∷◌, ℕ, suc, ◌+◌, ◌*◌, ◌%◌, leb, eqb, length}
use Rattle.meaning.specs.Tables.{at, tabulate}
use Rattle.meaning.specs.Boxes.{cells, digits}
use Rattle.meaning.specs.Values.{bound}
use Rattle.meaning.specs.Recovery.{every}

-- past the end of every table, and small enough for the sum of twenty
abbrev pub far : ℕ
far = 1099511627776

-- how far an exponent leads
abbrev pub way_of : ℕ → ℕ → ℕ → ℕ
way_of limit step e = cond (leb e limit) (e * step) far

-- and how far a list of them
unfoldable pub place_of : List ℕ → List ℕ → List ℕ → ℕ
place_of [] ss es = 0
place_of (l ∷ ls) [] es = 0
place_of (l ∷ ls) (s ∷ ss) [] = 0
place_of (l ∷ ls) (s ∷ ss) (e ∷ es) = way_of l s e + place_of ls ss es

-- the test of a walk over the box c: the coefficient of cell n is, modulo its bound, the one at its place in the other table
abbrev pub is_match : ℕ → List ℕ → List ℕ → List ℕ → List ℕ → List ℕ → ℕ → ℕ → Bool
is_match w ds c limits steps other place n =
    eqb (at c n % bound w (digits ds n)) (at other (place + place_of limits steps (digits ds n)) % bound w (digits ds n))

-- ---- limits and steps

-- the stride of each variable, the first one's being s
unfoldable pub strides : ℕ → List ℕ → List ℕ
strides s [] = []
strides s (d ∷ ds) = s ∷ strides (s * suc d) ds

-- the entry of es where v stands in ps, 0 where it does not
unfoldable pub lookup : ℕ → List ℕ → List ℕ → ℕ
lookup v [] es = 0
lookup v (p ∷ ps) [] = 0
lookup v (p ∷ ps) (e ∷ es) = cond (eqb p v) e (lookup v ps es)

-- for each variable of ps the entry of es where it stands in qs
abbrev pub lookups : List ℕ → List ℕ → List ℕ → List ℕ
lookups ps qs es = tabulate (length ps) (λ i. lookup (at ps i) qs es)

-- the whole walk over the box c of the support ps and the degrees ds: each coefficient is matched in the box d of the support qs and the degrees fs
abbrev pub walked : ℕ → List ℕ → List ℕ → List ℕ → List ℕ → List ℕ → List ℕ → Bool
walked w ps ds c qs fs d = every (cells ds) (is_match w ds c (lookups ps qs fs) (lookups ps qs (strides 1 fs)) d 0)

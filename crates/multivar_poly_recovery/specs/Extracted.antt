-- What extraction leaves in the box of ds, where hs are the exponents of the variables behind those of ds.
use Rattle.std.specs.Prelude.{◌≡◌, ℕ, ◌-◌, ◌%◌, ◌^◌, ◌<◌, ◌≤◌, Bool, true, false, Option, Some, None, List, ◌++◌, length}
use Rattle.meaning.specs.Tables.{at}
use Rattle.meaning.specs.Factorials.{factorial, odd_part}
use Rattle.meaning.specs.Boxes.{cells, digits}
use Rattle.meaning.specs.Inverses.{inverse}
use Rattle.meaning.specs.Values.{weight, odd_factor}
use Rattle.meaning.specs.Recovery.{divides, coefficient}
use Rattle.multivar_poly_recovery.specs.Tested.{Tested}

-- the coefficient v where the test holds
abbrev pub cell_of : Bool → ℕ → Option ℕ
cell_of true v = Some v
cell_of false v = None

-- the test of the difference in cell n
abbrev pub test : ℕ → List ℕ → List ℕ → List ℕ → ℕ → Bool
test w ds hs t n = divides w (digits ds n ++ hs) (at t n % 2 ^ w)

-- its coefficient
abbrev pub number : ℕ → List ℕ → List ℕ → List ℕ → ℕ → ℕ
number w ds hs t n = coefficient w (digits ds n ++ hs) (at t n % 2 ^ w)

-- the answer r says whether every difference of t₀ passes; where they do, t has the coefficients
abbrev pub Extracted : ℕ → List ℕ → List ℕ → List ℕ → List ℕ → Bool → Type 0
Extracted w ds hs t₀ t r = Tested (test w ds hs t₀) (number w ds hs t₀) (cells ds) t r

-- the same whatever the exponents hs are that leave `left` bits and have an odd part of which v is the inverse
abbrev pub Promise : ℕ → ℕ → ℕ → List ℕ → List ℕ → List ℕ → Bool → Type 0
Promise left v w ds t₀ t r = (hs : List ℕ) → left ≡ w - weight hs → v ≡ inverse (odd_factor hs) 64 → Extracted w ds hs t₀ t r

-- a number whose low bits are ones, w at most
pub record Mask (w mask : ℕ) : Type 0 where
  pub bits : ℕ
  pub few : bits ≤ w
  pub ones : mask ≡ 2 ^ bits - 1

-- the inverse of the odd part of the factorials of a cell with the given exponents
abbrev pub unit : List ℕ → ℕ
unit es = inverse (odd_factor es) 64

-- that of cell n
abbrev pub unit_at : List ℕ → ℕ → ℕ
unit_at ds n = unit (digits ds n)

-- a table of the inverses of the cells of the box of ds
abbrev pub Inverted : List ℕ → List ℕ → Type 0
Inverted ds units = (i : ℕ) → i < cells ds → at units i ≡ unit_at ds i

-- a table of inverses of the odd parts of factorials
abbrev pub Inverses : List ℕ → Type 0
Inverses t = (k : ℕ) → k < length t → at t k ≡ inverse (odd_part (factorial k)) 64

-- every degree is below n
abbrev pub Reaching : List ℕ → ℕ → Type 0
Reaching ds n = (i : ℕ) → i < length ds → at ds i < n

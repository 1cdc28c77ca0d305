-- What the functions inside ask of a box, of a point and of the table of the point's falling products.
use Rattle.std.specs.Prelude.{◌≡◌, ℕ, ◌+◌, ◌*◌, ◌%◌, ◌^◌, ◌<◌, ◌≤◌, true, List, length}
use Rattle.meaning.specs.Tables.{at}
use Rattle.meaning.specs.Factorials.{falling}
use Rattle.meaning.specs.Boxes.{cells}
use Rattle.meaning.specs.Settings.{fits_width}
use Rattle.meaning.specs.Values.{value}

-- for each of k coordinates the falling factorials to the exponents below `size`, modulo 2^w, one coordinate behind the other
abbrev pub Products : ℕ → ℕ → ℕ → List ℕ → List ℕ → Type 0
Products w k size xs table = (j e : ℕ) → j < k → e < size → at table (j * size + e) ≡ falling (at xs j) e % 2 ^ w

-- a number has the value of a box in its low bits, of as many as the falling products in the table have
abbrev pub HasValue : ℕ → List ℕ → List ℕ → List ℕ → ℕ → Type 0
HasValue size ds c table r = (w : ℕ) (xs : List ℕ) → w ≤ 64 → Products w (length ds) size xs table → r % 2 ^ w ≡ value (2 ^ w) ds c xs

-- a box has a variable, a coefficient for each cell, and degrees below `size`
pub record Shaped (size : ℕ) (ds c : List ℕ) : Type 0 where
  pub some : 0 < length ds
  pub whole : length c ≡ cells ds
  pub below : (j : ℕ) → j < length ds → at ds j < size

-- and there are a width, a coordinate for each variable, and few falling products
pub record Asked (w size : ℕ) (ds c xs : List ℕ) : Type 0 where
  pub shape : Shaped size ds c
  pub fits : fits_width w ≡ true
  pub same : length xs ≡ length ds
  pub few : length ds * size ≤ 512

-- Loops that test the sub-boxes of the last variable one after the other, up to the first that fails. That is said of any test of cells. The sub-boxes behind
-- have passed, and `left` bits are left in the next one, so that its cells have in it the bounds that they have in the box.
use Rattle.std.specs.Prelude.{◌≡◌, ℕ, ◌+◌, ◌-◌, ◌*◌, ◌/◌, ◌<◌, ◌≤◌, Bool, true, false, List, length}
use Rattle.std.proofs.Common.{sym, ◌∙◌, ap, arith}
use Rattle.meaning.specs.Tables.{at}
use Rattle.meaning.specs.Factorials.{twos}
use Rattle.meaning.specs.Boxes.{cells, digits}
use Rattle.meaning.specs.Values.{bound}
use Rattle.meaning.specs.Recovery.{every}
use Rattle.theory.specs.Every.{Passed, passed_start, passed_fails, passed_next, passed_done}
use Rattle.theory.specs.LastVariable.{others, final, bound_last}
use Rattle.box_rows.specs.Walks.{Walk, walk_start, walk_lines, walk_exponent, walk_fits, walk_next}
use Rattle.box_rows.specs.Lines.{LineBits, line_full, line_bits}

-- the sub-boxes below the last exponent e pass the test p, and `left` bits are left in the next one
pub record Tested (p : ℕ → Bool) (w : ℕ) (ds : List ℕ) (n size left e from : ℕ) : Type 0 where
  pub walk : Walk ds n size e from
  pub bits : LineBits w e left
  pub passed : Passed p n from

module _ (p : ℕ → Bool) (w : ℕ) (ds : List ℕ) (n : ℕ) (all : n ≡ cells ds) where
  -- nothing is looked at yet
  pub tested_start : 0 < length ds → Tested p w ds n (n / (final ds + 1)) w 0 0
  tested_start h = record { walk = walk_start ds n h all; bits = line_full w; passed = passed_start p n }

  -- two variables, whose sub-boxes are lines
  pub tested_lines : length ds ≡ 2 → (size : ℕ) → size ≡ at ds 0 + 1 → Tested p w ds n size w 0 0
  tested_lines h size s = record { walk = walk_lines ds n h all size s; bits = line_full w; passed = passed_start p n }

module _ {p : ℕ → Bool} {w : ℕ} {ds : List ℕ} {n size left e from : ℕ} (r : Tested p w ds n size left e from) where
  pub tested_few : left ≤ w
  tested_few = omega (arith, r.bits)

  -- the tests of all cells
  whole : every (cells ds) p ≡ every n p
  whole = ap (λ (k : ℕ). every k p) (sym r.walk.whole)

  module _ (h : from < n) where
    pub tested_fits : from + size ≤ n
    tested_fits = walk_fits r.walk h

    -- the bound of a cell, in the box and in the next sub-box
    pub tested_bound : (i : ℕ) → i < size → bound w (digits ds (from + i)) ≡ bound left (digits (others ds) i)
    tested_bound i s =
        let k = r.walk in
        ap (λ (j : ℕ). bound w (digits ds (j + i))) (k.place ∙ ap (e *◌) k.sized)
        ∙ bound_last ds k.filled e i (walk_exponent k h) (rw k.sized at s) w
        ∙ ap (λ (j : ℕ). bound j (digits (others ds) i)) (sym r.bits)

    -- the next sub-box was tested
    module _ (b : Bool) (q : b ≡ every size (λ i. p (from + i))) where
      -- it fails
      pub tested_fails : b ≡ false → every (cells ds) p ≡ false
      tested_fails f = whole ∙ passed_fails r.passed size tested_fits q f

      -- it passes
      pub tested_next : (more : ℕ) → b ≡ true → more ≡ left - twos (e + 1) → Tested p w ds n size more (e + 1) (from + size)
      tested_next more t m =
          record { walk = walk_next r.walk h; bits = line_bits w e left more r.bits m; passed = passed_next r.passed size tested_fits q t }

  -- none is left
  pub tested-done : n ≤ from → every (cells ds) p ≡ true
  tested-done h = whole ∙ passed_done r.passed h

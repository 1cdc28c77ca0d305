-- The tables of a box, for a single row, a line, and the sub-boxes of the last variable.
use Rattle.std.proofs.Common.{◌≡◌, ℕ, suc, ◌-◌, ◌*◌, ◌<◌, ◌≤◌, List, [], ◌∷◌, length, take, sym, refl, ap, ◌∙◌, suc-ne-zero, arith, length-take-le, get_or-take}
use Rattle.std.specs.Prelude.{cond, nat_le}
use Rattle.std.proofs.Math.Nat.{suc_inj}
use Rattle.meaning.specs.Tables.{at, tabulate}
use Rattle.meaning.specs.Factorials.{factorial, odd_part}
use Rattle.meaning.specs.Inverses.{inverse}
use Rattle.theory.specs.Tables.{at-tabulate, length-tabulate}
use Rattle.meaning.specs.Boxes.{cells, digits}
use Rattle.meaning.specs.Values.{weight, bound}
use Rattle.theory.specs.Boxes.{digits-within}
use Rattle.box_rows.specs.Layouts.{numbered}
use Rattle.box_rows.specs.Rows.{Laid, row_variables, row_within, row_numbered}
use Rattle.multivar_poly_recovery.specs.Extracted.{Mask, Inverses, Inverted, Reaching, unit_at}
use Rattle.multivar_poly_recovery.specs.Products.{times}
use Rattle.multivar_poly_recovery.proofs.RowUnits.{no_unit, times-unit}

-- the masks of a row are masks
pub laid_mask : (ds masks : List ℕ) → Laid ds masks → (i : ℕ) → i < cells ds → Mask 64 (at masks i)
unfolding bound
laid_mask ds masks laid i h = record { bits = 64 - weight (digits ds i); few = omega arith; ones = laid i h }

-- one variable
pub single : (ds : List ℕ) → length ds ≡ 1 → ds ≡ at ds 0 ∷ []
single [] e = absurd (suc-ne-zero 0 (sym e))
single (d ∷ []) e = refl
single (d ∷ (y ∷ ys)) e = absurd (suc-ne-zero (length ys) (suc_inj e))

pub single_cells : (ds : List ℕ) → length ds ≡ 1 → cells ds ≡ suc (at ds 0)
unfolding cells
single_cells [] e = absurd (suc-ne-zero 0 (sym e))
single_cells (d ∷ []) e = omega arith
single_cells (d ∷ (y ∷ ys)) e = absurd (suc-ne-zero (length ys) (suc_inj e))

pub double : (ds : List ℕ) → length ds ≡ 2 → ds ≡ at ds 0 ∷ (at ds 1 ∷ [])
double [] e = absurd (suc-ne-zero 1 (sym e))
double (d ∷ ds) e = ap (d ∷◌) (single ds (suc_inj e))

pub double_cells : (ds : List ℕ) → length ds ≡ 2 → cells ds ≡ suc (at ds 1) * suc (at ds 0)
unfolding cells
double_cells [] e = absurd (suc-ne-zero 1 (sym e))
double_cells (d ∷ ds) e = ap (◌* suc d) (single_cells ds (suc_inj e))

-- no rows
pub alone_inverts : Inverted [] (1 ∷ [])
unfolding cells digits
alone_inverts i h = let z : i ≡ 0 = omega arith in ap (at (1 ∷ [])) z ∙ no_unit

-- a table of the first n inverses
pub inverses_of : (n : ℕ) (t : List ℕ) → t ≡ tabulate n (λ k. inverse (odd_part (factorial k)) 64) → Inverses t
inverses_of n t e k h =
    let inside : k < n = rw (ap length e ∙ length-tabulate n _) at h in
    ap (λ (l : List ℕ). at l k) e ∙ at-tabulate n _ k inside

-- the first degrees are among all
pub reaching_take : (k n : ℕ) (ds : List ℕ) → k ≤ length ds → Reaching ds n → Reaching (take k ds) n
reaching_take k n ds h r i l =
    let inside : i < k = rw (length-take-le k ds h) at l in
    rw (get_or-take k ds i 0 inside) (r i (omega arith))

-- a row that is laid out has the inverses of its cells
pub row_inverted : (t : List ℕ) → Inverses t → (ds old units : List ℕ) (first : ℕ) → first ≡ row_variables 1 ds → Reaching ds (length t) → length old ≡ 256
    → units ≡ cond (nat_le 256 (length old)) (numbered (times t 1) (take (row_variables 1 ds) ds) old) old → Inverted (take first ds) units
row_inverted t serve ds old units first e reach long laid i h =
    let k = row_variables 1 ds in
    let row = take k ds in
    let inside : i < cells row = rw e at h in
    row_numbered (times t 1) ds old units long laid i inside
    ∙ ap (λ (u : ℕ). times t u (digits row i)) no_unit
    ∙ times-unit t serve (digits-within row i) (reaching_take k (length t) ds (row_within 1 ds) reach) []
    ∙ ap (λ (n : ℕ). unit_at (take n ds) i) (sym e)

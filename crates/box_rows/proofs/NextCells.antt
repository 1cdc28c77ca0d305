-- One exponent more of a row's last variable, cell by cell.
use Rattle.std.specs.Prelude.{◌≡◌, ℕ, suc, ◌+◌, ◌-◌, ◌*◌, ◌<◌, ◌≤◌, List, [], ◌∷◌, ◌++◌, length, set}
use Rattle.std.proofs.Common.{sym, ◌∙◌, ap, ap₂, add_assoc, mul-le-mul_right, arith, length-set}
use Rattle.meaning.specs.Tables.{at}
use Rattle.meaning.specs.Boxes.{cells, digits}
use Rattle.theory.specs.Tables.{Filled, filled_step}
use Rattle.box_rows.specs.Layouts.{cell_number_of, at_exponent}

-- r cells of exponent e, which begin at `from`, have their numbers where the cells before them had theirs in m₀
pub record Behind (F : List ℕ → ℕ) (size from e : ℕ) (m₀ m : List ℕ) (r : ℕ) : Type 0 where
  pub same : length m ≡ length m₀
  pub within : r ≤ size
  pub filled : (d : ℕ) (ds t₀ : List ℕ) → e ≤ d → size ≡ cells ds → Filled (cell_number_of F (ds ++ (d ∷ []))) t₀ m₀ from
      → Filled (cell_number_of F (ds ++ (d ∷ []))) t₀ m (from + r)

-- a rule G makes the numbers of exponent e from those of exponent 0 and those of the exponent before
module _ (F : List ℕ → ℕ) (G : ℕ → ℕ → ℕ) (size from e : ℕ) (m₀ : List ℕ) (zeroth : (es : List ℕ) → F (es ++ (0 ∷ [])) ≡ F es)
    (more : (es : List ℕ) → F (es ++ (e ∷ [])) ≡ G (F es) (F (es ++ ((e - 1) ∷ [])))) where
  -- the next cell
  pub behind_step : (m : List ℕ) (r u : ℕ) → Behind F size from e m₀ m r → r < size → 0 < e → from ≡ e * size → from + size ≤ length m
      → u ≡ G (at m r) (at m (from - size + r)) → Behind F size from e m₀ (set m (from + r) u) (r + 1)
  behind_step m r u b h some place fits next =
      record {
        same = length-set m (from + r) u ∙ b.same;
        within = omega arith;
        filled =
            λ d ds t₀ few sized k.
            let before = b.filled d ds t₀ few sized k in
            rw (sym (add_assoc from r 1)) (filled_step _ t₀ m (from + r) u before (omega arith) (number d ds t₀ few sized before));
      }
    where
      number : (d : ℕ) (ds t₀ : List ℕ) → e ≤ d → size ≡ cells ds → Filled (cell_number_of F (ds ++ (d ∷ []))) t₀ m (from + r)
          → u ≡ cell_number_of F (ds ++ (d ∷ [])) (from + r)
      number d ds t₀ few sized f =
          let below : size ≤ from = omega (arith, place, mul-le-mul_right size some) in
          let inside : r < cells ds = rw sized at h in
          let start : 0 * cells ds + r ≡ r = omega arith in
          let after : suc (e - 1) ≡ e = omega (arith, some) in
          let last : (e - 1) * cells ds + r ≡ from - size + r = ap (◌+ r) (omega (arith, place ∙ ap₂ ◌*◌ (sym after) sized, sized)) in
          let here : e * cells ds + r ≡ from + r = ap (◌+ r) (sym (place ∙ ap (e *◌) sized)) in
          let cell = cell_number_of F (ds ++ (d ∷ [])) in
          next
          ∙ ap₂ G
          (f.below r (omega arith) ∙ ap cell (sym start) ∙ at_exponent F ds d 0 r (omega arith) inside ∙ zeroth (digits ds r))
          (f.below (from - size + r) (omega (arith, below)) ∙ ap cell (sym last) ∙ at_exponent F ds d (e - 1) r (omega arith) inside)
          ∙ sym (more (digits ds r)) ∙ sym (at_exponent F ds d e r few inside) ∙ ap cell here

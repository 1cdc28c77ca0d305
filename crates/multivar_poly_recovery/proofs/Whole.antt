-- The whole box: no variable is behind those of the box, so that all bits are left and the inverse so far is 1.
use Rattle.std.proofs.Common.{◌≡◌, ℕ, ◌%◌, ◌^◌, Bool, true, List, [], length, ap, append-nil, arith}
use Rattle.meaning.specs.Tables.{tabulate, at}
use Rattle.meaning.specs.Boxes.{cells, digits}
use Rattle.meaning.specs.Values.{weight}
use Rattle.meaning.specs.Recovery.{every, divides, coefficient}
use Rattle.multivar_poly_recovery.specs.Tested.{Tested, tested_cong, tested_every, tested_tabulate}
use Rattle.multivar_poly_recovery.specs.Extracted.{Extracted, Promise}
use Rattle.multivar_poly_recovery.proofs.RowUnits.{no_unit}

-- what the walk promises then
pub promise_whole : (w : ℕ) (ds t₀ t : List ℕ) (r : Bool) → Promise w 1 w ds t₀ t r → Extracted w ds [] t₀ t r
unfolding weight
promise_whole w ds t₀ t r h = h [] (omega arith) no_unit

module _ (w : ℕ) (ds t₀ t : List ℕ) (r : Bool) (h : Extracted w ds [] t₀ t r) where
  whole : Tested (λ n. divides w (digits ds n) (at t₀ n % 2 ^ w)) (λ n. coefficient w (digits ds n) (at t₀ n % 2 ^ w)) (cells ds) t r
  whole =
      tested_cong (λ n l. ap (λ (es : List ℕ). divides w es (at t₀ n % 2 ^ w)) (append-nil (digits ds n)))
      (λ n l. ap (λ (es : List ℕ). coefficient w es (at t₀ n % 2 ^ w)) (append-nil (digits ds n))) h

  pub whole_says : r ≡ every (cells ds) (λ n. divides w (digits ds n) (at t₀ n % 2 ^ w))
  whole_says = tested_every whole

  pub whole_leaves : length t ≡ cells ds → r ≡ true → t ≡ tabulate (cells ds) (λ n. coefficient w (digits ds n) (at t₀ n % 2 ^ w))
  whole_leaves e z = tested_tabulate whole e (rw z tt)

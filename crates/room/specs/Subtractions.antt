-- How many subtractions recovery makes: a cell takes part in as many passes along a variable as its coordinate says, so that twice their number is the sum
-- over the variables of the cells times the own degree.
use Rattle.std.specs.Prelude.{◌≡◌, refl, List, [], ◌∷◌, ℕ, zero, suc, ◌*◌, ◌/◌, ◌≤◌, leb, length, replicate}
use Rattle.std.proofs.Common.{sym, ap, ◌∙◌, le_of_suc-le-suc, zero-lt-suc, le_trans, le_of_eq, arith, le-leb}
use Rattle.std.proofs.lemmas.Bool.{lt-leb}
use Rattle.std.proofs.Math.Dec.{leb-suc-suc}
use Rattle.std.proofs.lemmas.List.{length-replicate, get_or-replicate}
use Rattle.meaning.specs.Tables.{at}
use Rattle.meaning.specs.Sums.{sum}
use Rattle.meaning.specs.Boxes.{cells, box_sum}
use Rattle.meaning.specs.Calls.{truth}
use Rattle.meaning.specs.Counts.{pass_subtractions, variable_subtractions, subtractions}
use Rattle.theory.specs.Sums.{sum_last, sum_eq, sum-zero, sum-mul-left}
use Rattle.theory.specs.Boxes.{within-at, box_sum-eq, box_sum-eq-sum, sum-box_sum}

-- of the passes 1 to d, a coordinate e is reached by e
passes-reached : (d e : ℕ) → e ≤ d → sum d (λ p. truth (leb (suc p) e)) ≡ e
unfolding sum
passes-reached zero e h = omega arith
passes-reached (suc d) zero h = sum-zero (suc d) (λ p l. ap truth (lt-leb (suc p) 0 (zero-lt-suc p)))
passes-reached (suc d) (suc e) h =
    let first : truth (leb 1 (suc e)) ≡ 1 = ap truth (le-leb 1 (suc e) (omega arith)) in
    let rest : sum d (λ p. truth (leb (suc (suc p)) (suc e))) ≡ e =
    sum_eq d (λ p l. ap truth (leb-suc-suc (suc p) e)) ∙ passes-reached d e (le_of_suc-le-suc h) in
    omega (arith, first, rest)

-- those along a variable are the sum of its coordinates
variable_coordinates : (ds : List ℕ) (i : ℕ) → variable_subtractions ds i ≡ box_sum ds (λ es. at es i)
unfolding variable_subtractions pass_subtractions
variable_coordinates ds i =
    sum_eq (at ds i) (λ p l. sym (box_sum-eq-sum ds (λ es. truth (leb (suc p) (at es i)))))
    ∙ sum-box_sum (at ds i) ds (λ p es. truth (leb (suc p) (at es i)))
    ∙ box_sum-eq ds (λ es w. passes-reached (at ds i) (at es i) (within-at w i))

-- one number, over a range and over a box
sum_constant : (n c : ℕ) → sum n (λ i. c) ≡ n * c
unfolding sum
sum_constant zero c = omega arith
sum_constant (suc n) c = omega (arith, sum_constant n c)

box_sum_constant : (ds : List ℕ) (c : ℕ) → box_sum ds (λ es. c) ≡ cells ds * c
unfolding box_sum cells
box_sum_constant [] c = omega arith
box_sum_constant (d ∷ ds) c = sum_eq (suc d) (λ e l. box_sum_constant ds c) ∙ sum_constant (suc d) (cells ds * c) ∙ omega arith

-- twice 0 + 1 + .. + d
twice_range : (d : ℕ) → 2 * sum (suc d) (λ e. e) ≡ suc d * d
unfolding sum
twice_range zero = refl
twice_range (suc d) = omega (arith, sum_last (suc d) (λ e. e), twice_range d)

twice_coordinates : (ds : List ℕ) (i : ℕ) → 2 * box_sum ds (λ es. at es i) ≡ cells ds * at ds i
unfolding box_sum cells
twice_coordinates [] i = refl
twice_coordinates (d ∷ ds) zero =
    let lines : sum (suc d) (λ e. box_sum ds (λ es. e)) ≡ cells ds * sum (suc d) (λ e. e) =
    sum_eq (suc d) (λ e l. box_sum_constant ds e) ∙ sum-mul-left (suc d) (cells ds) (λ e. e) in
    omega (arith, lines, ap (cells ds *◌) (twice_range d))
twice_coordinates (d ∷ ds) (suc i) =
    omega (arith, sum_constant (suc d) (box_sum ds (λ es. at es i)), ap (suc d *◌) (twice_coordinates ds i))

-- twice the subtractions along a variable are the cells times its degree
pub twice_variable : (ds : List ℕ) (i : ℕ) → 2 * variable_subtractions ds i ≡ cells ds * at ds i
twice_variable ds i = ap (2 *◌) (variable_coordinates ds i) ∙ twice_coordinates ds i

pub variable_half : (ds : List ℕ) (i : ℕ) → variable_subtractions ds i ≡ cells ds * at ds i / 2
variable_half ds i = omega (arith, twice_variable ds i)

-- twice all of them: the sum over the variables of the cells times the own degree
pub twice_subtractions : (ds : List ℕ) → 2 * subtractions ds ≡ sum (length ds) (λ i. cells ds * at ds i)
unfolding subtractions
twice_subtractions ds =
    sym (sum-mul-left (length ds) 2 (variable_subtractions ds)) ∙ sum_eq (length ds) (λ i l. twice_variable ds i)

-- for one degree: the variables times the cells times the degree
pub twice_cube : (k d : ℕ) → 2 * subtractions (replicate k d) ≡ k * cells (replicate k d) * d
twice_cube k d =
    twice_subtractions (replicate k d)
    ∙ sum_eq (length (replicate k d)) (λ i l. ap (cells (replicate k d) *◌) (get_or-replicate k i d 0 (le_trans l (le_of_eq (length-replicate k d)))))
    ∙ ap (λ (n : ℕ). sum n (λ i. cells (replicate k d) * d)) (length-replicate k d)
    ∙ sum_constant k (cells (replicate k d) * d)
    ∙ omega arith

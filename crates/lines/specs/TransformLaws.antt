-- Laws of the transforms: modulo 2^64, cut to a width, each is that modulo 2^width.
use Rattle.std.specs.Prelude.{◌≡◌, ℕ, ◌+◌, ◌-◌, ◌*◌, ◌%◌, ◌^◌, ◌≤◌, List, length}
use Rattle.std.proofs.Common.{ap, ◌∙◌, mod-lt, arith, pow_pos, pow-add}
use Rattle.meaning.specs.Tables.{tabulate, at}
use Rattle.meaning.specs.Boxes.{cells, cell, digits, along}
use Rattle.meaning.specs.Differences.{newton, differences, grid}
use Rattle.meaning.specs.Stirling.{falling_line, power_line}
use Rattle.meaning.specs.Conversions.{falling_box, power_box}
use Rattle.theory.specs.AlongEach.{Line}
use Rattle.theory.specs.Congruence.{cong_sym, cong_trans, mod-cong, eq_of_cong}
use Rattle.theory.specs.Tables.{length-tabulate, at-tabulate, tabulate_cong}
use Rattle.theory.specs.Boxes.{digits-within}
use Rattle.theory.specs.Values.{entry}
use Rattle.theory.specs.Evaluation.{differences_cong, differences_of_mul}
use Rattle.theory.specs.DifferenceBounds.{differences-lt}
use Rattle.theory.specs.ConversionLaws.{falling_box_of_mul, power_box_of_mul}
use Rattle.lines.specs.Transforms.{transformed, box_of, OfMul}

-- modulo a multiple of n and then reduced modulo n: differences
pub newton_of_mul : OfMul newton
unfolding differences grid
newton_of_mul n k p q ds t =
    tabulate_cong (cells ds) _ _ λ i h.
    let within = digits-within ds i in
    eq_of_cong (mod-lt _ p) (differences-lt p (grid n ds t) within (λ xs. mod-lt (at t (cell ds xs)) p))
    (cong_trans (mod-cong n _)
    (cong_trans (differences_of_mul n k (entry ds t) p q within)
    (differences_cong p (λ xs u. cong_sym (mod-cong n (entry ds t xs))) within)))

-- both conversions
pub falling_of_mul : OfMul falling_line
unfolding falling_box
falling_of_mul n k p q ds t = falling_box_of_mul n k p ds t

pub power_of_mul : OfMul power_line
unfolding power_box
power_of_mul n k p q ds t = power_box_of_mul n k p ds t q

-- a table transformed modulo 2^64, and then each number modulo 2^w
pub cut-transformed : (line : ℕ → Line) → OfMul line → (w : ℕ) (ds t : List ℕ) → w ≤ 64 → length t ≡ cells ds →
    tabulate (length (transformed line (2 ^ 64) ds t)) (λ i. at (transformed line (2 ^ 64) ds t) i % 2 ^ w) ≡ box_of line (2 ^ w) ds t
cut-transformed line of_mul w ds t h whole =
    let all = transformed line (2 ^ 64) ds t in
    let e : 64 ≡ w + (64 - w) = omega arith in
    let word : 2 ^ 64 ≡ 2 ^ w * 2 ^ (64 - w) = ap (2 ^◌) e ∙ pow-add 2 w (64 - w) in
    ap (λ (n : ℕ). tabulate n (λ i. at all i % 2 ^ w)) (length-tabulate (length t) _)
    ∙ tabulate_cong (length t) _ _ (λ i p. ap (◌% 2 ^ w) (at-tabulate (length t) _ i p))
    ∙ ap (λ (n : ℕ). tabulate n (λ i. along (line (2 ^ 64)) ds (entry ds t) (digits ds i) % 2 ^ w)) whole
    ∙ ap (λ (m : ℕ). tabulate (cells ds) (λ i. along (line m) ds (entry ds t) (digits ds i) % 2 ^ w)) word
    ∙ of_mul (2 ^ w) (2 ^ (64 - w)) (pow_pos w) (pow_pos (64 - w)) ds t

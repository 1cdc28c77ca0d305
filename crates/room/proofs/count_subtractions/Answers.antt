-- Half of the cells times the degree, for each variable: the library's sum over the degrees is the sum over the variables.
use Rattle.std.proofs.Common.{◌≡◌, refl, sym, ap, ◌∙◌, List, [], ◌∷◌, ℕ, ◌+◌, ◌*◌, ◌/◌, length, rules}
use Rattle.std.specs.List.{sum_by}
use Rattle.std.proofs.lemmas.List.Sums.{sum_by-cons}
use Rattle.meaning.specs.Tables.{at}
use Rattle.meaning.specs.Sums.{sum}
use Rattle.meaning.specs.Counts.{subtractions}
use Rattle.theory.specs.Sums.{sum_eq}
use Rattle.room.specs.Subtractions.{variable_half}
use Rattle.room.proofs.count_subtractions.Goals as goal

sum-entries : (f : ℕ → ℕ) (xs : List ℕ) → sum (length xs) (λ i. f (at xs i)) ≡ sum_by f xs
unfolding sum
sum-entries f [] = refl
sum-entries f (x ∷ xs) = ap (f x +◌) (sum-entries f xs) ∙ sym (sum_by-cons f x xs)

pub returns : goal.returns
unfolding subtractions
returns c =
    let ds = c.args.degrees.now in
    let half = λ (d : ℕ). c.args.count * d / 2 in
    let summed : c.sum.result ≡ sum_by half ds = search rules in
    summed ∙ sym (sum-entries half ds)
    ∙ sum_eq (length ds) (λ i l. ap (λ (n : ℕ). n * at ds i / 2) c.requires.0 ∙ sym (variable_half ds i))

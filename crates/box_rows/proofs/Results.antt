-- What a walk over a whole box leaves in the written table, where no cell fails: the sum, or the reduction.
use Rattle.std.proofs.Common.{◌≡◌, ℕ, zero, suc, ◌+◌, ◌%◌, Bool, true, List, length, refl, ap, ◌∙◌, arith}
use Rattle.meaning.specs.Tables.{at, tabulate}
use Rattle.meaning.specs.Boxes.{cells, digits}
use Rattle.meaning.specs.Values.{bound, box_total, box_reduced}
use Rattle.meaning.specs.Recovery.{every}
use Rattle.theory.specs.Tables.{eq-tabulate}
use Rattle.box_rows.specs.Jobs.{Walked}

every_true : (n : ℕ) → every n (λ i. true) ≡ true
unfolding every
every_true zero = refl
every_true (suc n) = every_true n

module _ (w : ℕ) (ds t₀ : List ℕ) {t es : List ℕ} {from n bits : ℕ} {all : Bool} where
  filled : {left : ℕ → ℕ → ℕ → ℕ} → es ≡ ds → from ≡ 0 → n ≡ length t₀ → bits ≡ w → n ≡ cells es → length t ≡ length t₀
      → Walked left (λ m i. true) (λ i. bound bits (digits es i)) from n t₀ t all
      → t ≡ tabulate (cells ds) (λ i. left (bound w (digits ds i)) i (at t₀ i))
  filled {left} d f c b whole same r =
      let long : length t ≡ cells ds = omega (arith, whole, ap cells d) in
      eq-tabulate t (cells ds) _ long
      (λ i h.
      let here : from + i ≡ i = omega arith in
      rw here at (r.inside (r.tests ∙ every_true n) i (omega (arith, whole, ap cells d)))
      ∙ ap (λ (k : ℕ). left k i (at t₀ i)) (rw (d, b) refl))

  pub total_of : (a b : List ℕ) → es ≡ ds → from ≡ 0 → n ≡ length t₀ → bits ≡ w → n ≡ cells es → length t ≡ length t₀
      → Walked (λ m i x. (at a i + at b i) % m) (λ m i. true) (λ i. bound bits (digits es i)) from n t₀ t all
      → t ≡ box_total (bound w) ds a b
  unfolding box_total
  total_of a b d f c k whole same r = filled d f c k whole same r

  pub reduced_of : es ≡ ds → from ≡ 0 → n ≡ length t₀ → bits ≡ w → n ≡ cells es → length t ≡ length t₀
      → Walked (λ m i x. x % m) (λ m i. true) (λ i. bound bits (digits es i)) from n t₀ t all
      → t ≡ box_reduced (bound w) ds t₀
  unfolding box_reduced
  reduced_of d f c k whole same r = filled d f c k whole same r

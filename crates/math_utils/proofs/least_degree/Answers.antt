-- The search is over the degrees below 66, which has twos enough for every width to 64; so the degree that it finds, or 66, is the least.
use Rattle.std.proofs.Common.{◌≡◌, ℕ, ◌≤◌, ◌<◌, Option, None, Some, unwrap_or, MatchOption, zero-le, le_antisymm, ◌∙◌, rules, tests, arith}
use Rattle.std.proofs.Math.Decide.{dec_le}
use Rattle.std.proofs.lemmas.Iterator.{first_from_Range}
use Rattle.meaning.specs.Factorials.{factorial, twos, degree_cap_of}
use Rattle.theory.specs.DegreeCap.{degree_cap_of_least, degree_cap_of-le}
use Rattle.math_utils.proofs.least_degree.Goals as goal

-- where every lower degree has too few twos, the cap is no lower
not_below : (w d : ℕ) → ((k : ℕ) → 0 ≤ k → k < d → twos (factorial k) < w) → d ≤ degree_cap_of w
not_below w d few = go (dec_le d (degree_cap_of w))
  where
    go : Dec (d ≤ degree_cap_of w) → d ≤ degree_cap_of w
    go (yes p) = p
    go (no p) = absurd (omega (arith, few (degree_cap_of w) zero-le (omega arith), (degree_cap_of_least w).enough))

-- where it has enough, the cap is no higher
not_above : (w d : ℕ) → w ≤ twos (factorial d) → degree_cap_of w ≤ d
not_above w d enough = go (dec_le (degree_cap_of w) d)
  where
    go : Dec (degree_cap_of w ≤ d) → degree_cap_of w ≤ d
    go (yes p) = p
    go (no p) = absurd (omega (arith, (degree_cap_of_least w).first d (omega arith)))

found : (w : ℕ) → w ≤ 64 → (r : Option ℕ)
    → MatchOption r ((k : ℕ) → 0 ≤ k → k < 66 → twos (factorial k) < w)
    (λ i. (0 ≤ i) × (i < 66) × (w ≤ twos (factorial i)) × ((k : ℕ) → 0 ≤ k → k < i → twos (factorial k) < w))
    → unwrap_or r 66 ≡ degree_cap_of w
found w small None h = le_antisymm (not_below w 66 h) (degree_cap_of-le w small)
found w small (Some i) h = le_antisymm (not_below w i h.3) (not_above w i h.2)

pub returns : goal.returns
returns c =
    let w = c.args.bitwidth in
    c.unwrap_or.ensures
    ∙ found w c.requires _
    (first_from_Range _ _ _ _ (λ i. w ≤ twos (factorial i)) (λ i. twos (factorial i) < w) c.find.ensures.ran
    (λ x q k. search (rules, tests)) (λ x q k. search (rules, tests)))

-- What the falling product says, and what it promises of its factors.
use Rattle.std.specs.Prelude.{◌≡◌, ℕ, ◌+◌, ◌%◌, ◌^◌, ◌<◌, ◌≤◌, ◌⊎◌, Result, Ok, Err}
use Rattle.meaning.specs.Factorials.{falling, degree_cap_of}
use Rattle.meaning.specs.Leaves.{FallingReply, falling_told}
use Rattle.answers.specs.declared.Refusal.{Refusal}
use Rattle.answers.specs.Said.{code}
use Rattle.math_utils.specs.declared.falling.FallingProduct.{FallingProduct}

-- the number, the product and the factors of an answer; both are 0 beside a refusal
abbrev pub falling_said : Result FallingProduct Refusal → FallingReply
falling_said (Ok p) = falling_told 0 p.value p.factors
falling_said (Err r) = falling_told (code r) 0 0

-- x (x - 1) .. (x - n + 1) modulo 2^w, and how many of its factors were taken
pub record Stops (w x n : ℕ) (r : FallingReply) : Type 0 where
  -- widths 2 to 64 are taken, all others refused with 11
  pub accepts : 2 ≤ w → w ≤ 64 → r.number ≡ 0
  pub refuses : (w < 2) ⊎ (64 < w) → r ≡ falling_told 11 0 0
  -- the product is that of all n factors
  pub whole : r.number ≡ 0 → r.product ≡ falling x n % 2 ^ w
  -- all are taken, or as many as have a product of zero
  pub stops : r.number ≡ 0 → (r.factors ≡ n) ⊎ (falling x r.factors % 2 ^ w ≡ 0)
  -- no fewer have one
  pub least : r.number ≡ 0 → (k : ℕ) → k < r.factors → 0 < falling x k % 2 ^ w
  -- they are n at most, x + 1 at most, and no more than the least degree whose factorial has w twos
  pub few : (r.factors ≤ n) × (r.factors ≤ x + 1) × (r.factors ≤ degree_cap_of w)

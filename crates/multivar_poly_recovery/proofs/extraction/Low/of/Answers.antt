-- A mask and 1 is a power of two, or 0 where all 64 bits are ones (`trailing_mask`).
use Rattle.std.proofs.Common.{◌≡◌, ℕ, ◌+◌, ◌-◌, ◌%◌, ◌^◌, ◌≤◌, ap, ◌∙◌, sym}
use Rattle.std.specs.Int.Count.{count_trailing_zeros}
use Rattle.multivar_poly_recovery.proofs.Cells.{trailing_mask}
use Rattle.multivar_poly_recovery.proofs.extraction.Low.of.Goals as goal

-- the zeros that end a mask and 1
zeros_after : (ones b : ℕ) → b ≤ 64 → ones ≡ 2 ^ b - 1 → count_trailing_zeros 64 ((ones + 1) % 2 ^ 64) ≡ b
zeros_after ones b h e = ap (λ (m : ℕ). count_trailing_zeros 64 ((m + 1) % 2 ^ 64)) e ∙ trailing_mask b h

pub invariant_of-result : goal.invariant_of-result
invariant_of-result c =
    let m = c.requires in
    record { mask = m.ones ∙ ap (λ (k : ℕ). 2 ^ k - 1) (sym (zeros_after c.args.ones m.bits m.few m.ones)) }

pub returns : goal.returns
returns c = zeros_after c.args.ones

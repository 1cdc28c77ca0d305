-- Values moved up, differences modulo 2^64, moved down, and extraction are recovery's steps: `recovered_of_steps` gives verdict and table.
use Rattle.std.proofs.Common.{◌≡◌, ℕ, ◌-◌, ◌*◌, ◌%◌, ◌^◌, Bool, cond, length, sym, refl, ap, ◌∙◌}
use Rattle.meaning.specs.Tables.{tabulate, at}
use Rattle.multivar_poly_recovery.proofs.WordDifferences.{recovered_of_steps}
use Rattle.multivar_poly_recovery.proofs.grid.recover_from_grid.Goals as goal

pub returns : goal.returns
returns c =
    let k = c.args in
    let e : length k.out.now ≡ length k.values.now = c.requires.1 ∙ sym c.requires.0 in
    let raised = c.raise.ensures ∙ ap (λ (n : ℕ). tabulate n (λ i. (at k.values.now i * 2 ^ (64 - k.bitwidth)) % 2 ^ 64)) e in
    let steps = recovered_of_steps k.bitwidth k.degrees.now k.values.now c.requires.3 c.requires.0 _ _ _ _ _ raised
    c.transform_all.ensures c.lower.ensures refl c.extract.ensures.leaves in
    record { says = c.extract.ensures.says ∙ ap (λ (b : Bool). cond b 0 6) steps.0; leaves = steps.1 }

-- A mask shifted right (`mask-less`).
use Rattle.std.proofs.Common.{ℕ, ◌-◌, ◌/◌, ◌^◌, ap, ◌∙◌, sym}
use Rattle.meaning.specs.Factorials.{twos}
use Rattle.box_rows.specs.Rows.{mask-less}
use Rattle.multivar_poly_recovery.proofs.extraction.Low.without.Goals as goal

pub invariant_of-result : goal.invariant_of-result
invariant_of-result c =
    let low = c.args.self in
    let t = twos c.args.n in
    record { mask = c.next_mask.ensures ∙ ap (◌/ 2 ^ t) low.mask ∙ mask-less low.bits t ∙ sym (ap (λ (k : ℕ). 2 ^ k - 1) c.bits_left.ensures) }

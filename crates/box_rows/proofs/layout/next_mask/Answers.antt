-- 0 has no twos, and a mask over 1 is the mask.
use Rattle.std.proofs.Common.{ℕ, ◌/◌, ◌^◌, sym, ap, ◌∙◌, div-one}
use Rattle.meaning.specs.Factorials.{twos}
use Rattle.box_rows.proofs.RowLayouts.{no_twos}
use Rattle.box_rows.proofs.layout.next_mask.Goals as goal

pub returns-then-n-eq0 : goal.returns-then-n-eq0
returns-then-n-eq0 c = let m = c.args.mask in sym (ap (λ (k : ℕ). m / 2 ^ k) (ap twos c.if-n-eq0.true ∙ no_twos) ∙ div-one m)

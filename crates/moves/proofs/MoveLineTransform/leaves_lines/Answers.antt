use Rattle.std.proofs.Common.{ℕ, ◌^◌, ap, ◌∙◌, eqb-true}
use Rattle.theory.specs.MovedLines.{moved_line, moved_line-zero}
use Rattle.moves.proofs.MoveLineTransform.leaves_lines.Goals as goal

pub returns : goal.returns
returns c = λ none f j h.
    ap (λ (a : ℕ). moved_line (2 ^ 64) a c.args._degree f j) (eqb-true _ _ none) ∙ moved_line-zero (2 ^ 64) c.args._degree f j h

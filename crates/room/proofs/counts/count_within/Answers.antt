-- The place of the largest sum is the last.
use Rattle.std.proofs.Common.{◌∙◌, ap, List, length, length-take, ℕ, arith}
use Rattle.std.proofs.lemmas.List.{length-replicate}
use Rattle.meaning.specs.Tables.{at}
use Rattle.meaning.specs.Fit.{columns}
use Rattle.theory.specs.Tables.{at-tabulate}
use Rattle.room.proofs.counts.count_within.Goals as goal

pub returns : goal.returns
returns g c =
    ap (λ (t : List ℕ). at t c.args.most) c.count_lists.ensures
    ∙ at-tabulate _ (λ s. length (columns c.args.degrees.now s)) c.args.most (omega (arith, length-take {A = ℕ}, length-replicate {A = ℕ}))

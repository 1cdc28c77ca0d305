-- Moved by no bits the table is as it was. The loop: the numbers before the index are moved, the others as they were.
use Rattle.std.proofs.Common.{ℕ, ◌/◌, ◌^◌, sym, refl, ap, ◌∙◌, div-one, arith}
use Rattle.meaning.specs.Tables.{at}
use Rattle.theory.specs.Tables.{filled_done, eq-tabulate}
use Rattle.multivar_poly_recovery.proofs.shifts.lower.Goals as goal

pub returns-then-by-eq0 : goal.returns-then-by-eq0
returns-then-by-eq0 c = let t = c.args.table.now in eq-tabulate t _ _ refl (λ i p. sym (ap (λ (k : ℕ). at t i / 2 ^ k) c.if-by-eq0.true ∙ div-one _))

pub returns : goal.returns
returns c = filled_done _ _ c.loop-x.table c.loop-x.x-index c.loop-x.invariant (omega (arith, c.loop-x-test.false, c.loop-x.invariant.same))

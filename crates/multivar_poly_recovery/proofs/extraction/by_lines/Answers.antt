-- No variable is behind the whole box (`promise_whole`); one variable is a line, and a row of no variables has one cell.
use Rattle.std.proofs.Common.{◌≡◌, length, ap, ◌∙◌, arith}
use Rattle.theory.specs.Tables.{length-tabulate}
use Rattle.box_rows.specs.Rows.{Rowed, rowed_alone}
use Rattle.multivar_poly_recovery.proofs.Servings.{single, single_cells, alone_inverts, inverses_of}
use Rattle.multivar_poly_recovery.proofs.SubBoxes.{promise_split}
use Rattle.multivar_poly_recovery.proofs.Whole.{promise_whole}
use Rattle.multivar_poly_recovery.proofs.extraction.by_lines.Goals as goal
use Rattle.multivar_poly_recovery.proofs.extraction.by_lines.Goals.{After-first_inverses-inverses}

sixteen : (c : After-first_inverses-inverses) → length c.first_inverses-inverses.result ≡ 16
sixteen c = ap length c.first_inverses-inverses.ensures ∙ length-tabulate 16 _

pub invariant_of-line : goal.invariant_of-line
invariant_of-line c = record { serve = inverses_of 16 c.first_inverses-inverses.result c.first_inverses-inverses.ensures }

pub line-requires : goal.line-requires
line-requires c =
    let one = c.if-degrees-eq1.true in
    let long = sixteen (goal.at.line-requires c).After-first_inverses-inverses in
    omega (arith, c.requires.0, single_cells c.args.degrees.now one, c.requires.2 0 (omega (arith, one)), long)

pub returns-then-degrees-eq1 : goal.returns-then-degrees-eq1
returns-then-degrees-eq1 c =
    let ds = c.args.degrees.now in
    let one = c.if-degrees-eq1.true in
    let s = c.whole.ensures in
    promise_whole _ ds c.args.table.now _ _
    (promise_split _ _ _ ds _ c.args.table.now _ _ (single ds one) (rw (s.0, s.1, s.2) at (c.line.ensures _ (c.requires.0 ∙ single_cells ds one))))

pub invariant_of-tables : goal.invariant_of-tables
invariant_of-tables c =
    let alone : Rowed 0 c.args.degrees.now _ = rowed_alone c.args.degrees.now in
    record {
      serve = inverses_of 16 c.first_inverses-inverses.result c.first_inverses-inverses.ensures;
      masked = alone.room;
      laid = alone.laid;
      room = alone.room;
      inverts = alone_inverts;
    }

pub returns : goal.returns
returns c =
    let s = c.whole-2.ensures in
    promise_whole _ _ c.args.table.now _ _ (rw (s.0, s.1, s.2) at c.boxes.ensures)

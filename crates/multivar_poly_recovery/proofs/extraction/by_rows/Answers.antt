-- The masks and the inverses that are laid out are those of the box's rows; no variable is behind the whole box (`promise_whole`).
use Rattle.std.proofs.Common.{◌≡◌, ◌≤◌, length, take, replicate, sym, refl, ap, ◌∙◌, arith, length-take-le}
use Rattle.meaning.specs.Boxes.{cells}
use Rattle.theory.specs.Tables.{length-tabulate}
use Rattle.box_rows.specs.Rows.{Rowed, row_variables, rows_laid, rows_counted}
use Rattle.multivar_poly_recovery.specs.Extracted.{Reaching}
use Rattle.multivar_poly_recovery.proofs.Servings.{inverses_of, row_inverted}
use Rattle.multivar_poly_recovery.proofs.Whole.{promise_whole}
use Rattle.multivar_poly_recovery.proofs.extraction.by_rows.Goals as goal
use Rattle.multivar_poly_recovery.proofs.extraction.by_rows.Goals.{After-unwrap-first}

-- the rows, and how many cells a row has
rows : (c : After-unwrap-first) → Rowed c.unwrap-first.result c.args.degrees.now c.lay_out.new.masks
rows c = rows_laid _ (replicate 256 0) _ _ refl (sym c.unwrap-first.ensures ∙ c.lay_out.ensures.variables) c.lay_out.ensures.masks

counted : (c : After-unwrap-first) → c.unwrap-first.result ≡ row_variables 1 c.args.degrees.now
counted c = rows_counted _ (replicate 256 0) _ refl (sym c.unwrap-first.ensures ∙ c.lay_out.ensures.variables)

small : (c : After-unwrap-first) → cells (take c.unwrap-first.result c.args.degrees.now) ≤ 256
small c = omega (arith, (rows c).room, c.lay_out.auto.masks)

-- no degree is above 255
bytes : (c : After-unwrap-first) → Reaching c.args.degrees.now (length c.odd_factorial_inverses-inverses.result)
bytes c =
    let long : length c.odd_factorial_inverses-inverses.result ≡ 256 = ap length c.odd_factorial_inverses-inverses.ensures.table ∙ length-tabulate 256 _ in
    rw long (λ i h. omega (arith, c.type_inv.degrees i))

pub slice_bounds-row-end : goal.slice_bounds-row-end
slice_bounds-row-end c = sym (length-take-le _ _ (rows (goal.at.slice_bounds-row-end c).After-unwrap-first).within)

pub invariant_of-lay_out_numbers : goal.invariant_of-lay_out_numbers
invariant_of-lay_out_numbers c = record { serve = inverses_of 256 c.odd_factorial_inverses-inverses.result c.odd_factorial_inverses-inverses.ensures.table }

pub invariant_of-tables : goal.invariant_of-tables
invariant_of-tables c =
    let k = (goal.at.invariant_of-tables c).After-unwrap-first in
    let serve = inverses_of 256 c.odd_factorial_inverses-inverses.result c.odd_factorial_inverses-inverses.ensures.table in
    record {
      serve = serve;
      masked = (rows k).room;
      laid = (rows k).laid;
      room = omega (arith, small k, c.lay_out_numbers.auto.table);
      inverts = row_inverted _ serve _ (replicate 256 0) _ _ (counted k) (bytes k) refl c.lay_out_numbers.ensures.numbers;
    }

pub returns : goal.returns
returns c =
    let s = c.whole.ensures in
    promise_whole _ _ c.args.table.now _ _ (rw (s.0, s.1, s.2) at c.boxes.ensures)

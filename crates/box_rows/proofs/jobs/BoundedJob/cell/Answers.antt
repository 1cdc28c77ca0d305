use Rattle.box_rows.proofs.AtCells.{bounded_done}
use Rattle.box_rows.proofs.jobs.BoundedJob.cell.Goals as goal

pub returns : goal.returns
returns c k small ones = bounded_done k c.args.mask c.args.i small ones c.args.self.now.coeffs.now c.args.table.now

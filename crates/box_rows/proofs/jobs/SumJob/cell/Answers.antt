use Rattle.box_rows.proofs.AtCells.{sum_done}
use Rattle.box_rows.proofs.jobs.SumJob.cell.Goals as goal

pub returns : goal.returns
returns c k small ones = let job = c.args.self.now in sum_done k c.args.mask c.args.i small ones job.a.now job.b.now c.args.table.now c.requires.2

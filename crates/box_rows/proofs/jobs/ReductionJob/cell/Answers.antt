use Rattle.box_rows.proofs.AtCells.{reduction_done}
use Rattle.box_rows.proofs.jobs.ReductionJob.cell.Goals as goal

pub returns : goal.returns
returns c k small ones = reduction_done k c.args.mask c.args.i small ones c.args.table.now c.requires

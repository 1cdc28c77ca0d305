use Rattle.box_rows.proofs.AtCells.{agreement_done}
use Rattle.box_rows.proofs.jobs.AgreementJob.cell.Goals as goal

pub returns : goal.returns
returns c k small ones = let job = c.args.self.now in agreement_done k c.args.mask c.args.i small ones job.a.now job.b.now c.args.table.now

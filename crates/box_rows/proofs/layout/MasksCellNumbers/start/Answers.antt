use Rattle.box_rows.proofs.RowLayouts.{no_mask}
use Rattle.box_rows.proofs.layout.MasksCellNumbers.start.Goals as goal

pub returns : goal.returns
returns c = no_mask

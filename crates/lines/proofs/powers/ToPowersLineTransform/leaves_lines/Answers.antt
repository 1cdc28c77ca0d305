use Rattle.std.proofs.Common.{le_of_suc-le-suc}
use Rattle.std.proofs.lemmas.Bool.{ltb-true}
use Rattle.lines.specs.LowDegrees.{power_low}
use Rattle.lines.proofs.powers.ToPowersLineTransform.leaves_lines.Goals as goal

pub returns : goal.returns
returns c = λ low. power_low c.args.degree (le_of_suc-le-suc (ltb-true _ _ low))

-- A table of one line is that line, else the lines go together.
use Rattle.std.proofs.Common.{◌≡◌, suc, length, ◌∙◌, add-one}
use Rattle.moves.specs.NodeLines.{each_single}
use Rattle.moves.proofs.first.LinesPairs.two.Goals as goal

pub returns-then-part-self : goal.returns-then-part-self
returns-then-part-self c =
    let alone : length c.args.part.now ≡ suc c.args.self.degree = c.if-part-self.true ∙ add-one _ in
    each_single alone (c.move_line_pair.auto.part ∙ alone) c.move_line_pair.ensures

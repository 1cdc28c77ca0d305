use Rattle.std.proofs.Common.{ap, ◌∙◌, ◌^◌, ◌==◌, length, cond, rules}
use Rattle.meaning.specs.Boxes.{cells}
use Rattle.lines.specs.FlatLoops.{walk_same}
use Rattle.lines.proofs.transform_all.Goals as goal

pub returns : goal.returns
returns g c =
    let k = c.args in
    c.walk.ensures (λ i. k.transform) (λ i t p. search rules)
    ∙ ap (λ u. cond (length k.table.now == cells k.degrees.now) u k.table.now)
    (walk_same (g.T.FourTransform.line k.transform (2 ^ 64)) k.degrees.now k.table.now)

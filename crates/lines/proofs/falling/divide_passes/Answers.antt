-- The loop: the passes before `pass` are made over the block as it came, pass 0 being none (`passed-one`). After pass degree - 1 the lines are those of
-- falling factorials (`shows_falling`).
use Rattle.std.proofs.Common.{add-one, arith}
use Rattle.meaning.specs.Tables.{at}
use Rattle.lines.specs.DivisionPasses.{eq-tabulate_of_shows}
use Rattle.lines.specs.NodeConversions.{passed-one, shows_falling}
use Rattle.lines.proofs.falling.divide_passes.Goals as goal

pub loop-pass-init : goal.loop-pass-init
loop-pass-init c = passed-one _ c.args.block.some c.requires (λ i p. omega (arith, c.slice_known-1.given i))

pub loop-pass-preserved : goal.loop-pass-preserved
loop-pass-preserved c =
    let r = c.loop-pass.invariant in
    let pass = c.divide.ensures (at c.args.part.now) in
    rw (add-one c.loop-pass.pass) ((rw r.shows.same at pass) r)

pub returns : goal.returns
returns c = eq-tabulate_of_shows (shows_falling c.args.block.some c.requires (omega arith) c.loop-pass.invariant)

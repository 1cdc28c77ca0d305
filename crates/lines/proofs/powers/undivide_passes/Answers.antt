-- The loop: the passes down to `pass` are made over the block as it came. With at most pass 0 left, which is none, the lines are those of powers
-- (`shows_powers`).
use Rattle.std.proofs.Common.{◌≡◌, suc, ◌-◌, arith, pow_pos}
use Rattle.meaning.specs.Tables.{at}
use Rattle.lines.specs.DivisionPasses.{eq-tabulate_of_shows}
use Rattle.lines.specs.NodeOrders.{opened_of_table}
use Rattle.lines.specs.NodeConversions.{shows_powers}
use Rattle.lines.proofs.powers.undivide_passes.Goals as goal

pub loop-pass-init : goal.loop-pass-init
loop-pass-init c = opened_of_table _ _ _ c.args.block.some c.requires (λ i p. omega (arith, c.slice_known-1.given i))

pub loop-pass-preserved : goal.loop-pass-preserved
loop-pass-preserved c =
    let r = c.loop-pass.invariant in
    let pass = c.undivide.ensures (at c.args.part.now) in
    let before : c.loop-pass.pass ≡ suc (c.loop-pass.pass - 1) = omega arith in
    (rw r.shows.same at pass) (rw before at r)

pub returns : goal.returns
returns c = eq-tabulate_of_shows (shows_powers c.args.block.some c.requires (pow_pos 64) (omega arith) c.loop-pass.invariant)

-- The loop: the passes from degree - 1 down to `done` are made over the line as it came.
use Rattle.std.proofs.Common.{◌≡◌, suc, ◌-◌, ◌∙◌, zero-lt-suc, arith, pow_pos}
use Rattle.theory.specs.MovedLines.{node_line-moved}
use Rattle.lines.specs.NodeOrders.{opened_of_table}
use Rattle.moves.proofs.MovePasses.{opened-lined}
use Rattle.moves.proofs.FirstLines.{unit}
use Rattle.moves.proofs.first.move_long.Goals as goal

pub loop-done-init : goal.loop-done-init
loop-done-init c = rw (← c.requires) (opened_of_table _ _ _ (zero-lt-suc 0) (c.requires ∙ unit _) (λ i p. omega (arith, c.slice_known-1.given i)))

pub loop-done-preserved : goal.loop-done-preserved
loop-done-preserved c =
    let e : c.loop-done.done ≡ suc (c.loop-done.done - 1) = omega arith in
    c.move_line.ensures _ (rw e at c.loop-done.invariant)

pub returns : goal.returns
returns c =
    let a = c.args.lines in
    let e : c.loop-done.done ≡ 0 = omega arith in
    rw c.requires
    (opened-lined (zero-lt-suc 0) (unit _) _ (λ k j h. node_line-moved (pow_pos 64) a.offset a.degree k j h) (rw e at c.loop-done.invariant))

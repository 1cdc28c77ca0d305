-- The loop: the passes before `pass` are made over the line as it came, pass 0 being none (`passed-one`). After pass degree - 1 the line is that of
-- falling factorials (`shows_falling`).
use Rattle.std.proofs.Common.{◌≡◌, suc, ◌+◌, ◌∙◌, arith}
use Rattle.meaning.specs.Tables.{at}
use Rattle.lines.specs.DivisionPasses.{eq-tabulate_of_shows}
use Rattle.lines.specs.NodeConversions.{passed-one, shows_falling}
use Rattle.lines.proofs.falling.divide_line.Goals as goal

pub loop-pass-init : goal.loop-pass-init
loop-pass-init c = (c.requires, passed-one _ (omega arith) (omega (arith, c.requires)) (λ i p. omega (arith, c.slice_known-1.given i)))

pub loop-pass-preserved : goal.loop-pass-preserved
loop-pass-preserved c =
    let r = c.loop-pass.invariant.1 in
    let passes = c.divide_twice.ensures _ (at c.args.part.now) c.loop-pass.invariant.0 in
    let two : c.loop-pass.pass + 2 ≡ suc (suc c.loop-pass.pass) = omega arith in
    (c.divide_twice.auto.part ∙ c.loop-pass.invariant.0, rw two ((rw r.shows.same at passes) r))

pub returns : goal.returns
returns c = eq-tabulate_of_shows (shows_falling (omega arith) (omega (arith, c.requires)) (omega arith) c.loop-pass.invariant.1)

pub returns-2 : goal.returns-2
returns-2 c =
    let r = c.loop-pass.invariant.1 in
    let passes = c.divide_twice.ensures _ (at c.args.part.now) c.loop-pass.invariant.0 in
    eq-tabulate_of_shows (shows_falling (omega arith) (omega (arith, c.requires)) (omega arith) ((rw r.shows.same at passes) r))

-- Another length is left as it was. Each turn puts one column before those that are written (`columns-step`), and at 0 the bytes are the whole text.
use Rattle.std.proofs.Common.{◌-◌, ◌∙◌, arith, eq-eqb, length-set}
use Rattle.bench_file.specs.NumberLaws.{columns-step, number-start, number-end}
use Rattle.bench_file.proofs.number.write_number.Goals as goal

pub loop-i-init : goal.loop-i-init
loop-i-init c = (simp length-set c.if-out-ne21.false, number-start c.args.value c.args.out.now c.if-out-ne21.false)

pub loop-i-preserved : goal.loop-i-preserved
loop-i-preserved c =
    let k = c.loop-i in
    (simp length-set k.invariant.0, rw c.shown_digit.ensures (columns-step k.i (k.i - 1) k.rest k.out (omega arith) (omega arith) ∙ k.invariant.1))

pub returns : goal.returns
returns c =
    let whole = number-end c.loop-i.i c.args.value c.loop-i.rest c.loop-i.out c.loop-i-test.false c.loop-i.invariant.1 in
    simp (eq-eqb _ 21 c.if-out-ne21.false) whole

-- A turn writes the remainder and goes on with the quotient (`digits_turn`).
use Rattle.std.proofs.Common.{◌≡◌, ◌+◌, ◌-◌, ◌%◌, arith}
use Rattle.bench_file.specs.NumberLaws.{length-number}
use Rattle.bench_file.specs.PrintLaws.{digits_turn, digits_none, writes_none, writes_then, writes_same, writes_length}
use Rattle.bench_file.proofs.answer.Printer.exponents.Goals as goal

pub loop-preserved : goal.loop-preserved
loop-preserved c =
    let k = c.loop in
    let base : c.from-base.result + 1 ≡ c.args.cube.degree + 1 = omega arith in
    let kept = writes_length k.self c.number.new.self _ c.number.ensures in (
      omega (arith, kept, c.number.ensures.size, length-number (k.rest % (c.from-base.result + 1))),
      λ p w. k.invariant.1 p (
          writes_same k.self p _ _ (digits_turn c.args.cube.degree _ (c.args.cube.variables - k.counter) _ k.rest base (omega arith))
          (writes_then k.self c.number.new.self p _ _ c.number.ensures w)
          ),
    )

pub returns : goal.returns
returns c =
    let k = c.loop in
    k.invariant.1 k.self
    (writes_same k.self k.self _ _ (digits_none c.args.cube.degree (c.args.cube.variables - k.counter) k.rest (omega arith)) (writes_none k.self))

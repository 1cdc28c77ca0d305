-- A coefficient 0 has no line. The line of any other has exponents, coefficient and line end (`term_line`), 21 * variables + 22 bytes.
use Rattle.std.proofs.Common.{replicate, arith}
use Rattle.bench_file.specs.NumberLaws.{length-number}
use Rattle.bench_file.specs.PrintLaws.{length-exponents, writes_then, writes_same, writes_length}
use Rattle.bench_file.specs.AnswerLaws.{length-term-cube, term_line}
use Rattle.bench_file.proofs.answer.Printer.term.Goals as goal

pub exponents-requires : goal.exponents-requires
exponents-requires c =
    let k = c.args in
    omega (arith, length-term-cube k.cube.variables k.cube.degree k.cell k.coefficient c.if-coefficient-ne0.true)

pub number-requires : goal.number-requires
number-requires c =
    let k = c.args in
    let kept = writes_length _ _ _ c.exponents.ensures in
    omega (
      arith,
      kept,
      c.exponents.ensures.size,
      length-exponents k.cube.variables k.cube.degree k.cell,
      length-term-cube k.cube.variables k.cube.degree k.cell k.coefficient c.if-coefficient-ne0.true,
    )

pub line_end-requires : goal.line_end-requires
line_end-requires c =
    let k = c.args in
    let e = writes_length _ _ _ c.exponents.ensures in
    let n = writes_length _ _ _ c.number.ensures in
    omega (
      arith,
      e,
      n,
      c.exponents.ensures.size,
      c.number.ensures.size,
      length-number k.coefficient,
      length-exponents k.cube.variables k.cube.degree k.cell,
      length-term-cube k.cube.variables k.cube.degree k.cell k.coefficient c.if-coefficient-ne0.true,
    )

pub returns-then-coefficient-ne0 : goal.returns-then-coefficient-ne0
returns-then-coefficient-ne0 c =
    let k = c.args in
    writes_same _ _ _ _ (term_line (replicate k.cube.variables k.cube.degree) k.cell k.coefficient c.if-coefficient-ne0.true)
    (writes_then _ _ _ _ _ (writes_then _ _ _ _ _ c.exponents.ensures c.number.ensures) c.line_end.ensures)

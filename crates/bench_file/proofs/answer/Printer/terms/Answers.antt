-- A turn writes the next cell's line, and what is left begins with the cell after it (`terms_next`).
use Rattle.std.proofs.Common.{sym, arith, replicate}
use Rattle.bench_file.specs.PrintLaws.{terms_next, terms_end, terms_next_length, writes_none, writes_then, writes_same, writes_length}
use Rattle.bench_file.proofs.answer.Printer.terms.Goals as goal

pub term-requires : goal.term-requires
term-requires c =
    let k = c.args in
    omega (arith, terms_next_length (replicate k.cube.variables k.cube.degree) k.coefficients.now c.loop-cell.cell c.loop-cell-test.true)

pub loop-cell-preserved : goal.loop-cell-preserved
loop-cell-preserved c =
    let k = c.args in
    let l = c.loop-cell in
    let kept = writes_length l.self c.term.new.self _ c.term.ensures in
    let next = terms_next (replicate k.cube.variables k.cube.degree) k.coefficients.now l.cell c.loop-cell-test.true in (
      omega (arith, kept, c.term.ensures.size, terms_next_length (replicate k.cube.variables k.cube.degree) k.coefficients.now l.cell c.loop-cell-test.true),
      λ p w. l.invariant.1 p (writes_same l.self p _ _ (sym next) (writes_then l.self c.term.new.self p _ _ c.term.ensures w)),
    )

pub returns : goal.returns
returns c =
    let k = c.args in
    let l = c.loop-cell in
    let none = terms_end (replicate k.cube.variables k.cube.degree) k.coefficients.now l.cell c.loop-cell-test.false in
    l.invariant.1 l.self (writes_same l.self l.self _ _ (sym none) (writes_none l.self))

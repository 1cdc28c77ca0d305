-- The text has 43 bytes and 21 * variables + 22 for each term, so that the two tests of the length say exactly whether it fits.
-- Where it does, 0, the count, a line end and the terms, written in turn, are the text (`accepted_lines`).
use Rattle.std.proofs.Common.{◌≡◌, ◌+◌, ◌*◌, ◌-◌, ◌/◌, ◌≤◌, ◌<◌, List, ℕ, [], length, replicate, sym, arith, rules, refl}
use Rattle.bench_file.specs.Layout.{accepted_text, non_zeros}
use Rattle.bench_file.specs.NumberLaws.{length-number}
use Rattle.bench_file.specs.PrintLaws.{writes_then, writes_same, writes_length}
use Rattle.bench_file.specs.AnswerLaws.{printed_none, printed_no_size, accepted-short, accepted_no_room, accepted_room, accepted_terms, accepted_lines}
use Rattle.bench_file.specs.AnswerLaws.{writes-size, writes-whole}
use Rattle.bench_file.proofs.answer.write_accepted.Goals as goal

-- the text that is asked for does not fit by one of the tests, or fits
module _ (variables degree : ℕ) (coefficients out : List ℕ) where
  abbrev text : List ℕ
  text = accepted_text (replicate variables degree) coefficients

  short : length out < 43 → length out < length text
  short h = accepted-short variables degree coefficients (length out) h

  module _ (count bytes : ℕ) (e : count ≡ non_zeros coefficients) (v : bytes ≡ variables) (h : 43 ≤ length out) where
    no_room : (length out - 43) / (bytes * 21 + 22) < count → length out < length text
    no_room k = accepted_no_room variables degree coefficients (length out) h (rw (e, v) at k)

    fits : count ≤ (length out - 43) / (bytes * 21 + 22) → length text ≤ length out
    fits k = accepted_room variables degree coefficients (length out) h (rw (e, v) at k)

pub returns-then-out-lt43 : goal.returns-then-out-lt43
returns-then-out-lt43 c =
    let k = c.args in
    let none = short k.cube.variables k.cube.degree k.coefficients.now k.out.now c.if-out-lt43.true in
    record { says = sym (printed_no_size _ k.out.now none); leaves = sym (printed_none _ k.out.now none) }

pub returns-then-out-line : goal.returns-then-out-line
returns-then-out-line c =
    let k = c.args in
    let none =
    no_room k.cube.variables k.cube.degree k.coefficients.now k.out.now _ _ c.count_terms-terms.ensures c.from.ensures c.if-out-lt43.false
    c.if-out-line.true in
    record { says = sym (printed_no_size _ k.out.now none); leaves = sym (printed_none _ k.out.now none) }

pub number-requires-2 : goal.number-requires-2
number-requires-2 c = omega (arith, writes_length _ _ _ c.number.ensures, c.number.ensures.size, length-number 0)

pub line_end-requires : goal.line_end-requires
line_end-requires c =
    let both = writes_then _ _ _ _ _ c.number.ensures c.number-2.ensures in
    omega (
      arith,
      writes_length _ _ _ both,
      c.number.ensures.size,
      c.number-2.ensures.size,
      length-number 0,
      length-number c.count_terms-terms.result,
    )

pub terms-requires : goal.terms-requires
terms-requires c =
    let k = c.args in
    let line = writes_then _ _ _ _ _ (writes_then _ _ _ _ _ c.number.ensures c.number-2.ensures) c.line_end.ensures in
    omega (
      arith,
      writes_length _ _ _ line,
      c.number.ensures.size,
      c.number-2.ensures.size,
      c.line_end.ensures.size,
      length-number 0,
      length-number c.count_terms-terms.result,
      accepted_terms (replicate k.cube.variables k.cube.degree) k.coefficients.now,
      fits k.cube.variables k.cube.degree k.coefficients.now k.out.now _ _ c.count_terms-terms.ensures c.from.ensures c.if-out-lt43.false
          c.if-out-line.false,
    )

pub returns : goal.returns
returns c =
    let k = c.args in
    let room =
    fits k.cube.variables k.cube.degree k.coefficients.now k.out.now _ _ c.count_terms-terms.ensures c.from.ensures c.if-out-lt43.false
    c.if-out-line.false in
    let line = writes_then _ _ _ _ _ (writes_then _ _ _ _ _ c.number.ensures c.number-2.ensures) c.line_end.ensures in
    let all =
    writes_same _ _ _ (text k.cube.variables k.cube.degree k.coefficients.now k.out.now)
    (rw c.count_terms-terms.ensures (accepted_lines (replicate k.cube.variables k.cube.degree) k.coefficients.now))
    (writes_then _ _ _ _ _ line c.terms.ensures) in
    record { says = writes-size _ _ _ k.out.now [] all refl room; leaves = writes-whole _ _ _ k.out.now _ all refl refl (search rules) room }

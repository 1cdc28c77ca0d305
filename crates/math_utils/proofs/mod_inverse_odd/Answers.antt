-- Three refusals in the order of the tests: an even x, no bits, more than 64. Past them the low bits of the inverse modulo 2^64 are the inverse
-- modulo 2^bits (`inverse_masked`).
use Rattle.std.proofs.Common.{◌≡◌, ◌%◌, ap, ◌∙◌, ap₂, arith, eq-eqb}
use Rattle.std.specs.Prelude.{bit_and}
use Rattle.meaning.specs.Replies.{accepted}
use Rattle.theory.specs.Inverses.{inverse_masked}
use Rattle.theory.specs.Ranges.{between-true}
use Rattle.math_utils.proofs.mod_inverse_odd.Goals as goal

pub returns : goal.returns
returns c =
    let k = c.args in
    let odd : k.x % 2 ≡ 1 = omega arith in
    simp (eq-eqb (k.x % 2) 1 odd, between-true 1 64 k.bits (omega arith) c.if-bits-gt64.false)
    (ap accepted (ap₂ bit_and c.inverse_word.ensures c.bitmask.ensures ∙ inverse_masked k.x k.bits odd c.if-bits-gt64.false))

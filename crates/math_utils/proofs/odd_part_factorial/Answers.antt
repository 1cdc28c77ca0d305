-- Three refusals in the order of the tests: k above 255, width 0, a width above 64. Past them the table's entry is the odd part modulo 2^64,
-- and the mask leaves it modulo 2^bitwidth (`masked_to`).
use Rattle.std.proofs.Common.{ℕ, ◌%◌, ◌^◌, List, ap, ◌∙◌, ap₂, arith, le-leb}
use Rattle.std.specs.Prelude.{bit_and}
use Rattle.meaning.specs.Tables.{at}
use Rattle.meaning.specs.Factorials.{factorial, odd_part}
use Rattle.meaning.specs.Replies.{accepted}
use Rattle.theory.specs.Tables.{at-tabulate}
use Rattle.theory.specs.Words.{masked_to}
use Rattle.theory.specs.Ranges.{between-true}
use Rattle.math_utils.proofs.odd_part_factorial.Goals as goal

pub returns : goal.returns
returns c =
    let k = c.args in
    let entry : ℕ → ℕ = λ i. odd_part (factorial i) % 2 ^ 64 in
    simp (le-leb k.k 255 c.if-k-gt255.false, between-true 1 64 k.bitwidth (omega arith) c.if-bitwidth-gt64.false)
    (ap accepted
    (ap₂ bit_and (ap (λ (t : List ℕ). at t k.k) c.odd_factorials-table.ensures.table ∙ at-tabulate 256 entry k.k (omega arith)) c.bitmask.ensures
    ∙ masked_to (odd_part (factorial k.k)) k.bitwidth c.if-bitwidth-gt64.false))

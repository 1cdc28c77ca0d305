-- The loop fills the key with the first exponents, from zero.
use Rattle.std.proofs.Common.{cond, ltb, replicate}
use Rattle.meaning.specs.Tables.{at}
use Rattle.theory.specs.Tables.{Filled}
use Rattle.mono.proofs.MonomialKey.from_exponents.Given as goal

abbrev pub invariant-loop-i : goal.invariant-loop-i
invariant-loop-i l = Filled (λ k. cond (ltb k l.count) (at l.exps k) 0) (replicate 20 0) l.exponent-items l.i

-- The loop fills the key with the first exponents, from zero.
use Rattle.std.proofs.Common.{ℕ, List, Bool, ◌+◌, ◌≤◌, ◌∙◌, sym, ap, subst, cond, ltb, length, le-leb, replicate, arith}
use Rattle.std.proofs.lemmas.Bool.{lt-ltb, le-ltb}
use Rattle.meaning.specs.Tables.{at}
use Rattle.meaning.specs.Leaves.{key_of}
use Rattle.theory.specs.Tables.{Filled, filled_start, filled_step, filled_done, at-zeros}
use Rattle.mono.proofs.MonomialKey.from_exponents.Goals as goal
use Rattle.mono.proofs.MonomialKey.from_exponents.Goals.{then-i-count, else-i-count}

pub loop-i-init : goal.loop-i-init
loop-i-init c = filled_start _ (replicate 20 0)

pub loop-i-preserved : goal.loop-i-preserved
loop-i-preserved c =
    let l = c.loop-i in
    let n = c.from-count.result in
    let exps = c.args.exps.now in
    let f : ℕ → ℕ = λ k. cond (ltb k n) (at exps k) 0 in
    let entry : (b : Bool) → ℕ = λ b. cond b (at exps l.i) 0 in
    elim c.if-i-count.branch [
      | then-i-count w ↦
          subst (λ (t : List ℕ). Filled f (replicate 20 0) t (l.i + 1)) (sym w.exponent-items-is)
          (filled_step f (replicate 20 0) l.exponent-items l.i _ l.invariant (omega arith) (sym (ap entry (lt-ltb l.i n w.if-i-count.true))))
      | else-i-count w ↦
          subst (λ (t : List ℕ). Filled f (replicate 20 0) t (l.i + 1)) (sym w.exponent-items-is)
          (filled_step f (replicate 20 0) l.exponent-items l.i _ l.invariant (omega arith)
          (l.invariant.above l.i (omega arith) ∙ at-zeros 20 l.i ∙ sym (ap entry (le-ltb l.i n w.if-i-count.false))))
    ]

pub returns-clause-gives : goal.returns-clause-gives
returns-clause-gives c =
    let n = c.args.num_vars in
    let exps = c.args.exps.now in
    let few : n ≤ 20 = omega (arith, c.from-count.ensures, c.if-count-gt-MAX_POLY_VARS.false) in
    let fits : n ≤ length exps = omega (arith, c.from-count.ensures, c.if-exps-count.false) in
    simp (le-leb n 20 few, le-leb n (length exps) fits)
    (filled_done _ (replicate 20 0) c.loop-i.exponent-items c.loop-i.i c.loop-i.invariant (omega arith) ∙ ap (λ (m : ℕ). key_of m exps) c.from-count.ensures)

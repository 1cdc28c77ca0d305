-- The entries before place i are those that are looked up.
use Rattle.std.proofs.Common.{◌≡◌, ◌<◌, ◌≤◌, ℕ, List, length, take, sym, ◌∙◌, arith, length-take-le, get_or-take, length-set}
use Rattle.std.proofs.Math.ListN.{length-map}
use Rattle.std.proofs.lemmas.List.{map-set, take-map}
use Rattle.meaning.specs.Tables.{tabulate}
use Rattle.theory.specs.Tables.{Filled, filled_step, eq-tabulate}
use Rattle.sameness.specs.Partners.{limits_of, steps_of}
use Rattle.sameness.proofs.checked.Checked.find_partners.Goals as goal

-- the front of a table that is filled so far
front : (f : ℕ → ℕ) (t₀ t : List ℕ) (n i : ℕ) → Filled f t₀ t i → n ≤ i → n ≤ length t → take n t ≡ tabulate n f
front f t₀ t n i r h k =
    eq-tabulate (take n t) n f (length-take-le n t k) (λ j p. get_or-take n t j 0 p ∙ r.below j (omega arith))

pub loop-i-preserved : goal.loop-i-preserved
loop-i-preserved c =
    let l = c.loop-i in
    let few = c.args.self.now.boxed.few in
    let inside : l.i < length (limits_of l.partners) = omega (arith, length-map l.partners (λ p. p.limit), l.invariant.2, few) in
    let inside' : l.i < length (steps_of l.partners) = omega (arith, length-map l.partners (λ p. p.step), l.invariant.2, few) in (
      rw map-set (filled_step _ _ (limits_of l.partners) l.i _ l.invariant.0 inside c.partner_of.ensures.limits),
      rw map-set (filled_step _ _ (steps_of l.partners) l.i _ l.invariant.1 inside' c.partner_of.ensures.steps),
      length-set l.partners l.i _ ∙ l.invariant.2,
    )

pub returns-clause-limits : goal.returns-clause-limits
returns-clause-limits c =
    let l = c.loop-i in
    let few = c.args.self.now.boxed.few in
    sym (take-map (λ p. p.limit) _ l.partners)
    ∙ front _ _ (limits_of l.partners) _ l.i l.invariant.0 c.loop-i-test.false (omega (arith, length-map l.partners (λ p. p.limit), l.invariant.2, few))

pub returns-clause-steps : goal.returns-clause-steps
returns-clause-steps c =
    let l = c.loop-i in
    let few = c.args.self.now.boxed.few in
    sym (take-map (λ p. p.step) _ l.partners)
    ∙ front _ _ (steps_of l.partners) _ l.i l.invariant.1 c.loop-i-test.false (omega (arith, length-map l.partners (λ p. p.step), l.invariant.2, few))

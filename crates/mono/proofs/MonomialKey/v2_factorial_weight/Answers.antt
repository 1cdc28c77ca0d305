-- The chain gives the twos in the factorials of the first exponents, at most 255 each, so that the sum of twenty fits.
use Rattle.std.proofs.Common.{◌≡◌, ℕ, length, arith, Fits, w8, rules, tests, ◌∙◌}
use Rattle.std.proofs.lemmas.Iterator.{YieldsList-from_slice, YieldsList-from_map}
use Rattle.std.proofs.lemmas.Iterator.Consumers.{sum_by_from_yields_List, fits_by_from_yields_list}
use Rattle.meaning.specs.Tables.{at}
use Rattle.meaning.specs.Factorials.{factorial, twos}
use Rattle.theory.specs.Twos.{legendre}
use Rattle.mono.proofs.Taken.{sum-fits, sum_said}
use Rattle.mono.proofs.MonomialKey.v2_factorial_weight.Goals as goal

abbrev weight : ℕ → ℕ
weight x = twos (factorial x)

pub sum-requires-clause-fits : goal.sum-requires-clause-fits
sum-requires-clause-fits c =
    let key = c.args.self.exponents in
    let first = c.in_ok-first.first.now in
    let whole : length key ≡ 20 = search rules in
    let small = sum-fits _ first key c.in_ok-first.ensures.first whole weight
    (λ i. let byte : Fits w8 (at key i) = search rules in omega (arith, legendre (at key i))) in
    fits_by_from_yields_list weight first c.map-twos.result _
    (YieldsList-from_map _ weight (YieldsList-from_slice first cc) c.map-twos.ensures.closure (λ x r q k. search (rules, tests)))
    small

pub returns : goal.returns
returns c =
    let first = c.in_ok-first.first.now in
    let whole : length c.args.self.exponents ≡ 20 = search rules in
    sum_said _ first c.args.self.exponents c.in_ok-first.ensures.first whole weight
    (c.from.ensures
    ∙ sum_by_from_yields_List weight first c.map-twos.result _ c.sum.ensures.ran
    (YieldsList-from_map _ weight (YieldsList-from_slice first cc) c.map-twos.ensures.closure (λ x r q k. search (rules, tests))))

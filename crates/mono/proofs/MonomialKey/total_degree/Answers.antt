-- The chain gives the first exponents; they are at most 255 each, so that the sum of twenty fits.
use Rattle.std.proofs.Common.{◌≡◌, length, arith, Fits, w8, rules, tests}
use Rattle.std.proofs.lemmas.Iterator.{YieldsList-from_slice, YieldsList-from_map}
use Rattle.std.proofs.lemmas.Iterator.Consumers.{sum_by_from_yields_List, fits_by_from_yields_list}
use Rattle.meaning.specs.Tables.{at}
use Rattle.mono.proofs.Taken.{sum-fits, sum_said}
use Rattle.mono.proofs.MonomialKey.total_degree.Goals as goal

pub sum-requires-clause-fits : goal.sum-requires-clause-fits
sum-requires-clause-fits c =
    let key = c.args.self.exponents in
    let first = c.in_ok-first.first.now in
    let whole : length key ≡ 20 = search rules in
    let small = sum-fits _ first key c.in_ok-first.ensures.first whole (λ x. x) (λ i. let byte : Fits w8 (at key i) = search rules in omega arith) in
    fits_by_from_yields_list (λ x. x) first c.map.result _
    (YieldsList-from_map _ (λ x. x) (YieldsList-from_slice first cc) c.map.ensures.closure (λ x r q k. search (rules, tests)))
    (omega (arith, small))

pub returns : goal.returns
returns c =
    let first = c.in_ok-first.first.now in
    let whole : length c.args.self.exponents ≡ 20 = search rules in
    sum_said _ first c.args.self.exponents c.in_ok-first.ensures.first whole (λ x. x)
    (sum_by_from_yields_List (λ x. x) first c.map.result _ c.sum.ensures.ran
    (YieldsList-from_map _ (λ x. x) (YieldsList-from_slice first cc) c.map.ensures.closure (λ x r q k. search (rules, tests))))

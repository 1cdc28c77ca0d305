-- The library's sum: the twos of one factorial after the other, of which a byte's has at most 255.
use Rattle.std.proofs.Common.{◌≡◌, ◌^◌, ◌∙◌, sym, rules, arith}
use Rattle.std.specs.List.{sum_by}
use Rattle.std.proofs.lemmas.Iterator.{YieldsList-from_slice, YieldsList-from_map}
use Rattle.std.proofs.lemmas.Iterator.Consumers.{fits_by_from_yields_list, YieldsList-at}
use Rattle.meaning.specs.Factorials.{factorial, twos}
use Rattle.weighted_poly_fit.proofs.ExponentLists.{weight-sum, twos_few}
use Rattle.weighted_poly_fit.proofs.answer.factorial_twos.Goals as goal

pub sum-requires-clause-fits : goal.sum-requires-clause-fits
sum-requires-clause-fits c =
    let es = c.args.exps.now in
    fits_by_from_yields_list (λ e. twos (factorial e)) es c.map.result (2 ^ 32)
    (YieldsList-from_map _ (λ e. twos (factorial e)) (YieldsList-at c.map.ensures.source (YieldsList-from_slice es cc)) c.map.ensures.closure
    (λ x r q k. search rules))
    (omega (arith, twos_few es (λ i. omega (arith, c.type_inv.exps i)), c.requires))

pub returns : goal.returns
returns c =
    let es = c.args.exps.now in
    let summed : c.sum.result ≡ sum_by (λ e. twos (factorial e)) es = search rules in
    summed ∙ sym (weight-sum es)

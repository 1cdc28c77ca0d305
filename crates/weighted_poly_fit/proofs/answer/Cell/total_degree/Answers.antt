-- The library's sum.
use Rattle.std.proofs.Common.{◌≡◌, ◌∙◌, sym, rules}
use Rattle.std.specs.List.{sum_by}
use Rattle.weighted_poly_fit.proofs.ExponentLists.{total-sum}
use Rattle.weighted_poly_fit.proofs.answer.Cell.total_degree.Goals as goal

pub returns : goal.returns
returns c =
    let es = c.args.self.now.exps.now in
    let summed : c.sum.result ≡ sum_by (λ e. e) es = search rules in
    summed ∙ sym (total-sum es)

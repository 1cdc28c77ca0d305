-- The chain gives the count by a test, which is that of the non-zero entries.
use Rattle.std.proofs.Common.{rules, sym, ◌∙◌, ◌≡◌, not, eqb, count_by}
use Rattle.std.proofs.iter.runs.Made.{chains}
use Rattle.bench_file.specs.PrintLaws.{non_zeros_count}
use Rattle.bench_file.proofs.answer.count_terms.Goals as goal

pub returns : goal.returns
returns c =
    let e : c.count.result ≡ count_by (λ x. not (eqb x 0)) c.args.coefficients.now = search (rules, chains) in
    e ∙ sym (non_zeros_count c.args.coefficients.now)

-- The chain gives the first exponents; the fold is the largest of 0 and them.
use Rattle.std.proofs.Common.{◌≡◌, max, length, ◌∙◌, rules, tests}
use Rattle.std.proofs.lemmas.Iterator.{YieldsList-from_slice}
use Rattle.std.proofs.lemmas.Iterator.Consumers.{fold_from_yields_List}
use Rattle.mono.proofs.Taken.{largest_said}
use Rattle.mono.proofs.MonomialKey.max_degree.Goals as goal

pub returns : goal.returns
returns c =
    let first = c.in_ok-first.first.now in
    let whole : length c.args.self.exponents ≡ 20 = search rules in
    largest_said _ first c.args.self.exponents c.in_ok-first.ensures.first whole
    (c.from.ensures ∙ fold_from_yields_List _ max 0 _ c.fold-largest.ensures.ran (YieldsList-from_slice first cc) (λ a x b q k. search (rules, tests)))

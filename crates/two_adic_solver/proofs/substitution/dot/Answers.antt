-- The chain folds the pairs, and the fold is the sum (`products`).
use Rattle.std.proofs.Common.{◌∙◌, rules}
use Rattle.std.proofs.lemmas.Iterator.{YieldsList-from_slice, YieldsList-from_zip}
use Rattle.std.proofs.lemmas.Iterator.Consumers.{fold_from_yields_List}
use Rattle.two_adic_solver.proofs.TestLaws.{product_more, products}
use Rattle.two_adic_solver.proofs.substitution.dot.Goals as goal

pub returns : goal.returns
returns c =
    let a = c.args in
    let folded = fold_from_yields_List _ product_more 0 c.fold.result c.fold.ensures.ran
    (YieldsList-from_zip {s = c.zip.result} (YieldsList-from_slice a.row.now cc) (YieldsList-from_slice a.x.now cc)) (λ t q r f k. search rules) in
    folded ∙ products a.row.now a.x.now c.requires

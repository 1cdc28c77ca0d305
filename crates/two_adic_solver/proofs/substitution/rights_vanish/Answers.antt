-- The chain's test of the pairs is the test of every place.
use Rattle.std.proofs.Common.{ℕ, Bool, ◌||◌, nat_eq, ◌∙◌, rules, tests}
use Rattle.std.proofs.lemmas.Iterator.{YieldsList-from_slice, YieldsList-from_zip}
use Rattle.std.proofs.lemmas.Iterator.Search.{all_from_yields_List}
use Rattle.two_adic_solver.proofs.TestLaws.{every_zip}
use Rattle.two_adic_solver.proofs.substitution.rights_vanish.Goals as goal

pub returns : goal.returns
returns c =
    let a = c.args in
    let tested = all_from_yields_List (λ (q : ℕ × Bool). q.1 || nat_eq q.0 0) c.all.new.self _ c.all.result c.all.ensures.ran
    (YieldsList-from_zip {s = c.zip.result} (YieldsList-from_slice a.right.now cc) (YieldsList-from_slice a.used.now cc)) (λ x b q k. search (rules, tests)) in
    tested ∙ every_zip _ a.right.now a.used.now c.requires

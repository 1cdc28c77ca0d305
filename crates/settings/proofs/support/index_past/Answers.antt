-- Whether some entry passes, by the library's word.
use Rattle.std.proofs.Common.{rules, tests, sym, ◌∙◌}
use Rattle.std.proofs.lemmas.Iterator.{YieldsList-from_slice}
use Rattle.std.proofs.lemmas.Iterator.Search.{any_from_yields_List}
use Rattle.std.specs.Prelude.{leb}
use Rattle.settings.specs.Indices.{some-any}
use Rattle.settings.proofs.support.index_past.Goals as goal

pub returns : goal.returns
returns c =
    let support = c.args.support.now in
    any_from_yields_List (leb c.args.total) _ _ _ c.any.ensures.ran (YieldsList-from_slice support cc) (λ x b q k. search (rules, tests))
    ∙ sym (some-any (leb c.args.total) support)

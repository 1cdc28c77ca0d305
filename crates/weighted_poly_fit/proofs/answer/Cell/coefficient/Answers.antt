-- The low bits are the remainder, and none are left where the twos are as many as the width.
use Rattle.weighted_poly_fit.proofs.ExponentLists.{reduced_none, reduced_some}
use Rattle.weighted_poly_fit.proofs.answer.Cell.coefficient.Goals as goal

pub returns-then-bitwidth-twos : goal.returns-then-bitwidth-twos
returns-then-bitwidth-twos c =
    let k = c.args in
    reduced_none k.value k.bitwidth k.self.now.exps.now _ c.factorial_twos-twos.ensures c.if-bitwidth-twos.true

pub returns : goal.returns
returns c =
    let k = c.args in
    reduced_some k.value k.bitwidth k.self.now.exps.now _ _ c.factorial_twos-twos.ensures
    c.requires c.bitmask.ensures

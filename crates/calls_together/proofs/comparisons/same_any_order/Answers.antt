-- Forms with the same coefficients in other boxes are the same, so that both comparisons are yes together.
use Rattle.calls_together.proofs.Compared.{each, orders_follow}
use Rattle.calls_together.proofs.comparisons.same_any_order.Goals as goal

pub returns : goal.returns
returns c =
    let k = c.args in
    orders_follow (each k.a.now) (each k.c.now) (each k.b.now) (each k.d.now) c.same-one.ensures.compares c.same-other.ensures.compares

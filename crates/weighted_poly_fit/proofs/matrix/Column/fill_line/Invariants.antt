-- The loop fills the entry of one coordinate after the other; where the product is zero the entry is zero as it was.
use Rattle.std.specs.Prelude.{◌≡◌, ◌*◌, ◌-◌, ◌%◌, ◌^◌, min}
use Rattle.meaning.specs.Tables.{at}
use Rattle.weighted_poly_fit.specs.Entries.{fallen, Columned}
use Rattle.weighted_poly_fit.proofs.matrix.Column.fill_line.Given as goal

abbrev pub invariant-loop-x : goal.invariant-loop-x
invariant-loop-x l =
    let k = l.self in
    Columned k.cols k.c (λ i. (at l.weights i * (l.value * fallen k.bitwidth i l.e)) % 2 ^ k.bitwidth) l.initial.matrix l.matrix l.x
    × (l.mask ≡ 2 ^ min k.bitwidth 64 - 1)

-- What is left of the entry without its twos is odd, and so has an inverse.
use Rattle.std.proofs.Common.{◌≡◌, ◌/◌, ◌%◌, ◌^◌, rules}
use Rattle.theory.specs.Trailing.{twos_of-left-odd}
use Rattle.two_adic_solver.proofs.pivot.Pivot.new.Goals as goal

pub unwrap-inverse-requires : goal.unwrap-inverse-requires
unwrap-inverse-requires c =
    let odd : (c.args.entry / 2 ^ c.twos-twos.result) % 2 ≡ 1 = rw c.twos-twos.ensures (twos_of-left-odd c.args.width.bits c.args.entry c.requires) in
    search rules

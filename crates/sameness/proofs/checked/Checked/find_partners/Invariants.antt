-- The entries before place i are those that are looked up.
use Rattle.std.proofs.Common.{◌≡◌, length}
use Rattle.meaning.specs.Tables.{at}
use Rattle.theory.specs.Tables.{Filled}
use Rattle.sameness.specs.Places.{strides, lookup}
use Rattle.sameness.specs.Partners.{limits_of, steps_of}
use Rattle.sameness.proofs.checked.Checked.find_partners.Given as goal

abbrev pub invariant-loop-i : goal.invariant-loop-i
invariant-loop-i l =
    let there = l.other in
    Filled (λ k. lookup (at l.self.support.now k) there.support.now there.degrees.now) (limits_of l.initial.partners) (limits_of l.partners) l.i
    × Filled (λ k. lookup (at l.self.support.now k) there.support.now (strides 1 there.degrees.now)) (steps_of l.initial.partners) (steps_of l.partners) l.i
    × (length l.partners ≡ 20)

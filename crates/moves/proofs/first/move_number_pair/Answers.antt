-- The loop: over the lines as their number `done` has been left, the numbers before `place` of each line have their two passes, the others not yet, for
-- whatever coefficients f; the factors are those of the next number. It ends at the last number, which has one number above it.
use Rattle.std.proofs.Common.{refl, ◌≡◌, ℕ, suc, ◌+◌, ◌*◌, ◌^◌, ◌<◌, List, zero-lt-suc, arith, pow_pos, ◌-◌}
use Rattle.theory.specs.MovedLines.{shift}
use Rattle.lines.specs.NodeOrders.{Opened}
use Rattle.moves.specs.NodePairs.{Pairing, pairs_first, pairs_start, pairs_step, pairs_next, pairs_last}
use Rattle.moves.specs.NodeLines.{EachLine, each_same, each_then}
use Rattle.moves.proofs.FirstLines.{unit}
use Rattle.moves.proofs.first.move_number_pair.Goals as goal

-- and to place j from where two passes more are left
abbrev Begun : (offset degree done j : ℕ) → List ℕ → List ℕ → Type 0
Begun offset degree done j u v =
    (f : ℕ → ℕ) → Opened (2 ^ 64) (shift (2 ^ 64) offset) 1 degree f (suc degree) (suc (suc done)) u
    → Pairing (2 ^ 64) (shift (2 ^ 64) offset) 1 degree f (suc degree) done j v

pub loop-place-init : goal.loop-place-init
loop-place-init c = (
  omega (arith, c.requires.0),
  pairs_start c.args.lines.offset (pow_pos 64) c.requires.0 (unit _) c.wrapping_sub-first.ensures
      refl refl c.wrapping_mul-far.ensures,
  each_same (λ u f r. r),
)

pub loop-place-preserved : goal.loop-place-preserved
loop-place-preserved c =
    let h : c.loop-place.place + 1 < 1 * c.args.lines.degree = omega (arith, c.loop-place-test.true) in (
      omega arith,
      pairs_step (pow_pos 64) c.loop-place.invariant.1 h refl refl,
      each_then c.loop-place.invariant.2 c.add_numbers-in-loop-place.ensures (λ x y z come added f r.
          pairs_next (pow_pos 64) c.loop-place.invariant.1 (zero-lt-suc 0) (unit _) h (come f r) added),
    )

pub returns : goal.returns
returns c =
    let a = c.args in
    let l = c.loop-place in
    let here : l.place ≡ a.lines.degree - 1 = omega (arith, l.invariant.0, c.loop-place-test.false) in
    let begun : EachLine a.lines.degree (Begun a.lines.offset a.lines.degree a.done l.place) a.part.now l.part =
    each_then c.add_numbers.ensures l.invariant.2 (λ x y z added come f r.
    come f
    (pairs_first a.lines.offset (pow_pos 64) (zero-lt-suc 0) (unit _) c.requires.0 (unit _) c.wrapping_sub-first.ensures
    c.wrapping_sub.ensures c.wrapping_mul.ensures r added)) in
    each_then begun c.add_next.ensures (λ x y z come added f r.
    pairs_last (pow_pos 64) (rw here at l.invariant.1) (zero-lt-suc 0) (unit _) (omega (arith, l.invariant.0)) (rw here at (come f r)) added)

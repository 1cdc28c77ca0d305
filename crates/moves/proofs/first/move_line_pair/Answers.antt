-- The loop: over the line as number `done` has been left, the numbers before i have their two passes, the others not yet, for whatever coefficients f; the
-- factors are those of the next number. The measure is the numbers left. It ends at the last number, which has one number above it.
use Rattle.std.proofs.Common.{refl, ◌≡◌, ℕ, ◌+◌, ◌*◌, ◌<◌, ◌∙◌, le_refl, zero-lt-suc, arith, pow_pos, ◌-◌, length}
use Rattle.moves.specs.NodeRows.{added_start, added_near}
use Rattle.moves.specs.NodePairs.{pairs_first, pairs_start, pairs_step, pairs_next, pairs_last}
use Rattle.lines.specs.DivisionPasses.{sum_with_product}
use Rattle.moves.proofs.FirstLines.{unit}
use Rattle.moves.proofs.first.move_line_pair.Goals as goal

pub loop-i-init : goal.loop-i-init
loop-i-init c = (
  c.add_number.ensures.same ∙ c.requires.1,
  omega (arith, c.requires.0),
  pairs_start c.args.lines.offset (pow_pos 64) c.requires.0 (unit _) c.wrapping_sub-first.ensures
      refl refl c.wrapping_mul-far.ensures,
  λ f r. r,
)

pub loop-i-preserved : goal.loop-i-preserved
loop-i-preserved c =
    let h : c.loop-i.i + 1 < 1 * c.args.lines.degree = omega (arith, c.requires.1, c.loop-i-test.true) in (
      c.add_number-in-loop-i.ensures.same ∙ c.loop-i.invariant.0,
      omega arith,
      pairs_step (pow_pos 64) c.loop-i.invariant.2 h refl refl,
      λ f r. pairs_next (pow_pos 64) c.loop-i.invariant.2 (zero-lt-suc 0) (unit _) h (c.loop-i.invariant.3 f r) c.add_number-in-loop-i.ensures,
    )

pub returns : goal.returns
returns c =
    let last : ℕ = length c.args.part.now - 2 in
    let here : c.loop-i.i ≡ last = omega (arith, c.requires.1, c.loop-i-test.false) in
    let added =
    added_near (added_start _ 1 last c.loop-i.near 0 c.loop-i.part) (le_refl _) (omega arith) _
    (sum_with_product _ c.loop-i.near _ _ c.wrapping_mul-2.ensures refl) in
    λ f r.
    pairs_last (pow_pos 64) (rw here at c.loop-i.invariant.2) (zero-lt-suc 0) (unit _) (omega (arith, c.requires.1))
    (rw here at (c.loop-i.invariant.3 f
    (pairs_first c.args.lines.offset (pow_pos 64) (zero-lt-suc 0) (unit _) c.requires.0 (unit _) c.wrapping_sub-first.ensures
    c.wrapping_sub.ensures c.wrapping_mul.ensures r c.add_number.ensures)))
    added

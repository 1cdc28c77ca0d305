-- The loop: over the block as row `done` has left it, the rows before `from` have their two passes, the others not yet, for whatever coefficients f; the
-- factors are those of the next row. The measure is the places left. It ends at the last row, which has one row above it.
use Rattle.std.proofs.Common.{◌≡◌, ℕ, suc, ◌+◌, ◌-◌, ◌*◌, ◌<◌, refl, ◌∙◌, arith, pow_pos}
use Rattle.moves.specs.NodePairs.{pairs_first, pairs_start, pairs_fits, pairs_fits_last, pairs_step, pairs_next, pairs_last}
use Rattle.moves.proofs.passes.RowsPairs.two.Goals as goal

-- a row that is not the last one
not-last : {n from : ℕ} (s d : ℕ) → n ≡ s * suc d → from < n - s - s → from + s < s * d
not-last s d whole h = omega arith

pub loop-from-init : goal.loop-from-init
loop-from-init c = (
  c.add_rows.ensures.same ∙ c.requires.1,
  pairs_start c.args.self.offset (pow_pos 64) c.requires.0 refl c.wrapping_sub-first.ensures
      refl refl c.wrapping_mul-far.ensures,
  λ f r. r,
)

pub add_rows-requires-in-loop-from : goal.add_rows-requires-in-loop-from
add_rows-requires-in-loop-from c =
    let b = c.args.self.block in
    pairs_fits (pow_pos 64) c.loop-from.invariant.1 c.loop-from.invariant.0 (not-last b.stride b.degree c.requires.1 c.loop-from-test.true)

pub loop-from-preserved : goal.loop-from-preserved
loop-from-preserved c =
    let b = c.args.self.block in
    let h = not-last b.stride b.degree c.requires.1 c.loop-from-test.true in (
      c.add_rows-in-loop-from.ensures.same ∙ c.loop-from.invariant.0,
      pairs_step (pow_pos 64) c.loop-from.invariant.1 h refl refl,
      λ f r. pairs_next (pow_pos 64) c.loop-from.invariant.1 b.some refl h (c.loop-from.invariant.2 f r) c.add_rows-in-loop-from.ensures,
    )

pub add_row-requires : goal.add_row-requires
add_row-requires c = pairs_fits_last (pow_pos 64) c.loop-from.invariant.1 c.loop-from.invariant.0

pub returns : goal.returns
returns c =
    let b = c.args.self.block in
    rw c.requires.1 (λ f r.
    pairs_last (pow_pos 64) c.loop-from.invariant.1 b.some refl (omega arith)
    (c.loop-from.invariant.2 f
    (pairs_first c.args.self.offset (pow_pos 64) b.some refl c.requires.0 refl
    c.wrapping_sub-first.ensures c.wrapping_sub.ensures c.wrapping_mul.ensures r c.add_rows.ensures))
    c.add_row.ensures)

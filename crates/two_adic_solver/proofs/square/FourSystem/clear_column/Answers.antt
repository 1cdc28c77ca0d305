-- The loop: the first `target` rows are as after the column's step.
use Rattle.std.proofs.Common.{◌≡◌, subst, ℕ, ◌<◌, ◌≤◌, length, sym, refl, ◌∙◌, arith}
use Rattle.meaning.specs.Factorials.{twos_of}
use Rattle.meaning.specs.Elimination.{joined}
use Rattle.two_adic_solver.proofs.RowLoops.{whole_start, whole_step, whole_done}
use Rattle.two_adic_solver.specs.Fixed.{joined_length}
use Rattle.two_adic_solver.proofs.FixedLaws.{joined-entry}
use Rattle.two_adic_solver.proofs.square.FourSystem.clear_column.Goals as goal

pub new-pivot-requires : goal.new-pivot-requires
new-pivot-requires c =
    let a = c.args in
    let f = a.self.now in
    let q = c.requires.pivot in
    let row_lt : a.row < 4 = omega (arith, q.1, f.sides.0) in
    subst (λ (n : ℕ). twos_of f.width.bits n < f.width.bits) (joined-entry f.square a.row a.column row_lt q.0) q.2

pub loop-target-init : goal.loop-target-init
loop-target-init c =
    let a = c.args in
    let f = a.self.now in
    let q = c.requires.pivot in
    let e = c.new-pivot.ensures.entry in
    let row_lt : a.row < 4 = omega (arith, q.1, f.sides.0) in
    record {
      used = refl;
      width = refl;
      cleared = whole_start _ _ _ _ _ _ _ _ _ _ q.1 q.0 (sym (joined-entry f.square a.row a.column row_lt q.0)) e.0 e.1;
    }

pub loop-target-preserved : goal.loop-target-preserved
loop-target-preserved c =
    let a = c.args in
    let f = a.self.now in
    let q = c.requires.pivot in
    let e = c.new-pivot.ensures.entry in
    let at = c.new-pivot.ensures.place in
    let l = c.loop-target in
    let i = l.invariant in
    let k = c.clear_row in
    let row_lt : a.row < 4 = omega (arith, q.1, f.sides.0) in
    let target_lt : l.target < length l.self.right = omega (arith, l.self.sides.0, c.loop-target-test.true) in
    let same : length k.new.self.right ≡ length l.self.right = k.new.self.sides.0 ∙ sym l.self.sides.0 in
    record {
      used = k.ensures.kept.0 ∙ i.used;
      width = k.ensures.kept.1 ∙ i.width;
      cleared =
          whole_step _ _ _ _ _ _ _ _ _ _ q.1 q.0 (sym (joined-entry f.square a.row a.column row_lt q.0)) e.0 e.1
          (joined l.self.entries) l.self.right (joined k.new.self.entries) k.new.self.right l.target i.cleared target_lt
          (joined_length k.new.self.square ∙ sym (joined_length l.self.square)) same
          (rw (at.0, at.1, at.2, i.used) at k.ensures.cleared);
    }

pub returns-clause-kept : goal.returns-clause-kept
returns-clause-kept c =
    let l = c.loop-target in
    ((l.self.sides.0 ∙ sym c.args.self.now.sides.0, l.invariant.width), l.invariant.used)

pub returns-clause-cleared : goal.returns-clause-cleared
returns-clause-cleared c =
    let a = c.args in
    let f = a.self.now in
    let q = c.requires.pivot in
    let e = c.new-pivot.ensures.entry in
    let l = c.loop-target in
    let row_lt : a.row < 4 = omega (arith, q.1, f.sides.0) in
    let done : length l.self.right ≤ l.target = omega (arith, l.self.sides.0, c.loop-target-test.false) in
    whole_done _ _ _ _ _ _ _ _ _ _ q.1 q.0 (sym (joined-entry f.square a.row a.column row_lt q.0)) e.0 e.1
    (joined l.self.entries) l.self.right l.target l.invariant.cleared done

-- The loop: the row is filled before column j, `factor` is the factor of column j, and `left` stands left of the entry above. A turn is two steps, the end
-- one or none.
use Rattle.std.proofs.Common.{◌≡◌, ℕ, ◌+◌, ◌%◌, ◌^◌, set, sym, refl, ap, ◌∙◌, subst, ne_of_lt, arith, length-set, get_or-set_other}
use Rattle.meaning.specs.Tables.{at}
use Rattle.math_utils.proofs.Entries.{Columns, columns-start, column_step, columns_done}
use Rattle.math_utils.proofs.stirling.fill_row.Goals as goal

pub loop-j-init : goal.loop-j-init
loop-j-init c =
    let a = c.args in
    let p = c.requires.i_nonzero in
    (omega arith, omega arith, refl, columns-start a.bitwidth a.side a.from a.i a.first a.step c.requires.bitwidth_bound p.0 p.1 p.3 a.table.now)

pub loop-j-preserved : goal.loop-j-preserved
loop-j-preserved c =
    let a = c.args in
    let p = c.requires.i_nonzero in
    let n = c.loop-j in
    let h = c.loop-j-test.true in
    let t = set n.table (a.from + a.side + n.j) c.next_entry.result in
    let u = c.next_entry-in-loop-j in
    let grown = ((n.factor + a.step) % 2 ^ 64 + a.step) % 2 ^ 64 in
    let step = column_step a.bitwidth a.side a.from a.i a.first a.step c.requires.bitwidth_bound p.0 p.1 p.3 a.table.now in
    let once = step n.table n.factor n.left n.j n.invariant.3 _ _ _ n.invariant.0 (omega (arith, h)) (omega arith) refl
    c.next_entry.ensures refl in
    let read : at n.table (a.from + n.j + 1) ≡ at t (a.from + (n.j + 1)) =
    ap (at n.table) (omega arith) ∙ sym (get_or-set_other n.table (a.from + a.side + n.j) (a.from + (n.j + 1)) _ 0 (ne_of_lt (omega arith))) in
    let twice = step t _ _ (n.j + 1) once (at n.table (a.from + n.j + 1)) u.result grown
    (omega arith) (omega (arith, h)) (simp length-set (omega (arith, n.invariant.2))) read u.ensures refl in (
      omega arith,
      omega (arith, h),
      simp length-set n.invariant.2,
      subst
          (λ (q : ℕ). Columns a.bitwidth a.side a.from a.i a.first a.step a.table.now (set t q u.result) grown (at n.table (a.from + n.j + 1)) (n.j + 2))
          (omega arith)
          (subst (Columns a.bitwidth a.side a.from a.i a.first a.step a.table.now _ _ _) (omega arith) twice),
    )

pub returns-then-j-i : goal.returns-then-j-i
returns-then-j-i c =
    let a = c.args in
    let p = c.requires.i_nonzero in
    let n = c.loop-j in
    let last = subst (Columns a.bitwidth a.side a.from a.i a.first a.step a.table.now n.table n.factor n.left) c.if-j-i.true n.invariant.3 in
    let step = column_step a.bitwidth a.side a.from a.i a.first a.step c.requires.bitwidth_bound p.0 p.1 p.3 a.table.now in
    columns_done a.bitwidth a.side a.from a.i a.first a.step c.requires.bitwidth_bound p.0 p.1 p.3 a.table.now _ _ _ (a.i + 1)
    (step n.table n.factor n.left a.i last _ _ _ p.0 (omega arith) (omega arith) refl c.next_entry-then-j-i.ensures refl) refl

pub returns-else-j-i : goal.returns-else-j-i
returns-else-j-i c =
    let a = c.args in
    let p = c.requires.i_nonzero in
    let n = c.loop-j in
    columns_done a.bitwidth a.side a.from a.i a.first a.step c.requires.bitwidth_bound p.0 p.1 p.3 a.table.now n.table n.factor n.left n.j n.invariant.3
    (omega (arith, c.if-j-i.false, c.loop-j-test.false))

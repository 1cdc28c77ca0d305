use Rattle.std.proofs.Common.{◌≡◌, ◌≤◌, Bool, cond, List, length, take, sym, refl, ap, ◌∙◌, arith, get_or-set_same, le-leb, leb, Some, None, if◌then◌else◌, ℕ}
use Rattle.box_rows.specs.Rows.{row_variables}
use Rattle.box_rows.specs.Layouts.{numbered, laying_start, laying_step}
use Rattle.box_rows.proofs.RowLayouts.{in_row_start, in_row_stop, in_row_step, in_row_end, laying_done}
use Rattle.box_rows.proofs.layout.lay_out_numbers.Goals as goal

-- with room, the answer and the table for i variables
answer : {i : ℕ} (ds t : List ℕ) → i ≡ row_variables 1 ds → 256 ≤ length t
    → Some i ≡ (if leb 256 (length t) then Some (row_variables 1 ds) else None)
answer ds t e h = ap Some e ∙ sym (ap (λ (b : Bool). if b then Some (row_variables 1 ds) else None) (le-leb 256 (length t) h))

table : {i : ℕ} {m : List ℕ} (F : List ℕ → ℕ) (ds t : List ℕ) → i ≡ row_variables 1 ds → m ≡ numbered F (take i ds) t → 256 ≤ length t
    → m ≡ cond (leb 256 (length t)) (numbered F (take (row_variables 1 ds) ds) t) t
table F ds t e f h =
    let laid = numbered F (take (row_variables 1 ds) ds) t in
    f ∙ ap (λ (k : ℕ). numbered F (take k ds) t) e ∙ sym (ap (λ (b : Bool). cond b laid t) (le-leb 256 (length t) h))

pub loop-i-init : goal.loop-i-init
loop-i-init g c =
    record {
      laying = laying_start _ _ _ (get_or-set_same c.args.table.now 0 _ 0 (omega (arith, c.if-table-lt256.false)) ∙ c.start.ensures);
      in_row = in_row_start c.args.degrees.now;
    }

pub loop-i-preserved : goal.loop-i-preserved
loop-i-preserved g c =
    let l = c.loop-i in
    let add = c.add_variable-size.ensures in
    record {
      laying = laying_step _ _ _ l.table l.size l.i l.invariant.laying c.loop-i-test.true _ _ add.cells add.numbers;
      in_row = in_row_step _ l.size l.i l.invariant.in_row c.loop-i-test.true c.if-size-d-gt256.false _ add.cells;
    }

pub returns-then-size-d-gt256-clause-variables : goal.returns-then-size-d-gt256-clause-variables
returns-then-size-d-gt256-clause-variables g c =
    let l = c.loop-i in
    answer _ _ (in_row_stop _ l.size l.i l.invariant.in_row c.loop-i-test.true c.if-size-d-gt256.true) c.if-table-lt256.false

pub returns-then-size-d-gt256-clause-numbers : goal.returns-then-size-d-gt256-clause-numbers
returns-then-size-d-gt256-clause-numbers g c =
    let l = c.loop-i in
    table (g.N.CellNumbers.number c.args.numbers.now) _ _ (in_row_stop _ l.size l.i l.invariant.in_row c.loop-i-test.true c.if-size-d-gt256.true)
    (laying_done _ _ _ l.table l.size l.i l.invariant.laying c.args.table.now _ refl) c.if-table-lt256.false

pub returns-clause-variables : goal.returns-clause-variables
returns-clause-variables g c =
    let l = c.loop-i in
    let all : length c.args.degrees.now ≡ l.i = omega (arith, l.invariant.laying.within, c.loop-i-test.false) in
    answer _ _ (all ∙ in_row_end _ l.size l.i l.invariant.in_row c.loop-i-test.false) c.if-table-lt256.false

pub returns-clause-numbers : goal.returns-clause-numbers
returns-clause-numbers g c =
    let l = c.loop-i in
    table (g.N.CellNumbers.number c.args.numbers.now) _ _ (in_row_end _ l.size l.i l.invariant.in_row c.loop-i-test.false)
    (laying_done _ _ _ l.table l.size l.i l.invariant.laying c.args.table.now _ refl) c.if-table-lt256.false

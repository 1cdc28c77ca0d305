-- The loop puts one coefficient after the other.
use Rattle.std.proofs.Common.{max, ◌≡◌, ◌∙◌, ℕ, ◌+◌, ◌*◌, ◌-◌, List, length, take, drop, ap, ap₂, cond, eqb, set, arith, le_trans}
use Rattle.std.proofs.lemmas.Grind.{common_steps}
use Rattle.meaning.specs.Fit.{total}
use Rattle.theory.specs.Boxes.{cell-lt, digits-cell, length-within}
use Rattle.weighted_poly_fit.proofs.AnswerBox.{answered_start, column_end, column_part, part-within, answered_next, answered_box, answered_degree}
use Rattle.weighted_poly_fit.proofs.fit.Given.fill_answer.Goals as goal

pub loop-c-init : goal.loop-c-init
loop-c-init c =
    let p = c.requires in
    let h = c.args.self.now.shaped in
    let n = c.args.self.now.counted in
    answered_start _
    (record {
      small = le_trans n.box_small n.rows_few;
      narrow = h.high;
      short = h.variables_few;
      listed = p.exponents_value.0;
      long = p.exponents_value.1;
    }) c.clear.ensures p.out_len

pub overflow_mul-from : goal.overflow_mul-from
overflow_mul-from c = omega (arith, column_end c.loop-c.invariant c.loop-c-test.true)

pub overflow_add-column : goal.overflow_add-column
overflow_add-column c = record { fits = omega (arith, column_end c.loop-c.invariant c.loop-c-test.true) }

pub slice_bounds-column-end : goal.slice_bounds-column-end
slice_bounds-column-end c = column_end c.loop-c.invariant c.loop-c-test.true

pub invariant_of-column : goal.invariant_of-column
invariant_of-column c =
    let i = c.loop-c.invariant in
    let within = part-within i c.loop-c-test.true in
    record { within = digits-cell within; short = omega (arith, i.lent.short, length-within within); small = i.lent.small }

pub offset_bounds-out-number : goal.offset_bounds-out-number
offset_bounds-out-number c =
    let i = c.loop-c.invariant in
    omega (arith, c.cell_number-number.ensures, cell-lt (part-within i c.loop-c-test.true), i.lent.small)

pub bounds-out-number : goal.bounds-out-number
bounds-out-number c =
    let i = c.loop-c.invariant in
    omega (arith, c.cell_number-number.ensures, cell-lt (part-within i c.loop-c-test.true), i.whole)

pub loop-c-preserved : goal.loop-c-preserved
loop-c-preserved c =
    let i = c.loop-c.invariant in
    let v = length c.args.self.now.degrees.now in
    let es : List ℕ = take (c.loop-c.c * v + v - c.loop-c.c * v) (drop (c.loop-c.c * v) c.args.exponents.now) in
    let larger : c.max-highest.result ≡ max c.loop-c.highest c.degree_of.result = c.max-highest.ensures ∙ grind (arith, common_steps) in
    answered_next i c.loop-c-test.true es _ _ _ (column_part i c.loop-c-test.true)
    (ap₂ (set c.loop-c.out) c.cell_number-number.ensures c.coefficient-reduced.ensures)
    (c.degree_of.ensures ∙ ap (λ (n : ℕ). cond (eqb n 0) 0 (total es)) c.coefficient-reduced.ensures) larger

pub returns : goal.returns
returns c =
    let i = c.loop-c.invariant in
    record { says = answered_degree i c.loop-c-test.false; leaves = answered_box i c.loop-c-test.false }

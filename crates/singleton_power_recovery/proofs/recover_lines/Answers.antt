-- The loop: the lines so far are accepted and their answers are in `out`. `lines_fail` closes the return at a refused line, `lines-done` the end.
use Rattle.std.proofs.Common.{◌≡◌, ℕ, ◌+◌, ◌-◌, ◌*◌, ◌≤◌, ◌<◌, List, [], ◌∷◌, ◌++◌, length, drop, sym, ap, ◌∙◌, subst, arith, length-append, length-drop}
use Rattle.std.proofs.Common.{add-mul}
use Rattle.theory.specs.Parts.{part, put}
use Rattle.answers.specs.Said.{code, said_number}
use Rattle.answers.specs.Laws.{code-suc, handed_on}
use Rattle.singleton_power_recovery.specs.VariableLines.{Single, Lines, lines_step, lines_fail, lines-done}
use Rattle.singleton_power_recovery.proofs.Chunks.{chunk_fits, chunk_part, chunk_rest}
use Rattle.singleton_power_recovery.proofs.recover_lines.Goals as goal
use Rattle.singleton_power_recovery.proofs.recover_lines.Goals.{In-Some}

-- the place of the next line, which is what the values have there
at_place : (c : In-Some) → c.in-Some.i * c.args.size ≡ length c.loop-i.yielded * c.args.size
at_place c = ap (◌* c.args.size) (c.in-Some.ensures.steps.1 ∙ c.loop-i.invariant.0)

within : (c : In-Some) → c.in-Some.i * c.args.size ≤ length c.args.values.now
within c = omega (arith, at_place c, c.loop-i.invariant.2)

read : (c : In-Some) → drop (c.in-Some.i * c.args.size) c.args.values.now ≡ c.in-Some.line.now ++ c.next.new.self.iter.rest.now
read c = ap (λ (n : ℕ). drop n c.args.values.now) (at_place c) ∙ sym c.loop-i.invariant.3 ∙ c.in-Some.ensures.steps.0.1.0

long : (c : In-Some) → length c.in-Some.line.now ≡ c.args.size
long c = c.in-Some.ensures.steps.0.1.1 ∙ c.loop-i.invariant.1

fits : (c : In-Some) → c.in-Some.i * c.args.size + c.args.size ≤ length c.args.values.now
fits c = chunk_fits c.args.values.now c.in-Some.line.now _ _ c.args.size (within c) (read c) (long c)

-- what came of it, and the lines before it
single : (c : In-Some) (ys : List ℕ) (n : ℕ) → Single c.args.bitwidth c.in-Some.line.now ys n
    → Single c.args.bitwidth (part (c.in-Some.i * c.args.size) (c.in-Some.i * c.args.size + c.args.size) c.args.values.now) ys n
single c ys n s =
    subst (λ (t : List ℕ). Single c.args.bitwidth t ys n) (chunk_part c.args.values.now c.in-Some.line.now _ _ c.args.size (within c) (read c) (long c)) s

so_far : (c : In-Some) → Lines c.args.bitwidth c.args.size c.args.values.now c.args.out.now c.loop-i.out (c.in-Some.i * c.args.size)
so_far c = subst (λ (n : ℕ). Lines c.args.bitwidth c.args.size c.args.values.now c.args.out.now c.loop-i.out n) (sym (at_place c)) c.loop-i.invariant.4

pub loop-i-preserved : goal.loop-i-preserved
loop-i-preserved c =
    let k = (goal.at.loop-i-preserved c).In-Some in
    let a = c.args in
    let l = c.loop-i in
    let s = c.in-Some.ensures.steps in
    let i = c.in-Some.i in
    let ys = c.recover_line.new.out in
    let next : i * a.size + a.size ≡ (i + 1) * a.size = omega (arith, add-mul i 1 a.size) in
    let more : length (l.yielded ++ (i, c.in-Some.line) ∷ []) ≡ i + 1 = length-append _ _ ∙ ap (◌+ 1) (sym (s.1 ∙ l.invariant.0)) in
    let one_more =
    lines_step a.bitwidth a.size a.values.now a.out.now l.out (i * a.size) (so_far k) (omega arith) (fits k) ys (l.auto.out ∙ c.requires.3)
    (single k ys 0 c.in_ok-recover_line.ensures) in
    rw more (
      s.2 ∙ ap (◌+ 1) (sym s.1),
      s.0.0 ∙ l.invariant.1,
      omega (arith, next, fits k),
      chunk_rest a.values.now c.in-Some.line.now _ _ a.size (within k) (read k) (long k) ∙ ap (λ (n : ℕ). drop n a.values.now) next,
      subst (λ (n : ℕ). Lines a.bitwidth a.size a.values.now a.out.now (put (i * a.size) (i * a.size + a.size) l.out ys) n) next one_more,
    )

pub returns-in_err-recover_line : goal.returns-in_err-recover_line
returns-in_err-recover_line c n whole =
    let k = (goal.at.returns-in_err-recover_line c).In-Some in
    let a = c.args in
    let ys = c.recover_line.new.out in
    let r = c.in_err-recover_line.field-0.0 in
    rw (ap said_number (handed_on _ c.from_residual.ensures.1))
    (lines_fail a.bitwidth a.size a.values.now a.out.now c.loop-i.out (c.in-Some.i * a.size) (so_far k) (omega arith) (fits k) ys {n = n} whole (code-suc r)
    (single k ys (code r) c.in_err-recover_line.ensures))

pub returns : goal.returns
returns c =
    let a = c.args in
    let l = c.loop-i in
    let s = c.in-None.ensures.steps in
    let from = length l.yielded * a.size in
    let left_over : length a.values.now - from < a.size = omega (arith, length-drop from a.values.now, ap length l.invariant.3, l.invariant.1, s.0.1.0) in
    λ n whole. lines-done a.bitwidth a.size a.values.now a.out.now l.out from n l.invariant.4 left_over whole c.requires.3

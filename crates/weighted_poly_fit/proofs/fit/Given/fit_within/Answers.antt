-- The system is filled and solved, and the scratch tables are cleared.
use Rattle.std.proofs.Common.{◌≡◌, sym, ap, ap₂, ◌∙◌, ℕ, ◌*◌, ◌≤◌, arith, length, take, replicate, length-take}
use Rattle.std.proofs.lemmas.List.{length-replicate}
use Rattle.meaning.specs.Tables.{tabulate}
use Rattle.theory.specs.FitSizes.{columns_pos}
use Rattle.weighted_poly_fit.specs.Asked.{given_fit}
use Rattle.weighted_poly_fit.proofs.FitCalls.{fitted_solved}
use Rattle.weighted_poly_fit.proofs.fit.Given.fit_within.Goals as goal

-- the part of the room that the columns take
columns_long : {n : ℕ} (room : ℕ) → n ≤ room → length {A = ℕ} (take n (replicate room 0)) ≡ n
columns_long {n} room h = simp (length-take, length-replicate) (omega arith)

pub answer_system-found-requires-clause-solvable : goal.answer_system-found-requires-clause-solvable
answer_system-found-requires-clause-solvable g c =
    let a = c.args in
    let h = a.self.now.shaped in
    let long = columns_long _ c.requires.enough.0 in
    let e = c.requires.exact in
    let m : length c.fill_system.new.matrix ≡ length a.matrix.now = omega arith in
    let r : length c.fill_system.new.right ≡ length a.right.now = omega arith in
    record {
      fits = h.fits;
      high = h.high;
      some = omega (arith, long, e.counted, columns_pos a.self.now.degrees.now a.self.now.most);
      few = omega (arith, long, e.columns_few);
      whole = m ∙ e.matrix_long ∙ ap₂ ◌*◌ (sym (r ∙ e.right_long)) (sym long);
      small = omega (arith, m, e.matrix_small);
    }

pub returns : goal.returns
returns g c =
    let a = c.args in
    let long = columns_long _ c.requires.enough.0 in
    let e = c.requires.exact in
    let r : length c.fill_system.new.right ≡ length a.right.now = omega arith in
    let m' : length c.answer_system-found.new.matrix ≡ length a.matrix.now = omega arith in
    let r' : length c.answer_system-found.new.right ≡ length a.right.now = omega arith in
    fitted_solved (given_fit a.self.now a.matrix.now a.right.now a.out.now) _ _ _ _ _ _ _ (r ∙ e.right_long) (long ∙ e.counted)
    (rw (← long) at c.fill_system.ensures.fills)
    c.answer_system-found.ensures
    (c.clear.ensures ∙ ap (λ (n : ℕ). tabulate n (λ i. 0)) m')
    (c.clear-2.ensures ∙ ap (λ (n : ℕ). tabulate n (λ i. 0)) r')

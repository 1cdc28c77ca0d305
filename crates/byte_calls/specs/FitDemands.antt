-- What holds of an accepted fit, said of the tables that the bytes hold: it follows from the two equations of the call on bytes, as the output's bytes hold the
-- answer, a normal form.
use Rattle.std.specs.Prelude.{◌≡◌, Bool, cond, List, false, ℕ, ◌≤◌, min}
use Rattle.std.proofs.Common.{sym, ap, ◌∙◌}
use Rattle.meaning.specs.Tables.{tabulate}
use Rattle.meaning.specs.Boxes.{cells}
use Rattle.meaning.specs.Replies.{Reply}
use Rattle.meaning.specs.Settings.{fits_width, byte_limit, cube, first}
use Rattle.meaning.specs.Calls.{reply, left}
use Rattle.meaning.specs.Fit.{Fit, degree_used_of, fit_succeeds, fit_answer}
use Rattle.theory.specs.AcceptedCalls.{first-zero, number-reply}
use Rattle.settings.specs.Causes.{passes}
use Rattle.theory.specs.Ranges.{width_high}
use Rattle.theory.specs.SolverLaws.{passed}
use Rattle.theory.specs.FitLaws.{fit_answer_normal}
use Rattle.demand3.specs.SameWords.{normal_iff}
use Rattle.weighted_poly_fit.specs.Fits.{Fits}
use Rattle.weighted_poly_fit.specs.FitsLaws.{Solved, fits_of_solved, cubes_same}
use Rattle.byte_calls.specs.Bytes.{decoded, encoded}
use Rattle.byte_calls.specs.NormalTables.{decode_normal}
use Rattle.byte_calls.specs.Calls.{holds, box_number, fit_held, fit_bytes_cause, fit_bytes_reply, fit_bytes_left}

module _ (count total w : ℕ) (support : List ℕ) (most grid : ℕ) (weights targets out : List ℕ) where
  abbrev asked : Fit
  asked = fit_held total w support most grid weights targets

  abbrev cause : ℕ
  cause = fit_bytes_cause count support weights targets out asked

  -- no cause: the width is at most 64
  small_width : cause ≡ 0 → w ≤ 64
  unfolding fit_bytes_cause box_number
  small_width e =
      let box = (first-zero (box_number false count total w support (cube (decoded support) grid)) _ e).0 in
      let settled = (first-zero (cond (holds support count) 0 9) _ box).1 in
      width_high w (passes byte_limit false total (fits_width w) (decoded support) (cube (decoded support) grid) settled).width

  pub fits_of_bytes : {r : Reply} {after : List ℕ} → r ≡ fit_bytes_reply count support weights targets out asked
      → after ≡ fit_bytes_left count support weights targets out asked
      → Fits w (cube (decoded support) (min most grid)) (cube (decoded support) grid) most (decoded weights) (decoded targets) r.number r.value
      (decoded after)
  unfolding fit_bytes_reply fit_bytes_left
  fits_of_bytes {r} {after} e l = fits_of_solved asked (cubes_same (decoded support) _ _) solved
    where
      used : ℕ
      used = degree_used_of asked.degrees (fit_answer asked)

      number : ℕ
      number = first cause (cond (fit_succeeds asked) 0 10)

      zeros : List ℕ
      zeros = tabulate (cells asked.degrees) (λ n. 0)

      solved : r.number ≡ 0 → Solved asked r.value (decoded after)
      solved z =
          let none : number ≡ 0 = sym (number-reply number used) ∙ sym (ap (λ (r : Reply). r.number) e) ∙ z in
          let parts = first-zero cause _ none in
          let success = passed (fit_succeeds asked) 9 parts.1 in
          record {
            succeeds = success;
            leaves =
                ap decoded l
                ∙ ap (λ (k : ℕ). decoded (left k (encoded (cond (fit_succeeds asked) (fit_answer asked) zeros)) out)) parts.0
                ∙ ap (λ (b : Bool). decoded (encoded (cond b (fit_answer asked) zeros))) success
                ∙ decode_normal ((normal_iff w asked.degrees (fit_answer asked)).0 (fit_answer_normal asked)) (small_width parts.0);
            says = ap (λ (r : Reply). r.value) (e ∙ ap (λ (k : ℕ). reply k used) none);
          }

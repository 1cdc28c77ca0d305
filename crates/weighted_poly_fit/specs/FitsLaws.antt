-- What holds of an accepted fit follows from the two equations of its contract: where the number is 0 the elimination succeeds, the output is its answer and
-- the degree is that answer's.
use Rattle.std.specs.Prelude.{◌≡◌, true, List, length, ℕ, ◌*◌, ◌%◌, ◌^◌, min}
use Rattle.std.proofs.Common.{sym, ap, ◌∙◌, inl, inr, ⊎_elim}
use Rattle.std.proofs.lemmas.List.{length-replicate}
use Rattle.meaning.specs.Tables.{at}
use Rattle.meaning.specs.Boxes.{digits}
use Rattle.meaning.specs.Replies.{Reply}
use Rattle.meaning.specs.Settings.{cube}
use Rattle.meaning.specs.Calls.{reply}
use Rattle.meaning.specs.Fit.{Fit, fit_of, degree_used_of, fit_succeeds, fit_answer, fit_number, fit_reply, fit_out}
use Rattle.theory.specs.FitBoxes.{degree_used_of_most, degree_used_of_met}
use Rattle.theory.specs.FitLaws.{fit_answer_normal, fit_answer_outside, fit_answer-fits, fit-succeeds, fit_out-answer}
use Rattle.demand3.specs.SameWords.{normal_iff}
use Rattle.demand3.specs.Recovery.{value-eq}
use Rattle.theory.specs.AcceptedCalls.{number-reply}
use Rattle.weighted_poly_fit.specs.Fits.{Fits}

-- the elimination succeeds, with its answer in the table `after` and the degree of that
pub record Solved (f : Fit) (degree : ℕ) (after : List ℕ) : Type 0 where
  pub succeeds : fit_succeeds f ≡ true
  pub leaves : after ≡ fit_answer f
  pub says : degree ≡ degree_used_of f.degrees (fit_answer f)

-- the answer of a fit with as many degrees of the grid as of the box, where the elimination succeeds
module _ (f : Fit) (same : length f.grid ≡ length f.degrees) {number degree : ℕ} {after : List ℕ} (solved : number ≡ 0 → Solved f degree after) where
  pub fits_of_solved : Fits f.width f.degrees f.grid f.most f.weights f.targets number degree after
  fits_of_solved =
      record {
        normal = λ z. rw (solved z).leaves ((normal_iff f.width f.degrees (fit_answer f)).0 (fit_answer_normal f));
        outside = λ z. rw (solved z).leaves (fit_answer_outside f);
        fits = λ z n h.
            rw (solved z).leaves
            (ap (λ (v : ℕ). (at f.weights n * v) % 2 ^ f.width) (value-eq f.width f.degrees (fit_answer f) (digits f.grid n))
            ∙ fit_answer-fits f (solved z).succeeds same n h);
        highest = λ z. rw ((solved z).leaves, (solved z).says) (degree_used_of_most f.degrees (fit_answer f));
        reached = λ z.
            rw ((solved z).leaves, (solved z).says)
            (⊎_elim inl (λ m. inr (record { place = m.0; inside = m.1; present = m.2; sums = m.3 })) (degree_used_of_met f.degrees (fit_answer f)));
      }

-- a box has as many degrees as the support has variables
pub cubes_same : (support : List ℕ) (a b : ℕ) → length (cube support a) ≡ length (cube support b)
cubes_same support a b = length-replicate (length support) a ∙ sym (length-replicate (length support) b)

-- the call with one max_degree and one grid_degree, from what it says and leaves
module _ (variables w : ℕ) (support : List ℕ) (max-degree grid-degree : ℕ) (weights targets matrix right out : List ℕ) where
  abbrev asked : Fit
  asked = fit_of variables w support max-degree grid-degree weights targets matrix right out

  pub fits_of_call : {r : Reply} {after : List ℕ} → r ≡ fit_reply asked → after ≡ fit_out asked
      → Fits w (cube support (min max-degree grid-degree)) (cube support grid-degree) max-degree weights targets r.number r.value after
  unfolding fit_reply
  fits_of_call {r} {after} e l = fits_of_solved asked (cubes_same support _ _) solved
    where
      used : ℕ
      used = degree_used_of asked.degrees (fit_answer asked)

      solved : r.number ≡ 0 → Solved asked r.value after
      solved z =
          let none : fit_number asked ≡ 0 = sym (number-reply (fit_number asked) used) ∙ sym (ap (λ (r : Reply). r.number) e) ∙ z in
          record {
            succeeds = fit-succeeds asked none;
            leaves = l ∙ fit_out-answer asked none;
            says = ap (λ (r : Reply). r.value) (e ∙ ap (λ (k : ℕ). reply k used) none);
          }

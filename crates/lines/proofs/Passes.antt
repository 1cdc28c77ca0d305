-- The loops of the differences: one pass over a block, and the passes over it. Both speak of every line transform that the block may be in the
-- middle of, so that no bound on the number of passes is needed before the end.
use Rattle.std.proofs.Common.{◌≡◌, ℕ, suc, ◌+◌, ◌-◌, ◌*◌, ◌^◌, ◌<◌, ◌≤◌, List, length, set, ◌∙◌, le_refl, le_of_suc-le-suc, le-add_right, arith, length-set}
use Rattle.std.proofs.Math.Nat.{le_of_mul-le-mul_left}
use Rattle.meaning.specs.Tables.{tabulate, at}
use Rattle.meaning.specs.Differences.{minus, newton}
use Rattle.lines.specs.FlatTables.{lined}
use Rattle.theory.specs.Tables.{eq-tabulate}
use Rattle.lines.specs.InPlace.{ZeroFrom, NewtonPassed, NewtonPass, newton-start, newton_pass_step, newton_pass_done, newton_done, PassDone, PairDone}
use Rattle.lines.proofs.NothingLeft.{stays}

-- ---- one pass

-- a pass that ends at place `low` has come down to place i
pub record Passing (stride low : ℕ) (t₀ t : List ℕ) (i : ℕ) : Type 0 where
  pub same : length t ≡ length t₀
  pub within : i ≤ length t
  pub passing : (d p : ℕ) (f : ℕ → ℕ) → low ≡ stride * suc p → NewtonPassed (2 ^ 64) stride d f (length t₀) p t₀
      → NewtonPass (2 ^ 64) stride d f (length t₀) p i t

module _ (stride low : ℕ) (t₀ : List ℕ) where
  pub passing_step : (t : List ℕ) (i v : ℕ) → Passing stride low t₀ t i → 0 < stride → low < i
      → v ≡ minus (2 ^ 64) (at t (i - 1)) (at t (i - 1 - stride)) → Passing stride low t₀ (set t (i - 1) v) (i - 1)
  passing_step t i v r pos h e =
      record {
        same = length-set t (i - 1) v ∙ r.same;
        within = simp length-set (omega (arith, r.within));
        passing =
            λ d p f k s.
            rw
            e
            (newton_pass_step pos (rw (← k) h) (omega (arith, r.within, r.same)) (r.passing d p f k s));
      }

  pub passing_done : (t : List ℕ) (i : ℕ) → Passing stride low t₀ t i → 0 < stride → i ≤ low
      → (d p : ℕ) (f : ℕ → ℕ) → low ≡ stride * suc p → NewtonPassed (2 ^ 64) stride d f (length t₀) p t₀
      → NewtonPassed (2 ^ 64) stride d f (length t₀) (suc p) t
  passing_done t i r pos h d p f k s = newton_pass_done pos (rw (← k) h) (r.passing d p f k s)

-- ---- the passes over a block

-- the next pass ends at place `low`
pub record Passes (stride d : ℕ) (t₀ t : List ℕ) (low : ℕ) : Type 0 where
  pub count : ℕ
  pub place : low ≡ stride * suc count
  pub above : stride ≤ low
  pub passed : NewtonPassed (2 ^ 64) stride d (at t₀) (length t₀) count t

module _ (stride d : ℕ) (t₀ : List ℕ) where
  pub passes-start : Passes stride d t₀ t₀ stride
  passes-start =
      record {
        count = 0;
        place = omega arith;
        above = le_refl stride;
        passed = newton-start (2 ^ 64) stride d t₀;
      }

  module _ (t : List ℕ) (low : ℕ) (r : Passes stride d t₀ t low) where
    same : length t ≡ length t₀
    same = r.passed.shows.same

    -- one pass, and two at once
    pub passes-step : (t' : List ℕ) → PassDone stride low t t' → Passes stride d t₀ t' (low + stride)
    passes-step t' done =
        record {
          count = suc r.count;
          place = omega (arith, r.place);
          above = omega arith;
          passed = rw same at (done d r.count (at t₀) r.place (rw same r.passed));
        }

    pub passes_pair : (t' : List ℕ) → PairDone stride low t t' → Passes stride d t₀ t' (low + (stride + stride))
    passes_pair t' done =
        record {
          count = suc (suc r.count);
          place = omega (arith, r.place);
          above = omega arith;
          passed = rw same at (done d r.count (at t₀) r.place (rw same r.passed));
        }

    module _ (pos : 0 < stride) (whole : length t₀ ≡ stride * suc d) where
      pub passes_done : length t ≤ low → t ≡ tabulate (length t₀) (lined (newton (2 ^ 64)) stride d (at t₀))
      passes_done h =
          let enough : d ≤ r.count = le_of_suc-le-suc (le_of_mul-le-mul_left (rw (← r.place, ← whole, ← same) h) pos) in
          let shown = newton_done pos whole enough r.passed in
          eq-tabulate t (length t₀) _ shown.same shown.entry

      -- where the last pass left only zeros, the others change nothing
      pub passes_stop : ZeroFrom (low - stride) t → t ≡ tabulate (length t₀) (lined (newton (2 ^ 64)) stride d (at t₀))
      passes_stop zeros =
          let start : low - stride ≡ stride * r.count = omega (arith, r.place) in
          let shown = newton_done pos whole (le-add_right d r.count) (stays pos d (rw start at zeros) r.passed) in
          eq-tabulate t (length t₀) _ shown.same shown.entry

-- The loops of a single line, which take two passes at once. Below the place that is reached the line is two passes further; the number before it,
-- and that number one pass further, are kept.
use Rattle.std.proofs.Common.{◌≡◌, ℕ, suc, ◌+◌, ◌-◌, ◌^◌, ◌<◌, ◌≤◌, List, length, set, sym, refl, ap, ◌∙◌, ap₂, le_refl, add-one, arith, length-set}
use Rattle.meaning.specs.Tables.{at}
use Rattle.meaning.specs.Differences.{minus}
use Rattle.lines.specs.FlatTables.{lined}
use Rattle.theory.specs.Congruence.{minus-lt}
use Rattle.theory.specs.StepLaws.{minus_none}
use Rattle.lines.specs.InPlace.{Shows, Parted, parted_up, differenced, lined-differenced, lined-kept, NewtonPassed}

-- index j of the line f after q passes
abbrev pub after : ℕ → ℕ → (ℕ → ℕ) → ℕ → ℕ
after q d f = lined (differenced (2 ^ 64) q) 1 d f

-- two passes, the first down to place p + 1, are done up to place `last`. `number` is what that place had after p passes, and `once` is what the second
-- pass takes away from the next place.
pub record Reached (d p : ℕ) (f : ℕ → ℕ) (n : ℕ) (t : List ℕ) (number once last : ℕ) : Type 0 where
  pub parted : Parted (after (suc (suc p)) d f) (after p d f) n (suc last) t
  pub number_eq : number ≡ after p d f last
  pub second : minus (2 ^ 64) (after (suc p) d f (suc last)) once ≡ after (suc (suc p)) d f (suc last)

-- one number of a pass, by the numbers before it
next_after : (d p : ℕ) (f : ℕ → ℕ) (i : ℕ) → p ≤ i → after (suc p) d f (suc i) ≡ minus (2 ^ 64) (after p d f (suc i)) (after p d f i)
next_after d p f i h = rw add-one at (lined-differenced (2 ^ 64) 1 p d f i (omega arith) (omega arith))

-- a place that a pass does not reach
kept-after : (d p : ℕ) (f : ℕ → ℕ) (i : ℕ) → i ≤ p → after (suc p) d f i ≡ after p d f i
kept-after d p f i h = lined-kept (2 ^ 64) 1 p d f i (omega arith) (omega arith)

module _ (d p : ℕ) (f : ℕ → ℕ) (n : ℕ) (t : List ℕ) where
  untouched : Shows (after p d f) n t → Parted (after (suc (suc p)) d f) (after p d f) n (suc p) t
  untouched s =
      record {
        same = s.same;
        below = λ j l q. s.entry j q ∙ sym (kept-after d (suc p) f j (omega arith) ∙ kept-after d p f j (omega arith));
        above = λ j l q. s.entry j q;
      }

  pub reached-start : NewtonPassed (2 ^ 64) 1 d f n p t → p < n → Reached d p f n t (at t p) 0 p
  reached-start r h =
      record {
        parted = untouched r.shows;
        number_eq = r.shows.entry p h;
        second = minus_none small refl ∙ sym (kept-after d (suc p) f (suc p) (omega arith));
      }
    where
      small : after (suc p) d f (suc p) < 2 ^ 64
      small = rw (next_after d p f p (le_refl p)) (minus-lt _ _ (omega arith))

  pub reached-step : {number once last : ℕ} → Reached d p f n t number once last → p ≤ last → suc last < n → (difference v : ℕ)
      → difference ≡ minus (2 ^ 64) (at t (suc last)) number → v ≡ minus (2 ^ 64) difference once
      → Reached d p f n (set t (suc last) v) (at t (suc last)) difference (suc last)
  reached-step {number} {once} {last} r l h difference v e e' =
      record {
        parted = parted_up r.parted v (e' ∙ ap (λ (x : ℕ). minus (2 ^ 64) x once) difference-is ∙ r.second);
        number_eq = here;
        second =
            ap (minus (2 ^ 64) (after (suc p) d f (suc (suc last)))) difference-is ∙ sym (next_after d (suc p) f (suc last) (omega arith));
      }
    where
      here : at t (suc last) ≡ after p d f (suc last)
      here = r.parted.above (suc last) (omega arith) h

      difference-is : difference ≡ after (suc p) d f (suc last)
      difference-is = e ∙ ap₂ (minus (2 ^ 64)) here r.number_eq ∙ sym (next_after d p f last l)

-- the same for every line that the table may be in the middle of; place i is next
pub record Twice (low : ℕ) (t₀ t : List ℕ) (number once i : ℕ) : Type 0 where
  pub same : length t ≡ length t₀
  pub last : ℕ
  pub place : i ≡ suc last
  pub above : low ≤ suc last
  pub reached : (d p : ℕ) (f : ℕ → ℕ) → low ≡ suc p → NewtonPassed (2 ^ 64) 1 d f (length t₀) p t₀ → Reached d p f (length t₀) t number once last

module _ (low : ℕ) (t₀ : List ℕ) where
  pub twice_start : 0 < low → low < length t₀ → Twice low t₀ t₀ (at t₀ (low - 1)) 0 low
  twice_start pos h =
      record {
        same = refl;
        last = low - 1;
        place = omega (arith, pos);
        above = omega arith;
        reached =
            λ d p f k r.
            let before : low - 1 ≡ p = omega (arith, k) in
            rw before (reached-start d p f (length t₀) t₀ r (omega (arith, h, k)));
      }

  pub twice_step : (t : List ℕ) (number once i difference v : ℕ) → Twice low t₀ t number once i → i < length t
      → difference ≡ minus (2 ^ 64) (at t i) number → v ≡ minus (2 ^ 64) difference once
      → Twice low t₀ (set t i v) (at t i) difference (i + 1)
  twice_step t number once i difference v r h e e' =
      record {
        same = length-set t i v ∙ r.same;
        last = suc r.last;
        place = omega (arith, r.place);
        above = omega (arith, r.above);
        reached =
            λ d p f k s.
            rw r.place
            (reached-step d p f (length t₀) t (r.reached d p f k s) (omega (arith, r.above, k)) (omega (arith, h, r.same, r.place))
            difference v (rw r.place at e) e');
      }

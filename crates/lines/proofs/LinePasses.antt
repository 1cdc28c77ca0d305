-- Two passes towards falling factorials at once over a single line, pass k and the next one. From place i on the line is two passes further, below it
-- as it was; `one` is the number at place i after the first of them, `two` after both.
use Rattle.std.proofs.Common.{◌≡◌, ℕ, suc, ◌+◌, ◌*◌, ◌%◌, ◌^◌, ◌<◌, ◌≤◌, List, set, sym, ◌∙◌, ap₂, add-one, arith}
use Rattle.meaning.specs.Tables.{at}
use Rattle.lines.specs.FlatTables.{lined}
use Rattle.lines.specs.InPlace.{Parted, parted_of_low, parted_down, shows_high}
use Rattle.lines.specs.NodePasses.{Passed, after_line, lined-after, lined_top, lined_keep}
use Rattle.lines.specs.NodeConversions.{to_falling}

-- place i of the line f after q passes
abbrev place : ℕ → ℕ → (ℕ → ℕ) → ℕ → ℕ
place q d f = lined (after_line (2 ^ 64) to_falling q) 1 d f

pub record Both (d k : ℕ) (f : ℕ → ℕ) (n : ℕ) (t : List ℕ) (i one two : ℕ) : Type 0 where
  pub parted : Parted (place k d f) (place (suc (suc k)) d f) n i t
  pub once : one ≡ place (suc k) d f i
  pub twice : two ≡ place (suc (suc k)) d f i

module _ (d : ℕ) (f : ℕ → ℕ) where
  -- one number of a pass, by the next one
  place_next : (q i : ℕ) → q ≤ i → i < d → place (suc q) d f i ≡ (place q d f i + q * place (suc q) d f (suc i)) % 2 ^ 64
  place_next q i l h = rw add-one at (lined-after (2 ^ 64) to_falling 1 d f (omega arith) q i (omega arith) (omega arith))

  -- the last number stays, and so do those that a pass does not reach
  place_last : (q : ℕ) → place q d f d ≡ place (suc q) d f d
  place_last q = lined_top (2 ^ 64) to_falling 1 d f (omega arith) q d (omega arith)

  place_keep : (q i : ℕ) → i < q → place q d f i ≡ place (suc q) d f i
  place_keep q i l = lined_keep (2 ^ 64) to_falling 1 d f (omega arith) q i (omega arith)

module _ {d k : ℕ} {f : ℕ → ℕ} {n : ℕ} {t : List ℕ} (whole : n ≡ suc d) where
  pub both-start : Passed (2 ^ 64) to_falling 1 d f n k t → Both d k f n t d (at t d) (at t d)
  both-start r =
      record {
        parted = parted_of_low d r.shows (λ j l h. let e : j ≡ d = omega arith in rw e (place_last d f k ∙ place_last d f (suc k)));
        once = here ∙ place_last d f k;
        twice = here ∙ place_last d f k ∙ place_last d f (suc k);
      }
    where
      here : at t d ≡ place k d f d
      here = r.shows.entry d (omega arith)

  pub both-step : {i one two : ℕ} → Both d k f n t (suc i) one two → k < i → suc i < n → (v w : ℕ)
      → v ≡ (at t i + k * one) % 2 ^ 64 → w ≡ (v + suc k * two) % 2 ^ 64 → Both d k f n (set t i w) i v w
  both-step {i} {one} {two} r l h v w e e' = record { parted = parted_down r.parted w second; once = first; twice = second }
    where
      first : v ≡ place (suc k) d f i
      first =
          e
          ∙ ap₂ (λ x y. (x + k * y) % 2 ^ 64) (r.parted.below i (omega arith) (omega arith)) r.once
          ∙ sym (place_next d f k i (omega arith) (omega arith))

      second : w ≡ place (suc (suc k)) d f i
      second = e' ∙ ap₂ (λ x y. (x + suc k * y) % 2 ^ 64) first r.twice ∙ sym (place_next d f (suc k) i (omega arith) (omega arith))

  -- the lowest number gets the first pass alone
  pub both_done : {one two : ℕ} → Both d k f n t (suc k) one two → suc k < n → (v : ℕ)
      → v ≡ (at t k + k * one) % 2 ^ 64 → Passed (2 ^ 64) to_falling 1 d f n (suc (suc k)) (set t k v)
  both_done {one} r h v e =
      record { shows = shows_high (parted_down r.parted v number) (λ j l q. place_keep d f k j l ∙ place_keep d f (suc k) j (omega arith)) }
    where
      number : v ≡ place (suc (suc k)) d f k
      number =
          e
          ∙ ap₂ (λ x y. (x + k * y) % 2 ^ 64) (r.parted.below k (omega arith) (omega arith)) r.once
          ∙ sym (place_next d f k k (omega arith) (omega arith))
          ∙ place_keep d f (suc k) k (omega arith)

-- Two passes at once over a block. From the highest number down each gets its value after both, from three numbers that are still as they were; the
-- lowest index, which only the first pass reaches, is done by a single pass over the part below.
use Rattle.std.proofs.Common.{◌≡◌, ℕ, suc, ◌+◌, ◌-◌, ◌*◌, ◌^◌, ◌<◌, ◌≤◌, List, length, set, sym, refl, ap, ◌∙◌, ap₂, le_refl, lt_of_lt_of_le, lt_irrefl, zero-add, arith, length-set}
use Rattle.std.proofs.Math.Nat.{sub-zero}
use Rattle.std.proofs.Math.Decide.{dec_le}
use Rattle.meaning.specs.Tables.{at}
use Rattle.meaning.specs.Differences.{minus}
use Rattle.theory.specs.Parts.{part, put, length_part, at_part, length-put, at-put-within, at-put-after}
use Rattle.lines.specs.FlatTables.{lined}
use Rattle.lines.specs.InPlace.{Parted, parted_of_low, parted_down, differenced, lined-differenced, lined-kept, NewtonPassed, PassDone}

-- place i of the lines f after q passes
abbrev after : ℕ → ℕ → ℕ → (ℕ → ℕ) → ℕ → ℕ
after s q d f = lined (differenced (2 ^ 64) q) s d f

-- one number after two passes, by three numbers before them
two_after : (s q d : ℕ) (f : ℕ → ℕ) (i : ℕ) → 0 < s → s * suc (suc q) ≤ i →
    after s (suc (suc q)) d f i
    ≡ minus (2 ^ 64) (minus (2 ^ 64) (after s q d f i) (after s q d f (i - s))) (minus (2 ^ 64) (after s q d f (i - s)) (after s q d f (i - (s + s))))
two_after s q d f i pos h =
    one (suc q) i (omega arith)
    ∙ ap₂ (minus (2 ^ 64)) (one q i (omega arith)) (one q (i - s) (omega arith) ∙ ap (λ (j : ℕ). minus (2 ^ 64) (after s q d f (i - s)) (after s q d f j)) back)
  where
    back : i - s - s ≡ i - (s + s)
    back = omega arith

    one : (q i : ℕ) → s * suc q ≤ i → after s (suc q) d f i ≡ minus (2 ^ 64) (after s q d f i) (after s q d f (i - s))
    one q i l =
        let up : i - s + s ≡ i = omega arith in
        rw up at (lined-differenced (2 ^ 64) s q d f (i - s) pos (omega arith))

-- two passes, the second of which ends at place `end`, have come down to place i
pub record PairPassing (stride end : ℕ) (t₀ t : List ℕ) (i : ℕ) : Type 0 where
  pub same : length t ≡ length t₀
  pub within : i ≤ length t
  pub above : end ≤ i
  pub passing : (d p : ℕ) (f : ℕ → ℕ) → end ≡ stride * suc (suc p) → NewtonPassed (2 ^ 64) stride d f (length t₀) p t₀
      → Parted (after stride p d f) (after stride (suc (suc p)) d f) (length t₀) i t

module _ (stride end : ℕ) (t₀ : List ℕ) where
  pub pair_start : end ≤ length t₀ → PairPassing stride end t₀ t₀ (length t₀)
  pair_start h =
      record {
        same = refl;
        within = le_refl (length t₀);
        above = h;
        passing = λ d p f e r. parted_of_low (length t₀) r.shows (λ j l q. absurd (lt_irrefl _ (lt_of_lt_of_le q l)));
      }

  module _ (t : List ℕ) (i : ℕ) (r : PairPassing stride end t₀ t i) (pos : 0 < stride) where
    pub pair_step : (v : ℕ) → end < i
        → v ≡ minus (2 ^ 64) (minus (2 ^ 64) (at t (i - 1)) (at t (i - 1 - stride))) (minus (2 ^ 64) (at t (i - 1 - stride)) (at t (i - 1 - (stride + stride))))
        → PairPassing stride end t₀ (set t (i - 1) v) (i - 1)
    pair_step v h e =
        record {
          same = length-set t (i - 1) v ∙ r.same;
          within = simp length-set (omega (arith, r.within));
          above = omega arith;
          passing =
              λ d p f k s.
              let here : i ≡ suc (i - 1) = omega arith in
              let low : stride * suc (suc p) ≤ i - 1 = omega (arith, k) in
              let read : (j : ℕ) → j ≤ i - 1 → at t j ≡ after stride p d f j =
              λ j l. (r.passing d p f k s).below j (omega arith) (omega (arith, r.within, r.same)) in
              parted_down (rw here at (r.passing d p f k s)) v
              (e
              ∙ ap₂ (minus (2 ^ 64)) (ap₂ (minus (2 ^ 64)) (read (i - 1) (omega arith)) (read (i - 1 - stride) (omega arith)))
              (ap₂ (minus (2 ^ 64)) (read (i - 1 - stride) (omega arith)) (read (i - 1 - (stride + stride)) (omega arith)))
              ∙ sym (two_after stride p d f (i - 1) pos low));
        }

    fits : end ≤ length t
    fits = omega (arith, r.above, r.within)

    -- with the lowest index one pass further
    pub pair_done : (low : ℕ) → end ≡ low + stride → i ≤ end → (ys : List ℕ) → length ys ≡ length (part 0 end t)
        → PassDone stride low (part 0 end t) ys → (d p : ℕ) (f : ℕ → ℕ) → low ≡ stride * suc p
        → NewtonPassed (2 ^ 64) stride d f (length t₀) p t₀ → NewtonPassed (2 ^ 64) stride d f (length t₀) (suc (suc p)) (put 0 end t ys)
    pair_done low e h ys long done d p f k s =
        record {
          shows = record {
            same = length-put 0 end t fits (omega arith) ys (long ∙ length_part 0 end t fits) ∙ r.same;
            entry = λ j q. go j q (dec_le end j);
          };
        }
      where
        top : end ≡ stride * suc (suc p)
        top = omega (arith, e, k)

        q : Parted (after stride p d f) (after stride (suc (suc p)) d f) (length t₀) i t
        q = r.passing d p f top s

        size : length (part 0 end t) ≡ end
        size = length_part 0 end t fits ∙ sub-zero end

        count : length ys ≡ end - 0
        count = long ∙ length_part 0 end t fits

        before : NewtonPassed (2 ^ 64) stride d f (length (part 0 end t)) p (part 0 end t)
        before =
            record {
              shows = record {
                same = refl;
                entry = λ j l.
                    let l' : j < end - 0 = omega (arith, l, size) in
                    at_part 0 end t fits j l' ∙ ap (at t) (zero-add j) ∙ q.below j (omega (arith, r.above)) (omega (arith, fits, r.same));
              };
            }

        single : NewtonPassed (2 ^ 64) stride d f (length (part 0 end t)) (suc p) ys
        single = done d p f k before

        go : (j : ℕ) → j < length t₀ → Dec (end ≤ j) → at (put 0 end t ys) j ≡ after stride (suc (suc p)) d f j
        go j l (yes g) = at-put-after 0 end t fits (omega arith) ys count j g ∙ q.above j (omega (arith, h)) l
        go j l (no g) =
            let g' : j < length (part 0 end t) = rw size (omega arith) in
            ap (at (put 0 end t ys)) (sym (zero-add j))
            ∙ at-put-within 0 end t fits (omega arith) ys count j (omega arith)
            ∙ single.shows.entry j g'
            ∙ sym (lined-kept (2 ^ 64) stride (suc p) d f j pos (omega (arith, top)))

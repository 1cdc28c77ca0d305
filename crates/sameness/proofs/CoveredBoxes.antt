-- Which walks are needed. Once every cell of the first form is matched, a cell of the second that has a partner there is matched too, since its test is the
-- partner's test; so a second form whose box lies within the first one's need not be walked. With equal support and degrees every cell's partner is the
-- cell of the same number.
use Rattle.std.specs.Prelude.{◌≡◌, true, ◌&&◌, ℕ, ◌-◌, ◌%◌, ◌^◌, ◌<◌, List, eqb, length}
use Rattle.std.proofs.Common.{sym, ap, ap₂, subst, ◌∙◌, le_trans}
use Rattle.std.proofs.Math.Bool.{and_self}
use Rattle.std.proofs.Math.Decide.{ℕ_discrete}
use borrow.Author.Tests.{eq-eqb, ne_eqb}
use Rattle.meaning.specs.Tables.{at}
use Rattle.meaning.specs.Boxes.{cells, digits, cell, Within, none, next}
use Rattle.meaning.specs.Values.{bound}
use Rattle.meaning.specs.Recovery.{every}
use Rattle.meaning.specs.Sameness.{scattered, picked, within, coefficient_at, matched}
use Rattle.theory.specs.Congruence.{Cong, cong_of_eq, cong_trans}
use Rattle.theory.specs.Every.{true-iff, every-iff, every_cong}
use Rattle.theory.specs.Boxes.{digits-within, length_digits}
use Rattle.theory.specs.Scattered.{Places, within-iff, length-scattered, weight-scattered}
use Rattle.theory.specs.SpreadBoxes.{coefficient_at-cell, coefficient_at_inside, inside_cell, inside_lt}
use Rattle.theory.specs.SameForms.{form, matched-iff}
use Rattle.sameness.proofs.PlaceLaws.{within-scattered}

within_trans : {ls ds es : List ℕ} → Within ls ds → Within ds es → Within ls es
within_trans none none = none
within_trans (next p v) (next q w) = next (le_trans q p) (within_trans v w)

module _ (n w : ℕ) (ps ds c qs fs d : List ℕ) (places : Places n ps) (sized : length ds ≡ length ps)
    (places' : Places n qs) (sized' : length fs ≡ length qs) where
  -- the exponents over all variables of the second form's cells, and their bounds
  E : ℕ → List ℕ
  E k = scattered n qs (digits fs k)

  H : ℕ → ℕ
  H k = bound w (digits fs k)

  bound-scattered : (k : ℕ) → bound w (E k) ≡ H k
  unfolding bound E H
  bound-scattered k = ap (λ (q : ℕ). 2 ^ (w - q)) (weight-scattered (digits fs k) places' (length_digits fs k ∙ sized'))

  -- a cell with a partner is matched
  with_partner : matched (form n w ps ds c) (form n w qs fs d) ≡ true → (k : ℕ) → k < cells fs → Within (scattered n ps ds) (E k)
      → at d k % H k ≡ coefficient_at n ps ds c (E k) % H k
  unfolding E
  with_partner h k p r =
      let i : ℕ = cell ds (picked ps (E k)) in
      let m = (matched-iff n w ps ds c qs fs d places sized).0 ((true-iff _).0 h) i (inside_lt n ps ds c places sized (E k) r) in
      let s : Cong (bound w (E k)) (at c i) (coefficient_at n qs fs d (E k)) =
      subst (λ (gs : List ℕ). Cong (bound w gs) (at c i) (coefficient_at n qs fs d gs)) (inside_cell n ps ds c places sized (E k) r) m
      in
      let e : Cong (H k) (at c i) (at d k) =
      subst (λ (q : ℕ). Cong q (at c i) (at d k)) (bound-scattered k) (cong_trans s (cong_of_eq _ (coefficient_at-cell n qs fs d places' sized' k p)))
      in
      sym e.same ∙ ap (◌% H k) (sym (coefficient_at_inside n ps ds c (E k) r))

  -- where the second form's box lies within the first one's, every cell has a partner
  pub matched_covered : within (picked qs (scattered n ps ds)) fs ≡ true → matched (form n w ps ds c) (form n w qs fs d) ≡ true
      → matched (form n w qs fs d) (form n w ps ds c) ≡ true
  unfolding matched E H
  matched_covered v h =
      (true-iff _).1 ((every-iff (cells fs) _).1 (λ k p. (true-iff _).0 (eq-eqb _ _ (with_partner h k p (inside k)))))
    where
      ls : List ℕ
      ls = picked qs (scattered n ps ds)

      inside : (k : ℕ) → Within (scattered n ps ds) (E k)
      inside k =
          (within-iff (scattered n ps ds) (E k)).0
          ((true-iff _).0
          (within-scattered (scattered n ps ds) (digits fs k) places' (length-scattered n ps ds) (length_digits fs k ∙ sized')
          ∙ (true-iff _).1 ((within-iff ls (digits fs k)).1 (within_trans ((within-iff ls fs).0 ((true-iff _).0 v)) (digits-within fs k)))))

-- ---- equal settings

-- each cell's partner is the cell of the same number
matched_straight : (n w : ℕ) (ps ds c d : List ℕ) → Places n ps → length ds ≡ length ps
    → matched (form n w ps ds c) (form n w ps ds d) ≡ every (cells ds) (λ k. eqb (at c k % bound w (digits ds k)) (at d k % bound w (digits ds k)))
unfolding matched
matched_straight n w ps ds c d places sized =
    every_cong (cells ds) (λ k p. ap (λ (x : ℕ). eqb (at c k % bound w (digits ds k)) (x % bound w (digits ds k)))
    (coefficient_at-cell n ps ds d places sized k p))

eqb_turned : (a b : ℕ) → eqb a b ≡ eqb b a
eqb_turned a b = go (ℕ_discrete a b)
  where
    go : Dec (a ≡ b) → eqb a b ≡ eqb b a
    go (yes e) = eq-eqb a b e ∙ sym (eq-eqb b a (sym e))
    go (no h) = ne_eqb a b h ∙ sym (ne_eqb b a (λ e. h (sym e)))

-- so one comparison serves both ways
pub both_straight : (n w : ℕ) (ps ds c d : List ℕ) → Places n ps → length ds ≡ length ps
    → every (cells ds) (λ k. eqb (at c k % bound w (digits ds k)) (at d k % bound w (digits ds k)))
    ≡ (matched (form n w ps ds c) (form n w ps ds d) && matched (form n w ps ds d) (form n w ps ds c))
both_straight n w ps ds c d places sized =
    sym (and_self _)
    ∙ ap₂ ◌&&◌ (sym (matched_straight n w ps ds c d places sized))
    (every_cong (cells ds) (λ k p. eqb_turned (at c k % bound w (digits ds k)) (at d k % bound w (digits ds k)))
    ∙ sym (matched_straight n w ps ds d c places sized))

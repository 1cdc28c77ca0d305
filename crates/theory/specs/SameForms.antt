-- The test of sameness is right: for forms with distinct support indices below the total and a degree for each it says yes exactly when the forms are the
-- same, normal or not, with supports in any order and any degrees. The test is `Matches` both ways (the bound of a cell is that of its exponents over all variables), and SpreadBoxes says that
-- this is equality of the values at all natural points, which stand for the whole-number points by their residues.
use Rattle.std.specs.Prelude.{◌≡◌, ◌↔◌, true, T, ℤ, pos, length, get_or, refl, ◌&&◌, ℕ, zero, suc, ◌-◌, ◌%◌, ◌^◌, List, [], ◌∷◌, map, eqb}
use Rattle.std.proofs.Common.{ap, ap₂, subst, sym, ◌∙◌, eq-eqb, pow_pos, eqb→eq}
use Rattle.std.proofs.Math.Nat.{zero-mod}
use Rattle.std.proofs.lemmas.List.{length-map}
use Rattle.std.proofs.Math.ListN.{get_or-map}
use Rattle.meaning.specs.Tables.{at}
use Rattle.meaning.specs.Boxes.{cells, digits}
use Rattle.meaning.specs.Values.{value, weight, bound}
use Rattle.meaning.specs.Integers.{residue}
use Rattle.meaning.specs.Sameness.{Form, coordinates, form_value, Same, scattered, picked, coefficient_at, matched, same_forms}
use Rattle.theory.specs.Congruence.{Cong, cong_refl}
use Rattle.theory.specs.Every.{true-iff, and_iff, every-iff}
use Rattle.theory.specs.Boxes.{length_digits}
use Rattle.theory.specs.Widths.{width_cell}
use Rattle.theory.specs.Values.{value_cong_point}
use Rattle.theory.specs.Integers.{residue-box_at}
use Rattle.theory.specs.WholeNumbers.{residue-coordinates}
use Rattle.theory.specs.Scattered.{Places, weight-scattered}
use Rattle.theory.specs.SpreadBoxes.{Matches, values_of_matches, matches_of_values}

-- ---- points

module _ (m : ℕ) where
  -- the residues of the coordinates of the support
  pub residue_coordinate : (ps : List ℕ) (zs : List ℤ) → map (residue m) (coordinates ps zs) ≡ picked ps (map (residue m) zs)
  unfolding residue
  residue_coordinate [] zs = refl
  residue_coordinate (p ∷ ps) zs =
      ap₂ ◌∷◌ (sym (get_or-map (residue m) zs p (pos 0)) ∙ ap (get_or (map (residue m) zs) p) (zero-mod m)) (residue_coordinate ps zs)

  picked_cong : (ps xs ys : List ℕ) → ((i : ℕ) → Cong m (at xs i) (at ys i)) → (i : ℕ) → Cong m (at (picked ps xs) i) (at (picked ps ys) i)
  picked_cong [] xs ys h i = cong_refl 0
  picked_cong (p ∷ ps) xs ys h zero = h p
  picked_cong (p ∷ ps) xs ys h (suc i) = picked_cong ps xs ys h i

-- the value of a form is that of its box at the residues
pub form_value-eq : (f : Form) (zs : List ℤ)
    → form_value f zs ≡ value (2 ^ f.width) f.degrees f.coefficients (picked f.support (map (residue (2 ^ f.width)) zs))
form_value-eq f zs =
    residue-box_at (pow_pos f.width) f.degrees f.coefficients (coordinates f.support zs)
    ∙ ap (value (2 ^ f.width) f.degrees f.coefficients) (residue_coordinate (2 ^ f.width) f.support zs)

-- also at natural points
pub form_value_natural : (f : Form) (xs : List ℕ)
    → form_value f (map pos xs) ≡ value (2 ^ f.width) f.degrees f.coefficients (picked f.support xs)
form_value_natural f xs =
    form_value-eq f (map pos xs)
    ∙ value_cong_point (2 ^ f.width) f.degrees f.coefficients _ (picked f.support xs)
    (λ i p. picked_cong (2 ^ f.width) f.support (map (residue (2 ^ f.width)) (map pos xs)) xs (residue-coordinates (pow_pos f.width) xs) i)

-- ---- forms with one total and one width

-- a form by its parts
abbrev pub form : ℕ → ℕ → List ℕ → List ℕ → List ℕ → Form
form n w ps ds c = record { total = n; width = w; support = ps; degrees = ds; coefficients = c }

module _ (n w : ℕ) where
  -- the test of the cells, in the words of SpreadBoxes
  pub matched-iff : (ps ds c qs fs d : List ℕ) → Places n ps → length ds ≡ length ps
      → T (matched (form n w ps ds c) (form n w qs fs d)) ↔ Matches (width_cell w) n ps ds c (coefficient_at n qs fs d)
  unfolding matched bound
  matched-iff ps ds c qs fs d places sized =
      let all = every-iff (cells ds) (λ k. eqb (at c k % h k) (B k % h k)) in (
        λ t k p. record { same = subst (λ (q : ℕ). at c k % 2 ^ (w - q) ≡ B k % 2 ^ (w - q)) (sym (weights k)) (eqb→eq _ _ (all.0 t k p)) },
        λ s. all.1 (λ k p.
            (true-iff _).0 (eq-eqb (at c k % h k) (B k % h k) (subst (λ (q : ℕ). at c k % 2 ^ (w - q) ≡ B k % 2 ^ (w - q)) (weights k) (s k p).same))),
      )
    where
      h : ℕ → ℕ
      h k = bound w (digits ds k)

      B : ℕ → ℕ
      B k = coefficient_at n qs fs d (scattered n ps (digits ds k))

      weights : (k : ℕ) → weight (scattered n ps (digits ds k)) ≡ weight (digits ds k)
      weights k = weight-scattered (digits ds k) places (length_digits ds k ∙ sized)

  -- both tests hold exactly when the values are equal everywhere
  both-matched-iff : (ps ds c qs fs d : List ℕ) → Places n ps → length ds ≡ length ps → Places n qs → length fs ≡ length qs
      → (T (matched (form n w ps ds c) (form n w qs fs d)) × T (matched (form n w qs fs d) (form n w ps ds c)))
      ↔ ((zs : List ℤ) → length zs ≡ n → form_value (form n w ps ds c) zs ≡ form_value (form n w qs fs d) zs)
  both-matched-iff ps ds c qs fs d places sized places' sized' = (
    λ t zs l.
        form_value-eq f zs
        ∙ values_of_matches (pow_pos w) (width_cell w) n ps ds c qs fs d places sized places' sized' (there.0 t.0) (back.0 t.1) (map (residue (2 ^ w)) zs)
        ∙ sym (form_value-eq g zs),
    λ v.
        let s = matches_of_values (pow_pos w) (width_cell w) n ps ds c qs fs d places sized places' sized' (λ xs l.
        sym (form_value_natural f xs) ∙ v (map pos xs) (length-map xs pos ∙ l) ∙ form_value_natural g xs) in
        (there.1 s.0, back.1 s.1),
  )
    where
      f : Form
      f = form n w ps ds c

      g : Form
      g = form n w qs fs d

      there : T (matched f g) ↔ Matches (width_cell w) n ps ds c (coefficient_at n qs fs d)
      there = matched-iff ps ds c qs fs d places sized

      back : T (matched g f) ↔ Matches (width_cell w) n qs fs d (coefficient_at n ps ds c)
      back = matched-iff qs fs d ps ds c places' sized'

-- ---- the theorem

-- the support has distinct indices below the total, and a degree for each
pub record Placed (f : Form) : Type 0 where
  pub places : Places f.total f.support
  pub each : length f.degrees ≡ length f.support

module _ (f g : Form) (placed : Placed f) (placed' : Placed g) where
  -- for equal totals and widths
  matched_same : f.total ≡ g.total → f.width ≡ g.width
      → (T (matched f g) × T (matched g f)) ↔ ((zs : List ℤ) → length zs ≡ f.total → form_value f zs ≡ form_value g zs)
  matched_same e q =
      subst (λ (h : Form). (T (matched f h) × T (matched h f)) ↔ ((zs : List ℤ) → length zs ≡ f.total → form_value f zs ≡ form_value h zs))
      (ap₂ (λ (n w : ℕ). form n w g.support g.degrees g.coefficients) e q)
      (both-matched-iff f.total f.width f.support f.degrees f.coefficients g.support g.degrees g.coefficients
      placed.places placed.each (subst (λ (n : ℕ). Places n g.support) (sym e) placed'.places) placed'.each)

  -- the test says yes exactly when the forms are the same
  pub same_forms-iff : (same_forms f g ≡ true) ↔ Same f g
  unfolding same_forms
  same_forms-iff = (
    λ t.
        let a = (and_iff (eqb f.total g.total && eqb f.width g.width && matched f g) (matched g f)).0 ((true-iff _).0 t) in
        let b = (and_iff (eqb f.total g.total && eqb f.width g.width) (matched f g)).0 a.0 in
        let c = (and_iff (eqb f.total g.total) (eqb f.width g.width)).0 b.0 in
        let e = eqb→eq f.total g.total c.0 in
        let q = eqb→eq f.width g.width c.1 in
        record { totals = e; widths = q; values = (matched_same e q).0 (b.1, a.1) },
    λ s.
        let m = (matched_same s.totals s.widths).1 s.values in
        ap₂ ◌&&◌ (ap₂ ◌&&◌ (ap₂ ◌&&◌ (eq-eqb _ _ s.totals) (eq-eqb _ _ s.widths)) ((true-iff _).1 m.0)) ((true-iff _).1 m.1),
  )

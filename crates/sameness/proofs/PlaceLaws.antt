-- The test of the cells is the test of a walk: the coefficient that the other form has of a cell's exponents stands at the place where the walk looks.
-- The place is the sum of exponent times stride, over all variables as over the support of either form (`dot-scattered`); each law is an induction over the
-- support by the law of one variable.
use Rattle.std.specs.Prelude.{◌≡◌, refl, Bool, true, false, ◌&&◌, cond, ℕ, zero, suc, ◌+◌, ◌*◌, ◌%◌, ◌≤◌, ◌<◌, List, [], ◌∷◌, T, leb, eqb, length, set, replicate}
use Rattle.std.proofs.Common.{sym, ap, ap₂, subst, ◌∙◌, zero-le, not-suc-le-zero, le_of_suc-le-suc, suc-ne-zero, mul-one, zero-add, arith}
use Rattle.std.proofs.Math.Bool.{and_assoc, and_comm}
use Rattle.std.proofs.Math.Nat.{suc_inj}
use Rattle.std.proofs.Math.ListN.{length-map, get_or-eq_default}
use borrow.Author.Tests.{le-leb}
use Rattle.meaning.specs.Tables.{at}
use Rattle.meaning.specs.Boxes.{cells, digits, cell}
use Rattle.meaning.specs.Values.{bound}
use Rattle.meaning.specs.Recovery.{every}
use Rattle.meaning.specs.Sameness.{scattered, picked, within, coefficient_at, matched}
use Rattle.theory.specs.Boxes.{length_digits}
use Rattle.theory.specs.Every.{every_cong}
use Rattle.theory.specs.Scattered.{Places, empty, more, length-scattered, at-scattered_absent}
use Rattle.theory.specs.SameForms.{form}
use Rattle.sameness.specs.Places.{far, place_of, is_match, strides}

-- the sum of the products of two lists' entries
unfoldable pub dot : List ℕ → List ℕ → ℕ
dot [] es = 0
dot (s ∷ ss) [] = 0
dot (s ∷ ss) (e ∷ es) = s * e + dot ss es

-- ---- one place

dot_comm : (xs ys : List ℕ) → dot xs ys ≡ dot ys xs
unfolding dot
dot_comm [] [] = refl
dot_comm [] (y ∷ ys) = refl
dot_comm (x ∷ xs) [] = refl
dot_comm (x ∷ xs) (y ∷ ys) = omega (arith, dot_comm xs ys)

dot-set : (xs es : List ℕ) (p e : ℕ) → p < length es → at es p ≡ 0 → dot xs (set es p e) ≡ at xs p * e + dot xs es
unfolding dot
dot-set xs [] p e l z = absurd (not-suc-le-zero l)
dot-set [] (c ∷ es) p e l z = omega arith
dot-set (x ∷ xs) (c ∷ es) zero e l z = rw z (omega arith)
dot-set (x ∷ xs) (c ∷ es) (suc p) e l z = omega (arith, dot-set xs es p e (le_of_suc-le-suc l) z)

dot-zeros : (xs : List ℕ) (n : ℕ) → dot xs (replicate n 0) ≡ 0
unfolding dot
dot-zeros [] n = refl
dot-zeros (x ∷ xs) zero = refl
dot-zeros (x ∷ xs) (suc n) = omega (arith, dot-zeros xs n)

within-test-set : (ds es : List ℕ) (p e : ℕ) → length ds ≡ length es → p < length es → at es p ≡ 0
    → within ds (set es p e) ≡ (leb e (at ds p) && within ds es)
unfolding within
within-test-set ds [] p e k l z = absurd (not-suc-le-zero l)
within-test-set [] (c ∷ es) p e k l z = absurd (suc-ne-zero (length es) (sym k))
within-test-set (d ∷ ds) (c ∷ es) zero e k l z =
    ap (λ (b : Bool). leb e d && (b && within ds es)) (sym (ap (λ (x : ℕ). leb x d) z ∙ le-leb 0 d zero-le))
within-test-set (d ∷ ds) (c ∷ es) (suc p) e k l z =
    ap (leb c d &&◌) (within-test-set ds es p e (suc_inj k) (le_of_suc-le-suc l) z)
    ∙ sym (and_assoc (leb c d) (leb e (at ds p)) (within ds es))
    ∙ ap (◌&& within ds es) (and_comm (leb c d) (leb e (at ds p)))
    ∙ and_assoc (leb e (at ds p)) (leb c d) (within ds es)

within-test-zeros : (ds : List ℕ) (n : ℕ) → length ds ≡ n → within ds (replicate n 0) ≡ true
unfolding within
within-test-zeros [] zero k = refl
within-test-zeros [] (suc n) k = absurd (suc-ne-zero n (sym k))
within-test-zeros (d ∷ ds) zero k = absurd (suc-ne-zero (length ds) k)
within-test-zeros (d ∷ ds) (suc n) k = ap₂ ◌&&◌ (le-leb 0 d zero-le) (within-test-zeros ds n (suc_inj k))

-- ---- all places

module _ {n : ℕ} where
  place-lt : (ps es : List ℕ) {p : ℕ} → p < n → p < length (scattered n ps es)
  place-lt ps es {p} h = subst (λ (k : ℕ). p < k) (sym (length-scattered n ps es)) h

  dot-scattered : {ps : List ℕ} (xs es : List ℕ) → Places n ps → length es ≡ length ps → dot xs (scattered n ps es) ≡ dot (picked ps xs) es
  unfolding dot scattered
  dot-scattered xs [] empty l = dot-zeros xs n
  dot-scattered xs (e ∷ es) empty l = absurd (suc-ne-zero (length es) l)
  dot-scattered xs [] (more {ps = ps} h a r) l = absurd (suc-ne-zero (length ps) (sym l))
  dot-scattered xs (e ∷ es) (more {p} {ps} h a r) l =
      dot-set xs (scattered n ps es) p e (place-lt ps es h) (at-scattered_absent n ps es p a) ∙ ap (at xs p * e +◌) (dot-scattered xs es r (suc_inj l))

  pub within-scattered : {ps : List ℕ} (ds es : List ℕ) → Places n ps → length ds ≡ n → length es ≡ length ps
      → within ds (scattered n ps es) ≡ within (picked ps ds) es
  unfolding within scattered
  within-scattered ds [] empty k l = within-test-zeros ds n k
  within-scattered ds (e ∷ es) empty k l = absurd (suc-ne-zero (length es) l)
  within-scattered ds [] (more {ps = ps} h a r) k l = absurd (suc-ne-zero (length ps) (sym l))
  within-scattered ds (e ∷ es) (more {p} {ps} h a r) k l =
      within-test-set ds (scattered n ps es) p e (k ∙ sym (length-scattered n ps es)) (place-lt ps es h) (at-scattered_absent n ps es p a)
      ∙ ap (leb e (at ds p) &&◌) (within-scattered ds es r k (suc_inj l))

length-strides : (s : ℕ) (ds : List ℕ) → length (strides s ds) ≡ length ds
unfolding strides
length-strides s [] = refl
length-strides s (d ∷ ds) = ap suc (length-strides (s * suc d) ds)

-- a cell number is the sum of exponent times stride
cell-eq-dot : (s : ℕ) (ds es : List ℕ) → length es ≡ length ds → cell ds es * s ≡ dot (strides s ds) es
unfolding cell dot strides
cell-eq-dot s [] es l = omega arith
cell-eq-dot s (d ∷ ds) [] l = absurd (suc-ne-zero (length ds) (sym l))
cell-eq-dot s (d ∷ ds) (e ∷ es) l = omega (arith, cell-eq-dot (s * suc d) ds es (suc_inj l))

-- ---- places

-- exponents within their limits lead to the sum of exponent times step
place_of_inside : (ls ss es : List ℕ) → length ss ≡ length ls → within ls es ≡ true → place_of ls ss es ≡ dot ss es
unfolding place_of dot within
place_of_inside [] [] es k h = refl
place_of_inside [] (s ∷ ss) es k h = absurd (suc-ne-zero (length ss) k)
place_of_inside (l ∷ ls) [] es k h = refl
place_of_inside (l ∷ ls) (s ∷ ss) [] k h = refl
place_of_inside (l ∷ ls) (s ∷ ss) (e ∷ es) k h = go (leb e l) h (λ r. place_of_inside ls ss es (suc_inj k) r)
  where
    go : (b : Bool) → (b && within ls es) ≡ true → (within ls es ≡ true → place_of ls ss es ≡ dot ss es)
        → cond b (e * s) far + place_of ls ss es ≡ s * e + dot ss es
    go true q rest = omega (arith, rest q)
    go false q rest = absurd (subst T (sym q) tt)

-- others lead far
place_of_outside : (ls ss es : List ℕ) → length ss ≡ length ls → length es ≡ length ls → within ls es ≡ false → far ≤ place_of ls ss es
unfolding place_of within
place_of_outside [] ss [] k l h = absurd (subst T h tt)
place_of_outside [] ss (e ∷ es) k l h = absurd (suc-ne-zero (length es) l)
place_of_outside (x ∷ ls) [] es k l h = absurd (suc-ne-zero (length ls) (sym k))
place_of_outside (x ∷ ls) (s ∷ ss) [] k l h = absurd (suc-ne-zero (length ls) (sym l))
place_of_outside (x ∷ ls) (s ∷ ss) (e ∷ es) k l h = go (leb e x) h (λ r. place_of_outside ls ss es (suc_inj k) (suc_inj l) r)
  where
    go : (b : Bool) → (b && within ls es) ≡ false → (within ls es ≡ false → far ≤ place_of ls ss es) → far ≤ cond b (e * s) far + place_of ls ss es
    go true q rest = omega (arith, rest q)
    go false q rest = omega arith

-- so a table has at the place its entry, and 0 where an exponent is above its limit
at_place : (ls ss other es : List ℕ) → length ss ≡ length ls → length es ≡ length ls → length other ≤ far
    → cond (within ls es) (at other (dot ss es)) 0 ≡ at other (0 + place_of ls ss es)
at_place ls ss other es k l h = go (within ls es) refl
  where
    go : (b : Bool) → within ls es ≡ b → cond (within ls es) (at other (dot ss es)) 0 ≡ at other (0 + place_of ls ss es)
    go true q =
        ap (λ (b : Bool). cond b (at other (dot ss es)) 0) q
        ∙ ap (at other) (sym (place_of_inside ls ss es k q) ∙ sym (zero-add (place_of ls ss es)))
    go false q =
        ap (λ (b : Bool). cond b (at other (dot ss es)) 0) q
        ∙ sym (get_or-eq_default other 0 (omega (arith, h, place_of_outside ls ss es k l q)))

-- ---- the walk

module _ (n : ℕ) (ps qs fs d : List ℕ) (places : Places n ps) (places' : Places n qs) (sized' : length fs ≡ length qs) (small : length d ≤ far) where
  abbrev limits : List ℕ
  limits = picked ps (scattered n qs fs)

  abbrev steps : List ℕ
  steps = picked ps (scattered n qs (strides 1 fs))

  -- what the walk finds is the coefficient of the other form
  coefficient_at-place : (es : List ℕ) → length es ≡ length ps → coefficient_at n qs fs d (scattered n ps es) ≡ at d (0 + place_of limits steps es)
  unfolding coefficient_at
  coefficient_at-place es l =
      ap₂ (λ (b : Bool) (k : ℕ). cond b (at d k) 0) (within-scattered (scattered n qs fs) es places (length-scattered n qs fs) l) found
      ∙ at_place limits steps d es (length-map ps _ ∙ sym (length-map ps _)) (l ∙ sym (length-map ps _)) small
    where
      E : List ℕ
      E = scattered n ps es

      found : cell fs (picked qs E) ≡ dot steps es
      found =
          sym (mul-one (cell fs (picked qs E)))
          ∙ cell-eq-dot 1 fs (picked qs E) (length-map qs (at E) ∙ sym sized')
          ∙ dot_comm (strides 1 fs) (picked qs E)
          ∙ sym (dot-scattered E (strides 1 fs) places' (length-strides 1 fs ∙ sized'))
          ∙ dot_comm E (scattered n qs (strides 1 fs))
          ∙ dot-scattered (scattered n qs (strides 1 fs)) es places l

  -- so the test of the cells is the test of the walk
  pub matched_walk : (w : ℕ) (ds c : List ℕ) → length ds ≡ length ps
      → matched (form n w ps ds c) (form n w qs fs d) ≡ every (cells ds) (is_match w ds c limits steps d 0)
  unfolding matched
  matched_walk w ds c sized =
      every_cong (cells ds) (λ k p. ap (λ (x : ℕ). eqb (at c k % bound w (digits ds k)) (x % bound w (digits ds k)))
      (coefficient_at-place (digits ds k) (length_digits ds k ∙ sized)))

-- Lists scattered over distinct places and picked from them. `scattered n ps es` sets the entries of es one by one into n zeros, so that every law is an
-- induction over the places by one law of `set`: a 0 at a new place is replaced by e.
-- The lists within a scattered degree list are the lists scattered from those within the degree list (`scattered-within`, `picked-within`,
-- `scattered-picked`, `picked-scattered`), a product over all variables is the product over the places, and the twos in the factorials are the same.
use Rattle.std.specs.Prelude.{◌≡◌, ◌↔◌, T, leb, length, drop, refl, ℕ, zero, suc, ◌+◌, ◌*◌, ◌≤◌, ◌<◌, List, [], ◌∷◌, set, replicate}
use Rattle.std.proofs.Common.{ap, ap₂, sym, subst, ◌∙◌, zero-lt-suc, not-suc-le-zero, le_of_suc-le-suc, suc-ne-zero, le_refl, leb→le, le→leb, length-set, get_or-set_same, get_or-set_other, zero-le, suc-le-suc, arith, set-set}
use Rattle.std.proofs.Math.Nat.{suc_inj}
use Rattle.std.proofs.lemmas.List.{length-replicate}
use Rattle.std.proofs.Math.Seq.{set-get_or}
use Rattle.meaning.specs.Tables.{at}
use Rattle.meaning.specs.Factorials.{factorial, twos, twos_of}
use Rattle.meaning.specs.Boxes.{Within, none, next}
use Rattle.meaning.specs.Values.{product, weight}
use Rattle.theory.specs.Every.{and_iff}
use Rattle.theory.specs.Tables.{at-zeros}
use Rattle.theory.specs.Boxes.{length-within, within-at}
use Rattle.meaning.specs.Sameness.{scattered, picked, within}

-- p is not among the places
abbrev pub Absent : ℕ → List ℕ → Type 0
Absent p ps = (i : ℕ) → i < length ps → at ps i ≡ p → ⊥

-- distinct places below n
pub data Places (n : ℕ) : List ℕ → Type 0 where
  empty : Places n []
  more : {p : ℕ} {ps : List ℕ} → p < n → Absent p ps → Places n ps → Places n (p ∷ ps)

pub places_of : (n : ℕ) (ps : List ℕ) → ((i : ℕ) → i < length ps → at ps i < n)
    → ((i j : ℕ) → i < j → j < length ps → at ps i ≡ at ps j → ⊥) → Places n ps
places_of n [] below distinct = empty
places_of n (p ∷ ps) below distinct =
    more (below 0 (zero-lt-suc (length ps))) (λ i h e. distinct 0 (suc i) (zero-lt-suc i) (suc-le-suc h) (sym e))
    (places_of n ps (λ i h. below (suc i) (suc-le-suc h)) (λ i j l h. distinct (suc i) (suc j) (suc-le-suc l) (suc-le-suc h)))

-- the test of a list is that it lies within
pub within-iff : (ds es : List ℕ) → T (within ds es) ↔ Within ds es
unfolding within
within-iff ds es = (there ds es, back)
  where
    there : (ds es : List ℕ) → T (within ds es) → Within ds es
    there [] [] t = none
    there [] (e ∷ es) t = absurd t
    there (d ∷ ds) [] t = absurd t
    there (d ∷ ds) (e ∷ es) t = let b = (and_iff (leb e d) (within ds es)).0 t in next (leb→le e d b.0) (there ds es b.1)

    back : {ds es : List ℕ} → Within ds es → T (within ds es)
    back none = tt
    back (next {d} {e} {ds} {es} p w) = (and_iff (leb e d) (within ds es)).1 (le→leb e d p, back w)

-- ---- one place

-- a degree and an exponent replaced
pub within-set : {ds es : List ℕ} (p d e : ℕ) → e ≤ d → Within ds es → Within (set ds p d) (set es p e)
within-set p d e h none = none
within-set zero d e h (next q w) = next h w
within-set (suc p) d e h (next q w) = next q (within-set p d e h w)

-- an exponent taken away does without its degree
pub within_unset : (ds es : List ℕ) (p d : ℕ) → Within (set ds p d) es → Within ds (set es p 0)
within_unset [] [] p d w = none
within_unset [] (e ∷ es) p d w = absurd (suc-ne-zero (length es) (length-within w))
within_unset (c ∷ ds) [] p d w = absurd (suc-ne-zero (length ds) (sym (length-within w ∙ length-set (c ∷ ds) p d)))
within_unset (c ∷ ds) (e ∷ es) zero d (next q w) = next zero-le w
within_unset (c ∷ ds) (e ∷ es) (suc p) d (next q w) = next q (within_unset ds es p d w)

-- zeros lie within zeros
within-zeros : (n : ℕ) → Within (replicate n 0) (replicate n 0)
within-zeros zero = none
within-zeros (suc n) = next (le_refl 0) (within-zeros n)

-- entries at other places
picked-set : (ps xs : List ℕ) (p e : ℕ) → Absent p ps → picked ps (set xs p e) ≡ picked ps xs
picked-set [] xs p e h = refl
picked-set (q ∷ ps) xs p e h =
    ap₂ ◌∷◌ (get_or-set_other xs p q e 0 (h 0 (zero-lt-suc (length ps)))) (picked-set ps xs p e (λ i l. h (suc i) (suc-le-suc l)))

-- ---- all places

pub length-scattered : (n : ℕ) (ps es : List ℕ) → length (scattered n ps es) ≡ n
unfolding scattered
length-scattered n [] es = length-replicate n 0
length-scattered n (p ∷ ps) [] = length-replicate n 0
length-scattered n (p ∷ ps) (e ∷ es) = length-set (scattered n ps es) p e ∙ length-scattered n ps es

-- 0 at every other place
pub at-scattered_absent : (n : ℕ) (ps es : List ℕ) (i : ℕ) → Absent i ps → at (scattered n ps es) i ≡ 0
unfolding scattered
at-scattered_absent n [] es i h = at-zeros n i
at-scattered_absent n (p ∷ ps) [] i h = at-zeros n i
at-scattered_absent n (p ∷ ps) (e ∷ es) i h =
    get_or-set_other (scattered n ps es) p i e 0 (λ q. h 0 (zero-lt-suc (length ps)) (sym q))
    ∙ at-scattered_absent n ps es i (λ j l. h (suc j) (suc-le-suc l))

-- a list within the box is scattered within the scattered degrees
pub scattered-within : (n : ℕ) (ps : List ℕ) {ds es : List ℕ} → Within ds es → Within (scattered n ps ds) (scattered n ps es)
unfolding scattered
scattered-within n [] w = within-zeros n
scattered-within n (p ∷ ps) none = within-zeros n
scattered-within n (p ∷ ps) (next {d} {e} q w) = within-set p d e q (scattered-within n ps w)

module _ {n : ℕ} where
  at-set-scattered : (ps es : List ℕ) {p : ℕ} (e : ℕ) → p < n → at (set (scattered n ps es) p e) p ≡ e
  at-set-scattered ps es {p} e h =
      get_or-set_same (scattered n ps es) p e 0 (subst (λ (k : ℕ). p < k) (sym (length-scattered n ps es)) h)

  -- what was scattered is picked again
  pub picked-scattered : {ps : List ℕ} (es : List ℕ) → Places n ps → length es ≡ length ps → picked ps (scattered n ps es) ≡ es
  unfolding scattered
  picked-scattered [] empty l = refl
  picked-scattered (e ∷ es) empty l = absurd (suc-ne-zero (length es) l)
  picked-scattered [] (more {ps = ps} h a r) l = absurd (suc-ne-zero (length ps) (sym l))
  picked-scattered (e ∷ es) (more {p} {ps} h a r) l =
      ap₂ ◌∷◌ (at-set-scattered ps es e h) (picked-set ps (scattered n ps es) p e a ∙ picked-scattered es r (suc_inj l))

  -- and a list within the scattered degrees is picked within the box
  pub picked-within : {ps : List ℕ} (ds es : List ℕ) → Places n ps → length ds ≡ length ps → Within (scattered n ps ds) es → Within ds (picked ps es)
  unfolding scattered
  picked-within [] es empty l w = none
  picked-within (d ∷ ds) es empty l w = absurd (suc-ne-zero (length ds) l)
  picked-within [] es (more {ps = ps} h a r) l w = absurd (suc-ne-zero (length ps) (sym l))
  picked-within (d ∷ ds) es (more {p} {ps} h a r) l w =
      next (subst (λ (k : ℕ). at es p ≤ k) (at-set-scattered ps ds d h) (within-at w p))
      (subst (λ (xs : List ℕ). Within ds xs) (picked-set ps es p 0 a)
      (picked-within ds (set es p 0) r (suc_inj l) (within_unset (scattered n ps ds) es p d w)))

  -- from which it is scattered
  pub scattered-picked : {ps : List ℕ} (ds es : List ℕ) → Places n ps → length ds ≡ length ps → Within (scattered n ps ds) es
      → scattered n ps (picked ps es) ≡ es
  unfolding scattered
  scattered-picked [] es empty l w = zeros n es w
    where
      zeros : (n : ℕ) (es : List ℕ) → Within (replicate n 0) es → replicate n 0 ≡ es
      zeros zero [] none = refl
      zeros zero (e ∷ es) w = elim w [ ]
      zeros (suc n) [] w = elim w [ ]
      zeros (suc n) (e ∷ es) (next q w) = ap₂ ◌∷◌ (omega arith) (zeros n es w)
  scattered-picked (d ∷ ds) es empty l w = absurd (suc-ne-zero (length ds) l)
  scattered-picked [] es (more {ps = ps} h a r) l w = absurd (suc-ne-zero (length ps) (sym l))
  scattered-picked (d ∷ ds) es (more {p} {ps} h a r) l w =
      ap (λ (xs : List ℕ). set xs p (at es p))
      (ap (scattered n ps) (sym (picked-set ps es p 0 a))
      ∙ scattered-picked ds (set es p 0) r (suc_inj l) (within_unset (scattered n ps ds) es p d w))
      ∙ set-set es p 0 (at es p)
      ∙ set-get_or es p 0

-- ---- products and weights

module _ (f : ℕ → ℕ → ℕ) (one : (x : ℕ) → f x 0 ≡ 1) where
  -- a 0 replaced by e makes one factor more
  product-set : (n : ℕ) (xs es : List ℕ) (p e : ℕ) → p < n → p < length es → at es p ≡ 0 → product f n xs (set es p e) ≡ f (at xs p) e * product f n xs es
  unfolding product
  product-set zero xs es p e h l z = absurd (not-suc-le-zero h)
  product-set (suc n) xs [] p e h l z = absurd (not-suc-le-zero l)
  product-set (suc n) xs (c ∷ es) zero e h l z =
      let g : f (at xs 0) c ≡ 1 = ap (f (at xs 0)) z ∙ one (at xs 0) in
      rw g (omega arith)
  product-set (suc n) xs (c ∷ es) (suc p) e h l z =
      ap (f (at xs 0) c *◌) (product-set n (drop 1 xs) es p e (le_of_suc-le-suc h) (le_of_suc-le-suc l) z)
      ∙ ap (λ (x : ℕ). f (at xs 0) c * (f x e * product f n (drop 1 xs) es)) (at_drop xs)
      ∙ omega arith
    where
      at_drop : (ys : List ℕ) → at (drop 1 ys) p ≡ at ys (suc p)
      at_drop [] = refl
      at_drop (y ∷ ys) = refl

  product_zeros : (n k : ℕ) (xs : List ℕ) → product f n xs (replicate k 0) ≡ 1
  unfolding product
  product_zeros zero k xs = refl
  product_zeros (suc n) zero xs = ap₂ ◌*◌ (one (at xs 0)) (product_zeros n 0 (drop 1 xs))
  product_zeros (suc n) (suc k) xs = ap₂ ◌*◌ (one (at xs 0)) (product_zeros n k (drop 1 xs))

  -- the product over all variables is the product over the places
  pub product-scattered : {n : ℕ} {ps : List ℕ} (xs es : List ℕ) → Places n ps → length es ≡ length ps
      → product f n xs (scattered n ps es) ≡ product f (length es) (picked ps xs) es
  unfolding product scattered
  product-scattered {n} xs [] empty l = product_zeros n n xs
  product-scattered xs (e ∷ es) empty l = absurd (suc-ne-zero (length es) l)
  product-scattered xs [] (more {ps = ps} h a r) l = absurd (suc-ne-zero (length ps) (sym l))
  product-scattered {n} xs (e ∷ es) (more {p} {ps} h a r) l =
      product-set n xs (scattered n ps es) p e h (subst (λ (k : ℕ). p < k) (sym (length-scattered n ps es)) h) (at-scattered_absent n ps es p a)
      ∙ ap (f (at xs p) e *◌) (product-scattered xs es r (suc_inj l))

weight-set : (es : List ℕ) (p e : ℕ) → p < length es → at es p ≡ 0 → weight (set es p e) ≡ twos (factorial e) + weight es
unfolding weight factorial twos twos_of
weight-set [] p e l z = absurd (not-suc-le-zero l)
weight-set (c ∷ es) zero e l z = let g : twos (factorial c) ≡ 0 = ap (λ (k : ℕ). twos (factorial k)) z in omega arith
weight-set (c ∷ es) (suc p) e l z = omega (arith, weight-set es p e (le_of_suc-le-suc l) z)

weight-zeros : (n : ℕ) → weight (replicate n 0) ≡ 0
unfolding weight factorial twos twos_of
weight-zeros zero = refl
weight-zeros (suc n) = omega (arith, weight-zeros n)

-- the twos in the factorials are those of the list that was scattered
pub weight-scattered : {n : ℕ} {ps : List ℕ} (es : List ℕ) → Places n ps → length es ≡ length ps → weight (scattered n ps es) ≡ weight es
unfolding weight scattered
weight-scattered {n} [] empty l = weight-zeros n
weight-scattered (e ∷ es) empty l = absurd (suc-ne-zero (length es) l)
weight-scattered [] (more {ps = ps} h a r) l = absurd (suc-ne-zero (length ps) (sym l))
weight-scattered {n} (e ∷ es) (more {p} {ps} h a r) l =
    weight-set (scattered n ps es) p e (subst (λ (k : ℕ). p < k) (sym (length-scattered n ps es)) h) (at-scattered_absent n ps es p a)
    ∙ ap (twos (factorial e) +◌) (weight-scattered es r (suc_inj l))

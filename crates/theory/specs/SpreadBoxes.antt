-- A coefficient box over a support, spread over all n variables. Its coefficient function is `coefficient_at`, which is also the sum over the cells of "is
-- the exponent list of this cell" times the coefficient (`coefficient_at-eq-sum`). So in any box D that has room for all its exponent lists, evaluating
-- `coefficient_at` at a point gives the value of the box at the coordinates of its support (`eval-spread`): no variables change places, and only the
-- proof lays D out. Two boxes are spread into one D, and there recovery's uniqueness says that equal values are equal coefficients modulo their bounds.
use Rattle.std.specs.Prelude.{◌≡◌, Bool, ℕ, suc, ◌+◌, ◌*◌, ◌%◌, ◌<◌, List, [], ◌∷◌, length, refl, true, false, cond, T}
use Rattle.std.proofs.Common.{ap, sym, subst, ◌∙◌, suc-ne-zero, le_trans, le-add_left, le-add_right, arith}
use Rattle.std.proofs.Math.Nat.{suc_inj}
use Rattle.meaning.specs.Tables.{at}
use Rattle.meaning.specs.Sums.{sum}
use Rattle.meaning.specs.Factorials.{falling}
use Rattle.meaning.specs.Boxes.{cells, digits, cell, Within, none, next}
use Rattle.meaning.specs.Values.{product, value}
use Rattle.meaning.specs.Calls.{same_list, truth}
use Rattle.theory.specs.Congruence.{Cong, cong_of_eq, cong_sym, cong_trans, cong_refl}
use Rattle.theory.specs.Sums.{sum_eq, sum_one, sum-zero}
use Rattle.theory.specs.StirlingNumbers.{delta}
use Rattle.theory.specs.EqualLists.{same_true, same_false, product-delta}
use Rattle.theory.specs.Boxes.{digits-within, length-within, length_digits, cell-lt, cell-digits, digits-cell}
use Rattle.theory.specs.Evaluation.{eval, eval-eq, eval-sum}
use Rattle.theory.specs.PowerBoxes.{eval-one}
use Rattle.theory.specs.Recovery.{Fits, eval-falling_cong, fits_solved}
use Rattle.theory.specs.GridRecovery.{Cells}
use Rattle.meaning.specs.Sameness.{scattered, picked, within, coefficient_at}
use Rattle.theory.specs.Scattered.{Places, within-iff, length-scattered, picked-scattered, scattered-within, picked-within, scattered-picked, product-scattered}

-- ---- one box, spread

module _ (n : ℕ) (ps ds c : List ℕ) where
  -- a list in the scattered box has the coefficient of its cell
  pub coefficient_at_inside : (es : List ℕ) → Within (scattered n ps ds) es → coefficient_at n ps ds c es ≡ at c (cell ds (picked ps es))
  unfolding coefficient_at
  coefficient_at_inside es w = go (within (scattered n ps ds) es) ((within-iff (scattered n ps ds) es).1 w)
    where
      go : (b : Bool) → T b → cond b (at c (cell ds (picked ps es))) 0 ≡ at c (cell ds (picked ps es))
      go true t = refl
      go false t = absurd t

  -- and every other list 0
  pub coefficient_at_outside : (es : List ℕ) → (Within (scattered n ps ds) es → ⊥) → coefficient_at n ps ds c es ≡ 0
  unfolding coefficient_at
  coefficient_at_outside es h = go (within (scattered n ps ds) es) (λ t. h ((within-iff (scattered n ps ds) es).0 t))
    where
      go : (b : Bool) → (T b → ⊥) → cond b (at c (cell ds (picked ps es))) 0 ≡ 0
      go true t = absurd (t tt)
      go false t = refl

  module _ (places : Places n ps) (sized : length ds ≡ length ps) where
    -- a cell's list scattered and picked again
    pub picked-digits : (k : ℕ) → picked ps (scattered n ps (digits ds k)) ≡ digits ds k
    picked-digits k = picked-scattered (digits ds k) places (length_digits ds k ∙ sized)

    -- the coefficient of a cell's list is the cell's
    pub coefficient_at-cell : (k : ℕ) → k < cells ds → coefficient_at n ps ds c (scattered n ps (digits ds k)) ≡ at c k
    coefficient_at-cell k h =
        coefficient_at_inside (scattered n ps (digits ds k)) (scattered-within n ps (digits-within ds k))
        ∙ ap (λ (es : List ℕ). at c (cell ds es)) (picked-digits k)
        ∙ ap (at c) (cell-digits ds k h)

    -- a list in the scattered box is that of a cell
    pub inside_cell : (es : List ℕ) → Within (scattered n ps ds) es → scattered n ps (digits ds (cell ds (picked ps es))) ≡ es
    inside_cell es w =
        ap (scattered n ps) (digits-cell (picked-within ds es places sized w)) ∙ scattered-picked ds es places sized w

    pub inside_lt : (es : List ℕ) → Within (scattered n ps ds) es → cell ds (picked ps es) < cells ds
    inside_lt es w = cell-lt (picked-within ds es places sized w)

    module _ (D : List ℕ) (room : (es : List ℕ) → Within (scattered n ps ds) es → Within D es) where
      -- the list of a cell, over all variables
      abbrev E : ℕ → List ℕ
      E k = scattered n ps (digits ds k)

      cell-within : (k : ℕ) → Within (scattered n ps ds) (E k)
      cell-within k = scattered-within n ps (digits-within ds k)

      -- in a box D with room for all its lists, the coefficient function as a sum over the cells
      coefficient_at-eq-sum : (es : List ℕ) → Within D es → coefficient_at n ps ds c es ≡ sum (cells ds) (λ k. at c k * (product delta (length D) es (E k) * 1))
      coefficient_at-eq-sum es u = go (within (scattered n ps ds) es) refl
        where
          term : ℕ → ℕ
          term k = at c k * (product delta (length D) es (E k) * 1)

          told : (k : ℕ) → product delta (length D) es (E k) ≡ truth (same_list (E k) es)
          told k = product-delta u (room (E k) (cell-within k))

          other : (k : ℕ) → (E k ≡ es → ⊥) → term k ≡ 0
          other k ne = rw (told k ∙ ap truth (same_false (E k) es ne)) (omega arith)

          go : (b : Bool) → within (scattered n ps ds) es ≡ b → coefficient_at n ps ds c es ≡ sum (cells ds) term
          go true q =
              let w : Within (scattered n ps ds) es = (within-iff (scattered n ps ds) es).0 (subst T (sym q) tt) in
              let k : ℕ = cell ds (picked ps es) in
              let t : at c k ≡ term k = rw (told k ∙ ap truth (same_true (E k) es (inside_cell es w))) (omega arith) in
              coefficient_at_inside es w
              ∙ t
              ∙ sym (sum_one (cells ds) term k (inside_lt es w) (λ i p ne. other i (λ r. ne
              (sym (cell-digits ds i p) ∙ ap (cell ds) (sym (picked-digits i)) ∙ ap (λ (fs : List ℕ). cell ds (picked ps fs)) r))))
          go false q =
              let out : Within (scattered n ps ds) es → ⊥ = λ w. subst T q ((within-iff (scattered n ps ds) es).1 w) in
              coefficient_at_outside es out
              ∙ sym (sum-zero (cells ds) (λ k p. other k (λ r. out (subst (λ (fs : List ℕ). Within (scattered n ps ds) fs) r (cell-within k)))))

      -- evaluated there, it is the box's value at the coordinates of the support
      pub eval-spread : (xs : List ℕ) → length D ≡ n
          → eval falling D (coefficient_at n ps ds c) xs ≡ sum (cells ds) (λ k. product falling (length ds) (picked ps xs) (digits ds k) * at c k)
      unfolding falling
      eval-spread xs l =
          eval-eq falling D xs (λ es w. coefficient_at-eq-sum es w)
          ∙ eval-sum falling D (cells ds) (at c) (λ k es. product delta (length D) es (E k) * 1) xs
          ∙ sum_eq (cells ds) (λ k p. ap (at c k *◌) (eval-one falling 1 xs (room (E k) (cell-within k))) ∙ term k)
        where
          term : (k : ℕ) → at c k * (product falling (length D) xs (E k) * 1) ≡ product falling (length ds) (picked ps xs) (digits ds k) * at c k
          term k =
              let e : product falling (length D) xs (E k) ≡ product falling (length ds) (picked ps xs) (digits ds k) =
              ap (λ (i : ℕ). product falling i xs (E k)) l
              ∙ product-scattered falling (λ x. refl) xs (digits ds k) places (length_digits ds k ∙ sized)
              ∙ ap (λ (i : ℕ). product falling i (picked ps xs) (digits ds k)) (length_digits ds k)
              in rw e (omega arith)

-- ---- room for two

-- the sums of the entries
unfoldable both : List ℕ → List ℕ → List ℕ
both [] bs = []
both (a ∷ cs) [] = []
both (a ∷ cs) (b ∷ bs) = (a + b) ∷ both cs bs

length_both : (cs bs : List ℕ) → length cs ≡ length bs → length (both cs bs) ≡ length cs
unfolding both
length_both [] bs l = refl
length_both (a ∷ cs) [] l = absurd (suc-ne-zero (length cs) l)
length_both (a ∷ cs) (b ∷ bs) l = ap suc (length_both cs bs (suc_inj l))

within-left : {cs es : List ℕ} (bs : List ℕ) → length cs ≡ length bs → Within cs es → Within (both cs bs) es
unfolding both
within-left bs l none = none
within-left [] l (next {ds = cs} p w) = absurd (suc-ne-zero (length cs) l)
within-left (b ∷ bs) l (next {d = a} p w) = next (le_trans p (le-add_right a b)) (within-left bs (suc_inj l) w)

within_right : (cs : List ℕ) {bs es : List ℕ} → length cs ≡ length bs → Within bs es → Within (both cs bs) es
unfolding both
within_right [] l none = none
within_right (a ∷ cs) l none = absurd (suc-ne-zero (length cs) l)
within_right [] l (next {ds = bs} p w) = absurd (suc-ne-zero (length bs) (sym l))
within_right (a ∷ cs) l (next {d = b} p w) = next (le_trans p (le-add_left b a)) (within_right cs (suc_inj l) w)

-- ---- two boxes

-- each coefficient of the box c is, modulo what is left of m in its cell, the one that B has of the same exponents
abbrev pub Matches : {m : ℕ} → Cells m → ℕ → List ℕ → List ℕ → List ℕ → (List ℕ → ℕ) → Type 0
Matches o n ps ds c B =
    (k : ℕ) → k < cells ds → Cong (o (scattered n ps (digits ds k))).h (at c k) (B (scattered n ps (digits ds k)))

module _ {m : ℕ} (positive : 0 < m) (o : Cells m) (n : ℕ) (ps ds c qs fs d : List ℕ)
    (places : Places n ps) (sized : length ds ≡ length ps) (places' : Places n qs) (sized' : length fs ≡ length qs) where
  abbrev A : List ℕ → ℕ
  A = coefficient_at n ps ds c

  abbrev B : List ℕ → ℕ
  B = coefficient_at n qs fs d

  lengths : length (scattered n ps ds) ≡ length (scattered n qs fs)
  lengths = length-scattered n ps ds ∙ sym (length-scattered n qs fs)

  abbrev D : List ℕ
  D = both (scattered n ps ds) (scattered n qs fs)

  full : length D ≡ n
  full = length_both (scattered n ps ds) (scattered n qs fs) lengths ∙ length-scattered n ps ds

  first : (xs : List ℕ) → eval falling D A xs % m ≡ value m ds c (picked ps xs)
  unfolding value
  first xs = ap (◌% m) (eval-spread n ps ds c places sized D (λ es w. within-left (scattered n qs fs) lengths w) xs full)

  second : (xs : List ℕ) → eval falling D B xs % m ≡ value m fs d (picked qs xs)
  unfolding value
  second xs = ap (◌% m) (eval-spread n qs fs d places' sized' D (λ es w. within_right (scattered n ps ds) lengths w) xs full)

  -- where each coefficient of either box is matched in the other, the coefficients of all lists are the same
  same_coefficients : Matches o n ps ds c B → Matches o n qs fs d A → (es : List ℕ) → Cong (o es).h (A es) (B es)
  same_coefficients h k es = go (within (scattered n ps ds) es) refl (within (scattered n qs fs) es) refl
    where
      go : (a : Bool) → within (scattered n ps ds) es ≡ a → (b : Bool) → within (scattered n qs fs) es ≡ b → Cong (o es).h (A es) (B es)
      go true p b q =
          let w : Within (scattered n ps ds) es = (within-iff (scattered n ps ds) es).0 (subst T (sym p) tt) in
          let i : ℕ = cell ds (picked ps es) in
          cong_trans (cong_of_eq _ (coefficient_at_inside n ps ds c es w))
          (subst (λ (gs : List ℕ). Cong (o gs).h (at c i) (B gs)) (inside_cell n ps ds c places sized es w) (h i (inside_lt n ps ds c places sized es w)))
      go false p true q =
          let w : Within (scattered n qs fs) es = (within-iff (scattered n qs fs) es).0 (subst T (sym q) tt) in
          let i : ℕ = cell fs (picked qs es) in
          cong_sym (cong_trans (cong_of_eq _ (coefficient_at_inside n qs fs d es w))
          (subst (λ (gs : List ℕ). Cong (o gs).h (at d i) (A gs)) (inside_cell n qs fs d places' sized' es w) (k i (inside_lt n qs fs d places' sized' es w))))
      go false p false q =
          cong_trans (cong_of_eq _ (coefficient_at_outside n ps ds c es (λ w. subst T p ((within-iff (scattered n ps ds) es).1 w))))
          (cong_of_eq _ (sym (coefficient_at_outside n qs fs d es (λ w. subst T q ((within-iff (scattered n qs fs) es).1 w)))))

  -- so the values are equal everywhere
  pub values_of_matches : Matches o n ps ds c B → Matches o n qs fs d A → (xs : List ℕ) → value m ds c (picked ps xs) ≡ value m fs d (picked qs xs)
  values_of_matches h k xs =
      sym (first xs) ∙ (eval-falling_cong positive o D A B xs (λ es w. same_coefficients h k es)).same ∙ second xs

  -- equal values are equal coefficients, modulo what is left of m in each cell
  coefficients_of_values : ((xs : List ℕ) → length xs ≡ n → value m ds c (picked ps xs) ≡ value m fs d (picked qs xs))
      → (es : List ℕ) → Within D es → Cong (o es).h (A es) (B es)
  coefficients_of_values v es w =
      let own : Fits m D A (eval falling D A) = record { fits = λ xs u. cong_refl (eval falling D A xs) } in
      let too : Fits m D B (eval falling D A) =
      record { fits = λ xs u. record { same = second xs ∙ sym (v xs (length-within u ∙ full)) ∙ sym (first xs) } }
      in
      record { same = (fits_solved positive o D A (eval falling D A) es own w).1 ∙ sym (fits_solved positive o D B (eval falling D A) es too w).1 }

  -- equal values everywhere: each coefficient of either box is matched in the other
  pub matches_of_values : ((xs : List ℕ) → length xs ≡ n → value m ds c (picked ps xs) ≡ value m fs d (picked qs xs))
      → Matches o n ps ds c B × Matches o n qs fs d A
  matches_of_values v = (
    λ k p.
        cong_trans (cong_of_eq _ (sym (coefficient_at-cell n ps ds c places sized k p)))
        (coefficients_of_values v (scattered n ps (digits ds k)) (within-left (scattered n qs fs) lengths (scattered-within n ps (digits-within ds k)))),
    λ k p.
        cong_trans (cong_of_eq _ (sym (coefficient_at-cell n qs fs d places' sized' k p)))
        (cong_sym (coefficients_of_values v (scattered n qs (digits fs k)) (within_right (scattered n ps ds) lengths (scattered-within n qs (digits-within fs k))))),
  )

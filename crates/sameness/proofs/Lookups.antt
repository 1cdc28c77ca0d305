-- A variable looked up in a support, place by place: the loop carries that what is asked of the whole lists is asked of what is left of them. A list scattered
-- over all variables has at a variable what is looked up there, so that limits and steps are tables of look-ups.
use Rattle.std.specs.Prelude.{◌≡◌, refl, Bool, true, false, ◌&&◌, cond, List, [], ◌∷◌, ℕ, suc, ◌+◌, ◌*◌, ◌≤◌, ◌<◌, leb, length, drop, set}
use Rattle.std.proofs.Common.{sym, ◌∙◌, ap, ap₂, subst, add-one, arith, drop_of_length-le, drop-cons, get_or-set_same, get_or-set_other}
use Rattle.std.proofs.Math.Decide.{ℕ_discrete}
use borrow.Author.Tests.{eq-eqb, ne_eqb, le-leb, lt-leb}
use Rattle.meaning.specs.Tables.{at, tabulate}
use Rattle.meaning.specs.Boxes.{cells}
use Rattle.meaning.specs.Sameness.{scattered, picked, within}
use Rattle.theory.specs.Tables.{length-tabulate, at-tabulate, at-zeros}
use Rattle.theory.specs.CountedCells.{counted_next, counted-le}
use Rattle.theory.specs.Scattered.{Places, empty, more, length-scattered}
use Rattle.sameness.specs.Places.{strides, lookup, lookups}

-- ---- one place

lookup_here : (v p : ℕ) (ps : List ℕ) (e : ℕ) (es : List ℕ) → p ≡ v → lookup v (p ∷ ps) (e ∷ es) ≡ e
unfolding lookup
lookup_here v p ps e es q = ap (λ (b : Bool). cond b e (lookup v ps es)) (eq-eqb p v q)

lookup_later : (v p : ℕ) (ps : List ℕ) (e : ℕ) (es : List ℕ) → (p ≡ v → ⊥) → lookup v (p ∷ ps) (e ∷ es) ≡ lookup v ps es
unfolding lookup
lookup_later v p ps e es h = ap (λ (b : Bool). cond b e (lookup v ps es)) (ne_eqb p v h)

-- a scattered list has what is looked up
at-scattered : (n : ℕ) (ps es : List ℕ) (v : ℕ) → v < n → at (scattered n ps es) v ≡ lookup v ps es
unfolding scattered lookup
at-scattered n [] es v h = at-zeros n v
at-scattered n (p ∷ ps) [] v h = at-zeros n v
at-scattered n (p ∷ ps) (e ∷ es) v h = go (ℕ_discrete p v) (at-scattered n ps es v h)
  where
    go : Dec (p ≡ v) → at (scattered n ps es) v ≡ lookup v ps es → at (set (scattered n ps es) p e) v ≡ lookup v (p ∷ ps) (e ∷ es)
    go (yes q) r =
        ap (at (set (scattered n ps es) p e)) (sym q)
        ∙ get_or-set_same (scattered n ps es) p e 0 (subst (λ (k : ℕ). p < k) (sym (length-scattered n ps es)) (subst (λ (k : ℕ). k < n) (sym q) h))
        ∙ sym (lookup_here v p ps e es q)
    go (no q) r = get_or-set_other (scattered n ps es) p v e 0 (λ s. q (sym s)) ∙ r ∙ sym (lookup_later v p ps e es q)

pub picked-lookups : {n : ℕ} {ps : List ℕ} → Places n ps → (qs es : List ℕ) → picked ps (scattered n qs es) ≡ lookups ps qs es
unfolding tabulate
picked-lookups empty qs es = refl
picked-lookups {n} (more {p} h a r) qs es = ap₂ ◌∷◌ (at-scattered n qs es p h) (picked-lookups r qs es)

-- ---- the loop over the support

module _ (v : ℕ) (ps : List ℕ) (i : ℕ) (h : i < length ps) where
  -- the variable stands at the place
  lookup-found : (e : ℕ) (es : List ℕ) → at ps i ≡ v → lookup v (drop i ps) (e ∷ es) ≡ e
  lookup-found e es q = ap (λ (qs : List ℕ). lookup v qs (e ∷ es)) (drop-cons ps i 0 h) ∙ lookup_here v (at ps i) (drop (suc i) ps) e es q

  -- it does not
  lookup_next : (e : ℕ) (es : List ℕ) → (at ps i ≡ v → ⊥) → lookup v (drop i ps) (e ∷ es) ≡ lookup v (drop (i + 1) ps) es
  lookup_next e es q =
      ap (λ (qs : List ℕ). lookup v qs (e ∷ es)) (drop-cons ps i 0 h)
      ∙ lookup_later v (at ps i) (drop (suc i) ps) e es q
      ∙ ap (λ (j : ℕ). lookup v (drop j ps) es) (sym (add-one i))

-- no place is left
lookup-end : (v : ℕ) (ps es : List ℕ) (i : ℕ) → length ps ≤ i → lookup v (drop i ps) es ≡ 0
unfolding lookup
lookup-end v ps es i h = ap (λ (qs : List ℕ). lookup v qs es) (drop_of_length-le ps h)

-- the strides from a place on
strides-drop : (s : ℕ) (ds : List ℕ) (i : ℕ) → i < length ds → strides s (drop i ds) ≡ s ∷ strides (s * (at ds i + 1)) (drop (i + 1) ds)
unfolding strides
strides-drop s ds i h =
    ap (strides s) (drop-cons ds i 0 h)
    ∙ ap₂ (λ (k j : ℕ). s ∷ strides (s * k) (drop j ds)) (sym (add-one (at ds i))) (sym (add-one i))

-- v was not found before place i, whose stride is at hand
pub record Seeking (v : ℕ) (ps ds : List ℕ) (stride i : ℕ) : Type 0 where
  pub degrees : lookup v ps ds ≡ lookup v (drop i ps) (drop i ds)
  pub strided : lookup v ps (strides 1 ds) ≡ lookup v (drop i ps) (strides stride (drop i ds))
  pub counted : cells ds ≡ stride * cells (drop i ds)

module _ {v : ℕ} {ps ds : List ℕ} {stride i : ℕ} (s : Seeking v ps ds stride i) where
  module _ (h : i < length ps) (l : length ds ≡ length ps) where
    degree_here : lookup v ps ds ≡ lookup v (drop i ps) (at ds i ∷ drop (suc i) ds)
    degree_here = s.degrees ∙ ap (lookup v (drop i ps)) (drop-cons ds i 0 (omega arith))

    stride_here : lookup v ps (strides 1 ds) ≡ lookup v (drop i ps) (stride ∷ strides (stride * (at ds i + 1)) (drop (i + 1) ds))
    stride_here = s.strided ∙ ap (lookup v (drop i ps)) (strides-drop stride ds i (omega arith))

    pub seeking_found : at ps i ≡ v → (at ds i ≡ lookup v ps ds) × (stride ≡ lookup v ps (strides 1 ds))
    seeking_found q = (sym (degree_here ∙ lookup-found v ps i h (at ds i) _ q), sym (stride_here ∙ lookup-found v ps i h stride _ q))

    more_cells : cells ds ≡ stride * (at ds i + 1) * cells (drop (i + 1) ds)
    more_cells = counted_next ds stride i s.counted (omega arith)

    pub seeking_next : (at ps i ≡ v → ⊥) → Seeking v ps ds (stride * (at ds i + 1)) (i + 1)
    seeking_next q =
        record {
          degrees = degree_here ∙ lookup_next v ps i h (at ds i) _ q ∙ ap (λ (j : ℕ). lookup v (drop (i + 1) ps) (drop j ds)) (sym (add-one i));
          strided = stride_here ∙ lookup_next v ps i h stride _ q;
          counted = more_cells;
        }

    -- a stride is at most the cells
    pub seeking_low : stride * (at ds i + 1) ≤ cells ds
    seeking_low = counted-le ds (stride * (at ds i + 1)) (i + 1) more_cells

  pub seeking_end : length ps ≤ i → (0 ≡ lookup v ps ds) × (0 ≡ lookup v ps (strides 1 ds))
  seeking_end h = (sym (s.degrees ∙ lookup-end v ps _ i h), sym (s.strided ∙ lookup-end v ps _ i h))

-- ---- degrees and limits

-- the degrees before place i are within their limits, which the rule f gives
pub record Covering (n : ℕ) (f : ℕ → ℕ) (ds : List ℕ) (i : ℕ) : Type 0 where
  pub rest : within (tabulate n f) ds ≡ within (drop i (tabulate n f)) (drop i ds)

module _ {n : ℕ} {f : ℕ → ℕ} {ds : List ℕ} {i : ℕ} (s : Covering n f ds i) (l : length ds ≡ n) where
  module _ (h : i < n) {x : ℕ} (e : x ≡ f i) where
    now : within (tabulate n f) ds ≡ (leb (at ds i) x && within (drop (suc i) (tabulate n f)) (drop (suc i) ds))
    unfolding within
    now =
        let h' : i < length (tabulate n f) = rw (length-tabulate n f) h in
        let k : i < length ds = omega arith in
        s.rest
        ∙ ap₂ within (drop-cons (tabulate n f) i 0 h') (drop-cons ds i 0 k)
        ∙ ap (λ (y : ℕ). leb (at ds i) y && within (drop (suc i) (tabulate n f)) (drop (suc i) ds)) (at-tabulate n f i h ∙ sym e)

    pub covering_fails : x < at ds i → false ≡ within (tabulate n f) ds
    covering_fails q = sym (now ∙ ap (◌&& within (drop (suc i) (tabulate n f)) (drop (suc i) ds)) (lt-leb (at ds i) x q))

    pub covering_next : at ds i ≤ x → Covering n f ds (i + 1)
    covering_next q =
        record {
          rest = now
              ∙ ap (◌&& within (drop (suc i) (tabulate n f)) (drop (suc i) ds)) (le-leb (at ds i) x q)
              ∙ ap (λ (j : ℕ). within (drop j (tabulate n f)) (drop j ds)) (sym (add-one i));
        }

  pub covering_end : n ≤ i → true ≡ within (tabulate n f) ds
  unfolding within
  covering_end h =
      let k : length (tabulate n f) ≤ i = rw (length-tabulate n f) h in
      let k' : length ds ≤ i = omega arith in
      sym (s.rest ∙ ap₂ within (drop_of_length-le (tabulate n f) k) (drop_of_length-le ds k'))

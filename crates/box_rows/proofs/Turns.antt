-- The laws of a walk over cells (`Walked`): one cell more, one part more, and the sub-boxes of the last variable one after the other.
use Rattle.std.proofs.Common.{◌≡◌, ◌≢◌, ℕ, zero, suc, ◌+◌, ◌-◌, ◌*◌, ◌<◌, ◌≤◌, ◌⊎◌, inl, inr, Bool, true, false, ◌&&◌, List, length, sym, refl, ap, ◌∙◌, ap₂, add-one, arith, true≢false, below_more, ◌==◌, subst, zero-add, zero-mul, suc-ne-zero, mod-eq_of_lt, ◌^◌, ◌%◌, [], ◌∷◌, mul-le-mul_right, le_of_suc-le-suc}
use Rattle.std.proofs.Math.Bool.{and_assoc, and-true}
use Rattle.std.proofs.Math.Nat.{suc_inj}
use Rattle.std.proofs.Math.Decide.{dec_le}
use Rattle.std.specs.Int.Bits.{bit_or}
use Rattle.meaning.specs.Tables.{at}
use Rattle.meaning.specs.Factorials.{factorial, twos}
use Rattle.meaning.specs.Boxes.{cells, digits}
use Rattle.meaning.specs.Values.{weight, bound}
use Rattle.meaning.specs.Recovery.{every}
use Rattle.theory.specs.Every.{every_cong, Passed, passed_start, passed_fails, passed_next, passed_done}
use Rattle.theory.specs.LastVariable.{others, final, bound_last, length-others}
use Rattle.box_rows.specs.Jobs.{Done, Walked, AllAtHand}
use Rattle.box_rows.specs.Walks.{Walk, walk_next, walk_all, walk_size}
use Rattle.box_rows.specs.Lines.{LineBits, line_full, line_bits}
use Rattle.box_rows.proofs.AtCells.{or_zero}

every_last : (i : ℕ) (p : ℕ → Bool) → every (suc i) p ≡ (every i p && p i)
unfolding every
every_last zero p = and-true (p 0)
every_last (suc i) p = ap (p 0 &&◌) (every_last i (λ k. p (suc k))) ∙ sym (and_assoc (p 0) (every i (λ k. p (suc k))) (p (suc i)))

-- the first n of all tests pass
passed_of : (p : ℕ → Bool) (n all : ℕ) → n ≤ all → true ≡ every n p → Passed p all n
passed_of p n all h e =
    let first : true ≡ every n (λ i. p (0 + i)) = e ∙ every_cong n (λ i l. ap p (sym (zero-add i))) in
    subst (Passed p all) (zero-add n) (passed_next (passed_start p all) n (omega arith) first refl)

both-first : (a b : Bool) → (a && b) ≡ true → a ≡ true
both-first true b e = refl
both-first false b e = e

module _ {left : ℕ → ℕ → ℕ → ℕ} {passes : ℕ → ℕ → Bool} where
  -- no cell yet
  pub walked_none : (m : ℕ → ℕ) (from : ℕ) (t : List ℕ) → Walked left passes m from 0 t t true
  unfolding every
  walked_none m from t = record { tests = refl; inside = λ e i h. omega arith; outside = λ j h. refl }

  module _ {m : ℕ → ℕ} {from n : ℕ} {t₀ t : List ℕ} where
    -- one cell more
    pub walked_cell : {t' : List ℕ} (found more : ℕ) → Walked left passes m from n t₀ t (found == 0) → Done left passes (m n) (from + n) t t' more
        → Walked left passes m from (n + 1) t₀ t' (bit_or found more == 0)
    walked_cell {t'} found more r d =
        let split : (bit_or found more == 0) ≡ ((found == 0) && (more == 0)) = or_zero found more in
        record {
          tests = split ∙ ap₂ ◌&&◌ r.tests d.test ∙ sym (ap (λ (k : ℕ). every k (λ i. passes (m i) (from + i))) (add-one n) ∙ every_last n _);
          inside =
              λ e.
              let passed : (found == 0) ≡ true = both-first (found == 0) (more == 0) (sym split ∙ e) in
              below_more (λ i. at t' (from + i) ≡ left (m i) (from + i) (at t₀ (from + i))) n
              (λ i h. d.others (from + i) (omega arith) ∙ r.inside passed i h)
              (d.here ∙ ap (left (m n) (from + n)) (r.outside (from + n) (inr (omega arith))));
          outside = λ j h. d.others j (away j h) ∙ r.outside j (wider j h);
        }
      where
        away : (j : ℕ) → (j < from) ⊎ (from + (n + 1) ≤ j) → j ≢ from + n
        away j (inl h) z = omega arith
        away j (inr h) z = omega arith

        wider : (j : ℕ) → (j < from) ⊎ (from + (n + 1) ≤ j) → (j < from) ⊎ (from + n ≤ j)
        wider j (inl h) = inl h
        wider j (inr h) = inr (omega arith)

    -- the same cells, with the same bounds
    pub walked_cong : {b : Bool} (m' : ℕ → ℕ) (n' : ℕ) → n ≡ n' → ((i : ℕ) → i < n' → m i ≡ m' i) → Walked left passes m from n t₀ t b
        → Walked left passes m' from n' t₀ t b
    walked_cong m' n' e same r =
        record {
          tests = r.tests ∙ ap (λ (k : ℕ). every k (λ i. passes (m i) (from + i))) e ∙ every_cong n' (λ i h. ap (λ (k : ℕ). passes k (from + i)) (same i h));
          inside = λ p i h. r.inside p i (omega arith) ∙ ap (λ (k : ℕ). left k (from + i) (at t₀ (from + i))) (same i h);
          outside = λ j h. r.outside j (rw (← e) at h);
        }

    -- a part behind cells that pass
    module _ {m' : ℕ → ℕ} {from' k : ℕ} {t' : List ℕ} {b : Bool} (r : Walked left passes m from n t₀ t true) (s : Walked left passes m' from' k t t' b)
        (here : from' ≡ from + n) (same : (i : ℕ) → i < k → m' i ≡ m (n + i)) where
      place : (i : ℕ) → from + (n + i) ≡ from' + i
      place i = omega arith

      part_tests : b ≡ every k (λ i. passes (m (n + i)) (from + (n + i)))
      part_tests = s.tests ∙ every_cong k (λ i h. ap₂ passes (same i h) (sym (place i)))

      abbrev test : ℕ → Bool
      test i = passes (m i) (from + i)

      -- it passes
      pub walked_next : b ≡ true → Walked left passes m from (n + k) t₀ t' true
      walked_next p =
          record {
            tests = sym (passed_done (passed_next (passed_of test n (n + k) (omega arith) r.tests) k (omega arith) part_tests p) (omega arith));
            inside = λ e i h. inside i h (dec_le n i);
            outside = λ j h. s.outside j (beside j h) ∙ r.outside j (before j h);
          }
        where
          beside : (j : ℕ) → (j < from) ⊎ (from + (n + k) ≤ j) → (j < from') ⊎ (from' + k ≤ j)
          beside j (inl h) = inl (omega arith)
          beside j (inr h) = inr (omega arith)

          before : (j : ℕ) → (j < from) ⊎ (from + (n + k) ≤ j) → (j < from) ⊎ (from + n ≤ j)
          before j (inl h) = inl h
          before j (inr h) = inr (omega arith)

          inside : (i : ℕ) → i < n + k → Dec (n ≤ i) → at t' (from + i) ≡ left (m i) (from + i) (at t₀ (from + i))
          inside i h (no q) = s.outside (from + i) (inl (omega arith)) ∙ r.inside refl i (omega arith)
          inside i h (yes q) =
              let there : from' + (i - n) ≡ from + i = omega arith in
              let bounds : m' (i - n) ≡ m i = same (i - n) (omega arith) ∙ ap m (omega arith) in
              let was : at t (from + i) ≡ at t₀ (from + i) = r.outside (from + i) (inr (omega arith)) in
              ap (at t') (sym there)
              ∙ s.inside p (i - n) (omega arith)
              ∙ ap (λ (j : ℕ). left (m' (i - n)) j (at t j)) there
              ∙ ap₂ (λ (x y : ℕ). left x (from + i) y) bounds was

      -- it fails
      pub walked_fails : (all : ℕ) → n + k ≤ all → b ≡ false → Walked left passes m from all t₀ t' false
      walked_fails all fits p =
          record {
            tests = sym (passed_fails (passed_of test n all (omega arith) r.tests) k fits part_tests p);
            inside = λ e. absurd (true≢false (sym e));
            outside = λ j h. s.outside j (beside j h) ∙ r.outside j (before j h);
          }
        where
          beside : (j : ℕ) → (j < from) ⊎ (from + all ≤ j) → (j < from') ⊎ (from' + k ≤ j)
          beside j (inl h) = inl (omega arith)
          beside j (inr h) = inr (omega arith)

          before : (j : ℕ) → (j < from) ⊎ (from + all ≤ j) → (j < from) ⊎ (from + n ≤ j)
          before j (inl h) = inl h
          before j (inr h) = inr (omega arith)

-- ---- the sub-boxes of the last variable

-- the sub-boxes below the last exponent e are done, and `more` bits are left in the next one, which begins at `from`
pub record Turns (left : ℕ → ℕ → ℕ → ℕ) (passes : ℕ → ℕ → Bool) (w : ℕ) (ds : List ℕ) (first n : ℕ) (t₀ t : List ℕ) (size more e from : ℕ) : Type 0 where
  pub walk : Walk ds n size e (e * size)
  pub bits : LineBits w e more
  pub place : from ≡ first + e * size
  pub walked : Walked left passes (λ i. bound w (digits ds i)) first (e * size) t₀ t true

module _ {left : ℕ → ℕ → ℕ → ℕ} {passes : ℕ → ℕ → Bool} {w : ℕ} {ds : List ℕ} {first n : ℕ} {t₀ : List ℕ} where
  -- none is done yet
  pub turns_start : {size : ℕ} → Walk ds n size 0 0 → Turns left passes w ds first n t₀ t₀ size w 0 first
  turns_start {size} k =
      record {
        walk = rw (zero-mul size) k;
        bits = line_full w;
        place = omega arith;
        walked = rw (zero-mul size) (walked_none _ _ t₀);
      }

  module _ {t : List ℕ} {size bits e from : ℕ} (r : Turns left passes w ds first n t₀ t size bits e from) where
    module _ (h : e < suc (final ds)) where
      pub turns_fit : e * size + size ≤ n
      turns_fit = omega (arith, walk_all r.walk, mul-le-mul_right size h)

      -- the next sub-box is in the box
      pub turns_inside : (from + size ≤ first + n) × (first ≤ from)
      turns_inside = (omega (arith, turns_fit, r.place), omega (arith, r.place))

      -- its cells have the bounds that they have in the box
      bounds : (i : ℕ) → i < size → bound bits (digits (others ds) i) ≡ bound w (digits ds (e * size + i))
      bounds i l =
          let k = r.walk in
          ap (λ (j : ℕ). bound j (digits (others ds) i)) r.bits
          ∙ sym (bound_last ds k.filled e i (le_of_suc-le-suc h) (rw k.sized at l) w)
          ∙ ap (λ (j : ℕ). bound w (digits ds (e * j + i))) (sym k.sized)

      module _ {m : ℕ → ℕ} {t' : List ℕ} {b : Bool} (s : Walked left passes m from size t t' b)
          (same : (i : ℕ) → i < size → m i ≡ bound bits (digits (others ds) i)) where
        there : (i : ℕ) → i < size → m i ≡ bound w (digits ds (e * size + i))
        there i l = same i l ∙ bounds i l

        pub turns_next : (more : ℕ) → b ≡ true → more ≡ bits - twos (e + 1) → Turns left passes w ds first n t₀ t' size more (e + 1) (from + size)
        turns_next more p q =
            let one : (e + 1) * size ≡ e * size + size = omega arith in
            record {
              walk = rw one (walk_next r.walk (omega (arith, turns_fit, walk_size r.walk)));
              bits = line_bits w e bits more r.bits q;
              place = omega (arith, r.place);
              walked = rw one (walked_next r.walked s r.place there p);
            }

        pub turns_fail : b ≡ false → Walked left passes (λ i. bound w (digits ds i)) first n t₀ t' false
        turns_fail p = walked_fails r.walked s r.place there n turns_fit p

    -- none is left
    pub turns-done : suc (final ds) ≤ e → Walked left passes (λ i. bound w (digits ds i)) first n t₀ t true
    turns-done h =
        let last : e ≡ suc (final ds) = omega (arith, r.walk.within) in
        let all : e * size ≡ n = ap (◌* size) last ∙ sym (walk_all r.walk) in
        walked_cong _ n all (λ i l. refl) r.walked

-- ---- the bounds of lines, and of cells where no bits are left

line_bound : (w d i : ℕ) → i < suc d → 2 ^ (w - twos (factorial i)) ≡ bound w (digits (d ∷ []) i)
unfolding bound weight digits
line_bound w d i h =
    let here : i % suc d ≡ i = mod-eq_of_lt h in
    ap (λ (k : ℕ). 2 ^ (w - k)) (omega (arith, ap (λ (j : ℕ). twos (factorial j)) here))

-- one variable
pub line_bounds : (w : ℕ) (ds : List ℕ) → length ds ≡ 1 → (i : ℕ) → i < cells ds → 2 ^ (w - twos (factorial i)) ≡ bound w (digits ds i)
unfolding cells
line_bounds w [] one i h = absurd (suc-ne-zero 0 (sym one))
line_bounds w (d ∷ []) one i h = line_bound w d i (omega arith)
line_bounds w (d ∷ (y ∷ ys)) one i h = absurd (suc-ne-zero (length ys) (suc_inj one))

-- whatever the exponents
pub no_bits : (w k : ℕ) (es : List ℕ) → w ≡ 0 → 2 ^ (0 - k) ≡ bound w es
unfolding bound
no_bits w k es z =
    let none : 0 - k ≡ w - weight es = omega arith in
    ap (2 ^◌) none

-- of two variables the last is the second
pub second : (ds : List ℕ) {e : ℕ} → length ds ≡ 2 → e < at ds 1 + 1 → e < suc (final ds)
second ds two h = rw two (omega arith)

-- and the sub-boxes are lines
pub turns_line : {left : ℕ → ℕ → ℕ → ℕ} {passes : ℕ → ℕ → Bool} {w : ℕ} {ds : List ℕ} {first n : ℕ} {t₀ t : List ℕ} {size bits e from : ℕ}
    → Turns left passes w ds first n t₀ t size bits e from → length ds ≡ 2
    → (i : ℕ) → i < size → 2 ^ (bits - twos (factorial i)) ≡ bound bits (digits (others ds) i)
turns_line {ds = ds} {bits = bits} r two i h =
    let one : length (others ds) ≡ 1 = length-others ds (omega (arith, two)) ∙ omega (arith, two) in
    line_bounds bits (others ds) one i (rw r.walk.sized at h)

-- the cells of a part are at hand where those of the whole are
pub hand_part : (p : ℕ → Type 0) {first n from k : ℕ} → AllAtHand p first n → (from + k ≤ first + n) × (first ≤ from) → AllAtHand p from k
hand_part p {first} {n} {from} {k} all within i h =
    let place : first + (from - first + i) ≡ from + i = omega arith in
    subst p place (all (from - first + i) (omega arith))

-- The lines of a first variable: d + 1 neighbours each, one line after the other. A loop takes a line a turn.
use Rattle.std.specs.Prelude.{◌≡◌, ℕ, zero, suc, ◌+◌, ◌-◌, ◌*◌, ◌%◌, ◌^◌, ◌<◌, ◌≤◌, ◌≢◌, ◌⊎◌, List, [], ◌∷◌, length, slice_set, refl}
use Rattle.std.proofs.Common.{arith, sym, ◌∙◌, zero-le, add-one, inl, inr, eq-or-lt_of_le, le_of_suc-le-suc, add-zero, one-mul, mul-one, div-one, le_refl, ap}
use Rattle.std.proofs.Math.Path.{fun_ext}
use Rattle.std.proofs.Math.Nat.{mod-one}
use Rattle.std.proofs.Math.Decide.{dec_lt}
use Rattle.std.proofs.Math.Arith.{digits_mod}
use Rattle.meaning.specs.Tables.{tabulate, at}
use Rattle.meaning.specs.Differences.{minus, diff, diffs, newton}
use Rattle.theory.specs.Tables.{Filled, filled_start, filled_step, filled_done}
use Rattle.lines.specs.FlatTables.{Local, lined, blocked, blocked-eq-lined}
use Rattle.lines.specs.FourWrites.{written, length-written, at-other, at-first, at-second, at-third, at-last}
use Rattle.theory.specs.AlongEach.{Line}

-- number x of line c
pub first-at : (line : Line) (d : ℕ) (f : ℕ → ℕ) (c x : ℕ) → x ≤ d → blocked line 1 d f (c * suc d + x) ≡ line d (λ y. f (c * suc d + y)) x
unfolding lined
first-at line d f c x h =
    ap (λ (n : ℕ). blocked line 1 d f (c * n + x)) (sym (one-mul (suc d)))
    ∙ blocked-eq-lined line 1 d f c x (omega arith) (omega arith)
    ∙ simp (one-mul, mul-one, mod-one, div-one, add-zero)

-- an entry that is right as it is
filled_keep : (f : ℕ → ℕ) (t₀ t : List ℕ) (k : ℕ) → Filled f t₀ t k → at t k ≡ f k → Filled f t₀ t (k + 1)
filled_keep f t₀ t k r e =
    record {
      same = r.same;
      below = λ i p. go i (eq-or-lt_of_le (le_of_suc-le-suc (rw (add-one k) at p)));
      above = λ i p. r.above i (omega arith);
    }
  where
    go : (i : ℕ) → (i ≡ k) ⊎ (i < k) → at t i ≡ f i
    go i (inl q) = rw q e
    go i (inr q) = r.below i q

-- the lines before place i are done
pub record Neighbours (line : Line) (d : ℕ) (t₀ t : List ℕ) (i : ℕ) : Type 0 where
  pub count : ℕ
  pub place : i ≡ count * suc d
  pub filled : Filled (blocked line 1 d (at t₀)) t₀ t i

module _ (line : Line) (d : ℕ) (t₀ : List ℕ) where
  pub neighbours_start : Neighbours line d t₀ t₀ 0
  neighbours_start = record { count = 0; place = omega arith; filled = filled_start _ t₀ }

  module _ (t : List ℕ) (i : ℕ) (r : Neighbours line d t₀ t i) where
    -- number x of it after the transform
    pub number : (x : ℕ) → x ≤ d → line d (λ y. at t (i + y)) x ≡ blocked line 1 d (at t₀) (i + x)
    number x h =
        ap (λ (v : ℕ → ℕ). line d v x) (fun_ext λ y. r.filled.above (i + y) (omega arith) ∙ ap (λ (n : ℕ). at t₀ (n + y)) r.place)
        ∙ sym (first-at line d (at t₀) r.count x h)
        ∙ ap (λ (n : ℕ). blocked line 1 d (at t₀) (n + x)) (sym r.place)

    -- a first number that the transform leaves
    pub first-kept : line d (λ y. at t (i + y)) 0 ≡ at t (i + 0) → Filled (blocked line 1 d (at t₀)) t₀ t (i + 1)
    first-kept e = filled_keep _ t₀ t i r.filled (rw (add-zero i) at (sym e ∙ number 0 zero-le))

    -- the line is done
    pub neighbours_step : (t' : List ℕ) → Filled (blocked line 1 d (at t₀)) t₀ t' (i + suc d) → Neighbours line d t₀ t' (i + suc d)
    neighbours_step t' all = record { count = suc r.count; place = omega (arith, r.place); filled = all }

    -- a table in which the line is done and the others are as they were
    pub next_line : (t' : List ℕ) → length t' ≡ length t → ((j : ℕ) → j < i → at t' j ≡ at t j) → ((j : ℕ) → i + suc d ≤ j → at t' j ≡ at t j)
        → ((x : ℕ) → x ≤ d → at t' (i + x) ≡ line d (λ y. at t (i + y)) x) → Neighbours line d t₀ t' (i + suc d)
    next_line t' long low high here =
        neighbours_step t' record {
          same = long ∙ r.filled.same;
          below = λ j p. go j p (dec_lt j i);
          above = λ j p. high j p ∙ r.filled.above j (omega arith);
        }
      where
        go : (j : ℕ) → j < i + suc d → Dec (j < i) → at t' j ≡ blocked line 1 d (at t₀) j
        go j p (yes l) = low j l ∙ r.filled.below j l
        go j p (no l) =
            let e : i + (j - i) ≡ j = omega arith in
            rw e at (here (j - i) (omega arith) ∙ number (j - i) (omega arith))

    -- no further line fits: nothing is left
    pub neighbours_done : i ≤ length t → length t₀ % suc d ≡ 0 → length t < i + suc d → t ≡ tabulate (length t₀) (blocked line 1 d (at t₀))
    neighbours_done within whole h =
        let e : length t₀ ≡ r.count * suc d + (length t - i) = omega (arith, r.place, within, r.filled.same) in
        let small : length t - i < suc d = omega arith in
        let z : length t - i ≡ 0 = sym (digits_mod r.count small) ∙ ap (◌% suc d) (sym e) ∙ whole in
        filled_done _ t₀ t i r.filled (omega (arith, r.filled.same))

-- ---- differences of degree 1

abbrev pub newton_line : Line
newton_line = newton (2 ^ 64)

module _ (t₀ t : List ℕ) (i : ℕ) (r : Neighbours newton_line 1 t₀ t i) where
  pub twos-step : (v : ℕ) → i + 1 < length t → v ≡ minus (2 ^ 64) (at t (i + 1)) (at t i) → Neighbours newton_line 1 t₀ (slice_set t (i + 1) v) (i + 2)
  unfolding newton diffs diff
  twos-step v h e =
      neighbours_step newton_line 1 t₀ t i r (slice_set t (i + 1) v)
      (rw two at (filled_step _ t₀ t (i + 1) v (first-kept newton_line 1 t₀ t i r refl) h
      (e ∙ ap (λ (j : ℕ). minus (2 ^ 64) (at t (i + 1)) (at t j)) (sym (add-zero i)) ∙ number newton_line 1 t₀ t i r 1 (le_refl 1))))
    where
      two : i + 1 + 1 ≡ i + 2
      two = omega arith

-- ---- lines of degree 3

module _ (line : Line) (local : Local line) (t₀ t : List ℕ) (i : ℕ) (r : Neighbours line 3 t₀ t i) where
  pub four_step : (four : List ℕ) → ((j : ℕ) → j ≤ 3 → at four j ≡ line 3 (at (at t i ∷ at t (i + 1) ∷ at t (i + 2) ∷ at t (i + 3) ∷ [])) j) → i + 3 < length t
      → Neighbours line 3 t₀ (written t i (i + 1) (i + 2) (i + 3) (at four 0) (at four 1) (at four 2) (at four 3)) (i + 4)
  four_step four e h = next_line line 3 t₀ t i r after (length-written t i (i + 1) (i + 2) (i + 3) _ _ _ _) low high here
    where
      after : List ℕ
      after = written t i (i + 1) (i + 2) (i + 3) (at four 0) (at four 1) (at four 2) (at four 3)

      same : (x : ℕ) → x ≤ 3 → at (at t i ∷ at t (i + 1) ∷ at t (i + 2) ∷ at t (i + 3) ∷ []) x ≡ at t (i + x)
      same zero l = ap (at t) (sym (add-zero i))
      same (suc zero) l = refl
      same (suc (suc zero)) l = refl
      same (suc (suc (suc zero))) l = refl
      same (suc (suc (suc (suc x)))) l = absurd (omega arith)

      new : (x : ℕ) → x ≤ 3 → at four x ≡ line 3 (λ y. at t (i + y)) x
      new x l = e x l ∙ local 3 _ (λ y. at t (i + y)) same x l

      other : (p : ℕ) → p ≢ i → p ≢ i + 1 → p ≢ i + 2 → p ≢ i + 3 → at after p ≡ at t p
      other p = at-other t i (i + 1) (i + 2) (i + 3) _ _ _ _ p

      low : (j : ℕ) → j < i → at after j ≡ at t j
      low j l = other j (omega arith) (omega arith) (omega arith) (omega arith)

      high : (j : ℕ) → i + 4 ≤ j → at after j ≡ at t j
      high j l = other j (omega arith) (omega arith) (omega arith) (omega arith)

      here : (x : ℕ) → x ≤ 3 → at after (i + x) ≡ line 3 (λ y. at t (i + y)) x
      here zero l =
          ap (at after) (add-zero i)
          ∙ at-first t i (i + 1) (i + 2) (i + 3) _ _ _ _ (omega arith) (omega arith) (omega arith) (omega arith)
          ∙ new 0 l
      here (suc zero) l = at-second t i (i + 1) (i + 2) (i + 3) _ _ _ _ (omega arith) (omega arith) ∙ new 1 l
      here (suc (suc zero)) l = at-third t i (i + 1) (i + 2) (i + 3) _ _ _ _ (omega arith) ∙ new 2 l
      here (suc (suc (suc zero))) l = at-last t i (i + 1) (i + 2) (i + 3) _ _ _ _ (omega arith) (omega arith) h ∙ new 3 l
      here (suc (suc (suc (suc x)))) l = absurd (omega arith)

-- The two loops that take a transform of one line to a flat table, for any transform: over the blocks of a table along one variable, and over the
-- variables, each of which may have a transform of its own. A block is a part of the table, and comes back transformed. The loop over the variables keeps
-- what is left to do: done to what is there, it gives what was asked.
use Rattle.std.specs.Prelude.{◌≡◌, ℕ, zero, suc, ◌+◌, ◌-◌, ◌*◌, ◌%◌, ◌<◌, ◌≤◌, List, [], ◌∷◌, length, drop, refl}
use Rattle.std.proofs.Math.Path.{fun_ext}
use Rattle.std.proofs.Common.{sym, ap, arith, ◌∙◌, zero-le, lt_irrefl, zero-lt-suc, add-zero, mul-pos, mul_comm, add-one, drop-cons, mul-one, drop_of_length-le}
use Rattle.std.proofs.Math.Nat.{mul-mod_left}
use Rattle.std.proofs.Math.Arith.{digits_mod}
use Rattle.meaning.specs.Tables.{tabulate, at}
use Rattle.meaning.specs.Boxes.{cells, cell, digits, along}
use Rattle.theory.specs.Tables.{Filled, filled_start, filled_done, length-tabulate, at-tabulate, eq-tabulate, tabulate_cong}
use Rattle.theory.specs.Boxes.{cells_pos}
use Rattle.theory.specs.AlongEach.{Line, along_each, along_each_same}
use Rattle.lines.specs.FlatTables.{Local, strided, lined, blocked, strided-step, strided-nil, strided-one, boxed-eq-along, blocked-eq-lined, lined_cong, strided_cong}
use Rattle.theory.specs.Parts.{part, put, length_part, at_part, filled_part}

-- the blocks before place `from` are transformed
pub record Blocks (line : Line) (s d : ℕ) (t₀ t : List ℕ) (from : ℕ) : Type 0 where
  pub count : ℕ
  pub place : from ≡ count * (s * suc d)
  pub within : from ≤ length t
  pub filled : Filled (blocked line s d (at t₀)) t₀ t from

-- the variables before variable i are done, and the next one has stride s: the others, done to the table as it is, give n numbers of `goal`
pub record Variables (lines : ℕ → Line) (ds : List ℕ) (goal : ℕ → ℕ) (n : ℕ) (t : List ℕ) (i s : ℕ) : Type 0 where
  pub within : i ≤ length ds
  pub pos : 0 < s
  pub same : length t ≡ n
  pub whole : length t ≡ s * cells (drop i ds)
  pub left : (j : ℕ) → goal j ≡ strided (λ l. lines (i + l)) s (drop i ds) (at t) j

module _ (line : Line) (local : Local line) where
  module _ (s d : ℕ) (t₀ : List ℕ) where
    pub blocks_start : Blocks line s d t₀ t₀ 0
    blocks_start =
        record { count = 0; place = omega arith; within = zero-le; filled = filled_start _ t₀ }

    module _ (t : List ℕ) (from : ℕ) (r : Blocks line s d t₀ t from) (pos : 0 < s) where
      -- the next block, from `from` to e, has come back as ys
      pub blocks_step : (e : ℕ) (ys : List ℕ) → e ≡ from + s * suc d → e ≤ length t
          → ys ≡ tabulate (length (part from e t)) (lined line s d (at (part from e t))) → Blocks line s d t₀ (put from e t ys) e
      blocks_step e ys next fits came =
          record {
            count = suc r.count;
            place = omega (arith, r.place);
            within = omega (arith, after.same, r.filled.same);
            filled = after;
          }
        where
          size : e - from ≡ s * suc d
          size = omega arith

          long : length ys ≡ e - from
          long = ap length came ∙ length-tabulate _ _ ∙ length_part from e t fits

          f : ℕ → ℕ
          f j = at t₀ (r.count * (s * suc d) + j)

          read : (j : ℕ) → j < s * suc d → at (part from e t) j ≡ f j
          read j h =
              at_part from e t fits j (rw size h) ∙ r.filled.above (from + j) (omega arith) ∙ ap (λ (n : ℕ). at t₀ (n + j)) r.place

          entry : (i : ℕ) → i < e - from → at ys i ≡ blocked line s d (at t₀) (from + i)
          entry i h =
              let h' : i < s * suc d = rw (← size) h in
              let h'' : i < length (part from e t) = rw (length_part from e t fits) h in
              ap (λ (l : List ℕ). at l i) came
              ∙ at-tabulate _ _ i h''
              ∙ lined_cong line local s d (at (part from e t)) f pos read i h'
              ∙ sym (blocked-eq-lined line s d (at t₀) r.count i pos h')
              ∙ ap (λ (n : ℕ). blocked line s d (at t₀) (n + i)) (sym r.place)

          after : Filled (blocked line s d (at t₀)) t₀ (put from e t ys) e
          after = filled_part _ t₀ t from e ys r.filled (omega arith) fits long entry

      -- no further block fits
      pub blocks_done : length t₀ % (s * suc d) ≡ 0 → length t - from < s * suc d → t ≡ tabulate (length t₀) (blocked line s d (at t₀))
      blocks_done whole h =
          let e : length t₀ ≡ r.count * (s * suc d) + (length t - from) = omega (arith, r.place, r.within, r.filled.same) in
          let z : length t - from ≡ 0 = sym (digits_mod r.count h) ∙ ap (◌% (s * suc d)) (sym e) ∙ whole in
          filled_done _ t₀ t from r.filled (omega (arith, r.place))

module _ (lines : ℕ → Line) (local : (i : ℕ) → Local (lines i)) (ds : List ℕ) where
  -- before variable i
  pub variables_start : (t : List ℕ) (i s : ℕ) → i ≤ length ds → 0 < s → length t ≡ s * cells (drop i ds)
      → Variables lines ds (strided (λ l. lines (i + l)) s (drop i ds) (at t)) (length t) t i s
  variables_start t i s h p e = record { within = h; pos = p; same = refl; whole = e; left = λ j. refl }

  module _ {goal : ℕ → ℕ} {n : ℕ} where
    module _ (t : List ℕ) (i s : ℕ) (r : Variables lines ds goal n t i s) (h : i < length ds) where
      split : drop i ds ≡ at ds i ∷ drop (suc i) ds
      split = drop-cons ds i 0 h

      count : length t ≡ cells (drop (suc i) ds) * (s * suc (at ds i))
      unfolding cells
      count = r.whole ∙ ap (λ (l : List ℕ). s * cells l) split ∙ regroup (cells (drop (suc i) ds)) s (suc (at ds i))
        where
          regroup : (a b c : ℕ) → b * (a * c) ≡ a * (b * c)
          regroup a b c = omega arith

      -- a block along variable i fits the table, and the table is made of blocks
      pub block_fits : s * suc (at ds i) ≤ length t
      block_fits = rw count (block-le (cells (drop (suc i) ds)) (s * suc (at ds i)) (cells_pos _))
        where
          block-le : (a b : ℕ) → 0 < a → b ≤ a * b
          block-le zero b p = elim p [ ]
          block-le (suc a) b p = omega arith

      pub block_divides : length t % (s * suc (at ds i)) ≡ 0
      block_divides = ap (◌% (s * suc (at ds i))) count ∙ mul-mod_left _ _

      -- variable i done
      pub variables_step : (t' : List ℕ) → t' ≡ tabulate (length t) (blocked (lines i) s (at ds i) (at t))
          → Variables lines ds goal n t' (i + 1) (s * suc (at ds i))
      variables_step t' e =
          let d = at ds i in
          let long : length t' ≡ length t = ap length e ∙ length-tabulate _ _ in
          let more : drop (i + 1) ds ≡ drop (suc i) ds = ap (λ (n : ℕ). drop n ds) (add-one i) in
          record {
            within = omega arith;
            pos = mul-pos r.pos (zero-lt-suc d);
            same = long ∙ r.same;
            whole = rw more (long ∙ count ∙ mul_comm _ _);
            left =
                λ j.
                rw
                more
                (r.left j
                ∙ ap (λ (l : List ℕ). strided (λ l. lines (i + l)) s l (at t) j) split
                ∙ strided-step (λ l. lines (i + l)) s d (drop (suc i) ds) (at t) j r.pos
                ∙ strided_cong (λ l. lines (i + suc l)) (λ l. local (i + suc l)) (s * suc d) (drop (suc i) ds) _ _ (mul-pos r.pos (zero-lt-suc d))
                (λ n p. ap (λ (k : ℕ). blocked (lines k) s d (at t) n) (add-zero i) ∙ sym (shown n p)) j
                ∙ ap (λ ls. strided ls (s * suc d) (drop (suc i) ds) (at t') j) (fun_ext λ l. ap lines (next l)));
          }
        where
          next : (l : ℕ) → i + suc l ≡ i + 1 + l
          next l = omega arith

          shown : (n : ℕ) → n < s * suc (at ds i) * cells (drop (suc i) ds) → at t' n ≡ blocked (lines i) s (at ds i) (at t) n
          shown n p =
              let q : n < length t = rw (count, mul_comm (cells (drop (suc i) ds)) (s * suc (at ds i))) p in
              ap (λ (l : List ℕ). at l n) e ∙ at-tabulate _ _ n q

    -- all variables done
    pub variables-done : (t : List ℕ) (i s : ℕ) → Variables lines ds goal n t i s → length ds ≤ i → t ≡ tabulate n goal
    unfolding cells
    variables-done t i s r h =
        eq-tabulate t n goal r.same λ j p.
        let last : drop i ds ≡ [] = drop_of_length-le ds h in
        let stride : length t ≡ s = r.whole ∙ ap (λ (l : List ℕ). s * cells l) last ∙ mul-one s in
        sym
        (r.left j
        ∙ ap (λ (l : List ℕ). strided (λ l. lines (i + l)) s l (at t) j) last
        ∙ strided-nil (λ l. lines (i + l)) s (at t) j (omega (arith, r.same)))

-- from the first variable on
pub walk_each : (lines : ℕ → Line) (ds t : List ℕ)
    → tabulate (length t) (strided lines 1 ds (at t)) ≡ tabulate (length t) (λ n. along_each lines ds (λ xs. at t (cell ds xs)) (digits ds n))
walk_each lines ds t = tabulate_cong (length t) _ _ (λ n p. strided-one lines ds (at t) n ∙ boxed-eq-along lines ds (at t) n)

-- one line for all variables
pub walk_same : (line : Line) (ds t : List ℕ)
    → tabulate (length t) (λ n. along_each (λ l. line) ds (λ xs. at t (cell ds xs)) (digits ds n))
    ≡ tabulate (length t) (λ n. along line ds (λ xs. at t (cell ds xs)) (digits ds n))
walk_same line ds t = tabulate_cong (length t) _ _ (λ n p. along_each_same line ds (λ xs. at t (cell ds xs)) (digits ds n))

-- with one transform for all
pub walk_along : (line : Line) (ds t : List ℕ)
    → tabulate (length t) (strided (λ l. line) 1 ds (at t)) ≡ tabulate (length t) (λ n. along line ds (λ xs. at t (cell ds xs)) (digits ds n))
walk_along line ds t =
    walk_each (λ l. line) ds t ∙ walk_same line ds t

-- where the first variable is done, u being the table after it, the others are left
pub walk_first : (line : Line) → Local line → (d : ℕ) (ds t u : List ℕ) → length t ≡ cells (d ∷ ds) → u ≡ tabulate (length t) (blocked line 1 d (at t))
    → tabulate (length u) (strided (λ l. line) (d + 1) ds (at u)) ≡ tabulate (length t) (strided (λ l. line) 1 (d ∷ ds) (at t))
unfolding cells
walk_first line local d ds t u whole done =
    ap (λ (n : ℕ). tabulate n (strided (λ l. line) (d + 1) ds (at u))) long
    ∙ tabulate_cong (length t) _ _ (λ n p.
    strided_cong (λ l. line) (λ l. local) (d + 1) ds (at u) (blocked line 1 d (at t)) (omega arith) shown n
    ∙ ap (λ (s : ℕ). strided (λ l. line) s ds (blocked line 1 d (at t)) n) stride
    ∙ sym (strided-step (λ l. line) 1 d ds (at t) n (omega arith)))
  where
    long : length u ≡ length t
    long = ap length done ∙ length-tabulate _ _

    stride : d + 1 ≡ 1 * suc d
    stride = omega arith

    shown : (j : ℕ) → j < (d + 1) * cells ds → at u j ≡ blocked line 1 d (at t) j
    shown j h =
        let size : (d + 1) * cells ds ≡ cells ds * suc d = regroup (cells ds) d in
        ap (λ (l : List ℕ). at l j) done ∙ at-tabulate (length t) _ j (rw whole (rw size at h))
      where
        regroup : (a d : ℕ) → (d + 1) * a ≡ a * suc d
        regroup a d = omega arith

-- the same from a degree list that is not empty, with its first degree
module _ (ds : List ℕ) (h : 0 < length ds) {n : ℕ} (whole : n ≡ cells ds) where
  pub first_rest : n ≡ (at ds 0 + 1) * cells (drop 1 ds)
  unfolding cells
  first_rest = whole ∙ ap cells (drop-cons ds 0 0 h) ∙ regroup (cells (drop 1 ds)) (at ds 0)
    where
      regroup : (a d : ℕ) → a * suc d ≡ (d + 1) * a
      regroup a d = omega arith

  pub first-divides : n % suc (at ds 0) ≡ 0
  first-divides = ap (◌% suc (at ds 0)) (first_rest ∙ regroup (cells (drop 1 ds)) (at ds 0)) ∙ mul-mod_left _ _
    where
      regroup : (a d : ℕ) → (d + 1) * a ≡ a * suc d
      regroup a d = omega arith

pub walk_short : (line : Line) → Local line → (ds t u : List ℕ) → 0 < length ds → length t ≡ cells ds
    → u ≡ tabulate (length t) (blocked line 1 (at ds 0) (at t))
    → tabulate (length u) (strided (λ l. line) (at ds 0 + 1) (drop 1 ds) (at u))
    ≡ tabulate (length t) (λ n. along line ds (λ xs. at t (cell ds xs)) (digits ds n))
walk_short line local [] t u h whole done = absurd (lt_irrefl 0 h)
walk_short line local (d ∷ ds) t u h whole done = walk_first line local d ds t u whole done ∙ walk_along line (d ∷ ds) t

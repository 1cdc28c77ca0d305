-- The columns of the fit's matrix, one after the other, and each column by the sub-boxes of the last variable of the grid.
use Rattle.std.specs.Prelude.{◌≡◌, refl, ◌⊎◌, List, [], ◌∷◌, ℕ, suc, ◌+◌, ◌*◌, ◌-◌, ◌%◌, ◌^◌, ◌≤◌, ◌<◌, min, bit_and, length, take, drop, set}
use Rattle.std.proofs.Common.{sym, ap, ap₂, subst, ◌∙◌, inl, inr, zero-le, mul_comm, one-mul, mul_assoc, mul-one, mul-le-mul_right, lt_of_not-le, lt_irrefl, ne_of_lt, ne_of_gt, zero-mul, not-suc-le-zero, eq-or-lt_of_le, le_of_suc-le-suc, suc-ne-zero, zero-lt-suc, add-one, arith, length-set, get_or-set_same, get_or-set_other, get_or-take, get_or-drop}
use Rattle.std.proofs.Math.Nat.{zero-mod, suc_inj}
use Rattle.std.proofs.Math.Decide.{dec_le}
use Rattle.std.proofs.Math.Arith.{digits_lt, digits_mod}
use Rattle.meaning.specs.Tables.{at, tabulate}
use Rattle.meaning.specs.Factorials.{falling}
use Rattle.meaning.specs.Boxes.{cells, digits}
use Rattle.meaning.specs.Values.{product}
use Rattle.theory.specs.Congruence.{Cong, cong_sym, cong_trans, cong_of_eq, cong_mul-left, cong_mul_right, mod-cong}
use Rattle.theory.specs.Parts.{part, put, length_part, part-entry, length-put, at-put-before, at-put-within, at-put-after}
use Rattle.theory.specs.Words.{masked_to}
use Rattle.theory.specs.LastVariable.{others, final, length-others, product_point}
use Rattle.theory.specs.MatrixTables.{flat, eq_matrix}
use Rattle.theory.specs.Tables.{at-tabulate-zero}
use Rattle.box_rows.specs.Walks.{Walk, walk_all, walk_size, walk_exponent, walk_end}
use Rattle.weighted_poly_fit.specs.Entries.{weighed, fallen, Tabled, column_entry, Columned, ZeroColumn}

-- ---- a walk over sub-boxes, counted by the last exponent

module _ {ds : List ℕ} {n size e from : ℕ} (w : Walk ds n size e from) where
  pub walk_at : Walk ds n size e (e * size)
  walk_at = subst (λ (f : ℕ). Walk ds n size e f) w.place w

  pub walk_inside : e < final ds + 1 → from < n
  walk_inside h = omega (arith, w.place, walk_all w, walk_size w, mul-le-mul_right size h)

  pub walk_whole : final ds + 1 ≤ e → from ≡ n
  walk_whole h = walk_end w (omega (arith, w.place, walk_all w, mul-le-mul_right size h))

-- ---- a column, row by row and part by part

module _ {cols c : ℕ} {f : ℕ → ℕ} {m₀ : List ℕ} where
  pub column_start : Columned cols c f m₀ m₀ 0
  column_start = record { same = refl; below = λ i h. absurd (not-suc-le-zero h); above = λ i h. refl; beside = λ i b h n. refl }

  pub column_none : {r : ℕ} → r ≡ 0 → Columned cols c f m₀ m₀ r
  column_none e = rw e column_start

  pub column_eq : {g : ℕ → ℕ} {m : List ℕ} {r : ℕ} → Columned cols c f m₀ m r → ((i : ℕ) → i < r → f i ≡ g i) → Columned cols c g m₀ m r
  column_eq k h = record { same = k.same; below = λ i l. k.below i l ∙ h i l; above = k.above; beside = k.beside }

  module _ {m : List ℕ} {r : ℕ} (k : Columned cols c f m₀ m r) (inside : c < cols) where
    -- rows whose entries are zero stay as they are
    pub column_skip : (s : ℕ) → ZeroColumn (r + s) cols c m₀ → ((i : ℕ) → i < s → f (r + i) ≡ 0) → Columned cols c f m₀ m (r + s)
    column_skip s z g =
        record {
          same = k.same;
          below = λ i h. go i h (dec_le r i);
          above = λ i h. k.above i (omega arith);
          beside = k.beside;
        }
      where
        go : (i : ℕ) → i < r + s → Dec (r ≤ i) → at m (i * cols + c) ≡ f i
        go i h (yes p) =
            let e : r + (i - r) ≡ i = omega arith in
            k.above i p ∙ z i h ∙ sym (g (i - r) (omega arith)) ∙ ap f e
        go i h (no p) = k.below i (lt_of_not-le p)

    -- the entry of row r
    pub column_set : r * cols + c < length m → (v : ℕ) → v ≡ f r → Columned cols c f m₀ (set m (r * cols + c) v) (r + 1)
    column_set fits v e =
        record {
          same = length-set m (r * cols + c) v ∙ k.same;
          below = λ i h. go i (eq-or-lt_of_le (le_of_suc-le-suc (rw (add-one r) at h)));
          above = λ i h. get_or-set_other m (r * cols + c) (i * cols + c) v 0 (ne_of_gt (later i (omega arith))) ∙ k.above i (omega arith);
          beside = λ i b h n. get_or-set_other m (r * cols + c) (i * cols + b) v 0 (λ q. n (apart i b h q)) ∙ k.beside i b h n;
        }
      where
        later : (i : ℕ) → r < i → r * cols + c < i * cols + c
        later i h = let l : suc r * cols ≤ i * cols = mul-le-mul_right cols h in omega (arith, l, inside)

        go : (i : ℕ) → (i ≡ r) ⊎ (i < r) → at (set m (r * cols + c) v) (i * cols + c) ≡ f i
        go i (inl q) = ap (λ (n : ℕ). at (set m (r * cols + c) v) (n * cols + c)) q ∙ get_or-set_same m (r * cols + c) v 0 fits ∙ e ∙ ap f (sym q)
        go i (inr l) =
            let p : suc i * cols ≤ r * cols = mul-le-mul_right cols l in
            get_or-set_other m (r * cols + c) (i * cols + c) v 0 (ne_of_lt (omega (arith, p, inside))) ∙ k.below i l

        apart : (i b : ℕ) → b < cols → i * cols + b ≡ r * cols + c → b ≡ c
        apart i b h q = sym (digits_mod i h) ∙ ap (◌% cols) q ∙ digits_mod r inside

    -- the rows from row r on are zero still
    pub column_zero : {n : ℕ} → ZeroColumn n cols c m₀ → (s : ℕ) → r + s ≤ n → ZeroColumn s cols c (part (r * cols) ((r + s) * cols) m)
    column_zero z s h i l =
        let e : r * cols + (i * cols + c) ≡ (r + i) * cols + c = omega arith in
        let span : (r + s) * cols - r * cols ≡ s * cols = omega arith in
        part-entry (r * cols) ((r + s) * cols) m (i * cols + c) (omega (arith, digits_lt l inside, span))
        ∙ ap (at m) e
        ∙ k.above (r + i) (omega arith)
        ∙ z (r + i) (omega arith)

    -- rows r to r + s, which were lent
    module _ (s : ℕ) (fits : (r + s) * cols ≤ length m) (ys : List ℕ) {g : ℕ → ℕ} {n : ℕ} (count : n ≡ s)
        (y : Columned cols c g (part (r * cols) ((r + s) * cols) m) ys n) (same : (i : ℕ) → i < s → g i ≡ f (r + i)) where
      order : r * cols ≤ (r + s) * cols
      order = mul-le-mul_right cols (omega arith)

      span : (r + s) * cols - r * cols ≡ s * cols
      span = omega arith

      long : length ys ≡ (r + s) * cols - r * cols
      long = y.same ∙ length_part (r * cols) ((r + s) * cols) m fits

      -- an entry before, in and after the part
      early : (i b : ℕ) → b < cols → i < r → at (put (r * cols) ((r + s) * cols) m ys) (i * cols + b) ≡ at m (i * cols + b)
      early i b h l = at-put-before (r * cols) ((r + s) * cols) m fits order ys long (i * cols + b) (digits_lt l h)

      within : (i b : ℕ) → b < cols → i < s → at (put (r * cols) ((r + s) * cols) m ys) ((r + i) * cols + b) ≡ at ys (i * cols + b)
      within i b h l =
          let e : (r + i) * cols + b ≡ r * cols + (i * cols + b) = omega arith in
          ap (at (put (r * cols) ((r + s) * cols) m ys)) e
          ∙ at-put-within (r * cols) ((r + s) * cols) m fits order ys long (i * cols + b) (omega (arith, digits_lt l h, span))

      late : (i b : ℕ) → r + s ≤ i → at (put (r * cols) ((r + s) * cols) m ys) (i * cols + b) ≡ at m (i * cols + b)
      late i b l =
          let p : (r + s) * cols ≤ i * cols = mul-le-mul_right cols l in
          at-put-after (r * cols) ((r + s) * cols) m fits order ys long (i * cols + b) (omega (arith, p))

      pub column_part : Columned cols c f m₀ (put (r * cols) ((r + s) * cols) m ys) (r + s)
      column_part =
          record {
            same = length-put (r * cols) ((r + s) * cols) m fits order ys long ∙ k.same;
            below = λ i h. go i h (dec_le r i);
            above = λ i h. late i c h ∙ k.above i (omega arith);
            beside = λ i b h n. next i b h n (dec_le r i) (dec_le (r + s) i);
          }
        where
          go : (i : ℕ) → i < r + s → Dec (r ≤ i) → at (put (r * cols) ((r + s) * cols) m ys) (i * cols + c) ≡ f i
          go i h (yes p) =
              let e : r + (i - r) ≡ i = omega arith in
              ap (λ (n : ℕ). at (put (r * cols) ((r + s) * cols) m ys) (n * cols + c)) (sym e)
              ∙ within (i - r) c inside (omega arith)
              ∙ y.below (i - r) (omega (arith, count))
              ∙ same (i - r) (omega arith)
              ∙ ap f e
          go i h (no p) = early i c inside (lt_of_not-le p) ∙ k.below i (lt_of_not-le p)

          next : (i b : ℕ) → b < cols → (b ≡ c → ⊥) → Dec (r ≤ i) → Dec (r + s ≤ i)
              → at (put (r * cols) ((r + s) * cols) m ys) (i * cols + b) ≡ at m₀ (i * cols + b)
          next i b h n (no p) q = early i b h (lt_of_not-le p) ∙ k.beside i b h n
          next i b h n (yes p) (yes q) = late i b q ∙ k.beside i b h n
          next i b h n (yes p) (no q) =
              let e : r + (i - r) ≡ i = omega arith in
              let l : i - r < s = omega (arith, lt_of_not-le q) in
              let there : r * cols + ((i - r) * cols + b) ≡ i * cols + b = omega (arith, ap (◌* cols) e) in
              ap (λ (n : ℕ). at (put (r * cols) ((r + s) * cols) m ys) (n * cols + b)) (sym e)
              ∙ within (i - r) b h l
              ∙ y.beside (i - r) b h n
              ∙ part-entry (r * cols) ((r + s) * cols) m ((i - r) * cols + b) (omega (arith, digits_lt l h, span))
              ∙ ap (at m) there
              ∙ k.beside i b h n

-- ---- the entries of a column

module _ (w : ℕ) (narrow : w ≤ 64) {mask : ℕ} (masks : mask ≡ 2 ^ min w 64 - 1) where
  -- what the mask keeps of a product
  pub kept : (v f : ℕ) {q : ℕ} → q ≡ (v * f) % 2 ^ 64 → bit_and q mask ≡ (v * f) % 2 ^ w
  kept v f e = ap₂ bit_and e masks ∙ masked_to (v * f) w narrow

  -- the product with one falling factorial more
  pub product_more : (v x e : ℕ) {f q : ℕ} → q ≡ (v * f) % 2 ^ 64 → f ≡ fallen w x e → Cong (2 ^ w) (bit_and q mask) (v * falling x e)
  product_more v x e {f} p h =
      cong_trans (cong_of_eq (2 ^ w) (kept v f p))
      (cong_trans (mod-cong (2 ^ w) (v * f)) (cong_mul-left v (cong_trans (cong_of_eq (2 ^ w) h) (mod-cong (2 ^ w) (falling x e)))))

  -- an entry of a line: the product times the weight, and zero where the product is
  module _ (v x e W : ℕ) {f q : ℕ} (p : q ≡ (v * f) % 2 ^ 64) (h : f ≡ fallen w x e) where
    line-product : Cong (2 ^ w) (W * (v * fallen w x e)) (bit_and q mask * W)
    line-product =
        cong_trans (cong_of_eq (2 ^ w) (mul_comm W (v * fallen w x e)))
        (cong_mul_right W (cong_sym (cong_trans (cong_of_eq (2 ^ w) (kept v f p)) (cong_trans (mod-cong (2 ^ w) (v * f)) (cong_of_eq (2 ^ w) (ap (v *◌) h))))))

    pub line-entry : {r : ℕ} → r ≡ (bit_and q mask * W) % 2 ^ 64 → bit_and r mask ≡ (W * (v * fallen w x e)) % 2 ^ w
    line-entry o = kept (bit_and q mask) W o ∙ sym line-product.same

    pub line-zero : bit_and q mask ≡ 0 → (W * (v * fallen w x e)) % 2 ^ w ≡ 0
    line-zero z = line-product.same ∙ ap (λ (n : ℕ). (n * W) % 2 ^ w) z ∙ ap (◌% 2 ^ w) (zero-mul W) ∙ zero-mod (2 ^ w)

module _ (w v : ℕ) (gs es ws : List ℕ) (filled : 0 < length gs) (x : ℕ) (low : x ≤ final gs) {u : ℕ}
    (same : Cong (2 ^ w) u (v * falling x (at es (length gs - 1)))) where
  -- the entries of sub-box x are those of the smaller box, from the product with one falling factorial more
  pub entry-sub : (i : ℕ) → i < cells (others gs)
      → column_entry w v gs es ws (x * cells (others gs) + i)
      ≡ (at ws (x * cells (others gs) + i) * (u * product falling (length (others gs)) (digits (others gs) i) es)) % 2 ^ w
  unfolding column_entry
  entry-sub i h =
      let W = at ws (x * cells (others gs) + i) in
      let P = product falling (length (others gs)) (digits (others gs) i) es in
      let F = falling x (at es (length gs - 1)) in
      ap (λ (n : ℕ). (W * (v * n)) % 2 ^ w) (product_point gs filled x i low h falling es)
      ∙ ap (λ (n : ℕ). (W * n) % 2 ^ w) (sym (mul_assoc v F P))
      ∙ (cong_mul-left W (cong_mul_right P (cong_sym same))).same

  -- they are zero where that product is
  pub entry_zero : u ≡ 0 → (i : ℕ) → i < cells (others gs) → column_entry w v gs es ws (x * cells (others gs) + i) ≡ 0
  entry_zero z i h =
      entry-sub i h
      ∙ ap (λ (n : ℕ). (at ws (x * cells (others gs) + i) * (n * product falling (length (others gs)) (digits (others gs) i) es)) % 2 ^ w) z
      ∙ ap (◌% 2 ^ w) (omega arith)
      ∙ zero-mod (2 ^ w)

-- a walk over the sub-boxes: the entries of a sub-box that is lent
module _ (w v : ℕ) {gs : List ℕ} (es ws : List ℕ) {rows x from : ℕ} (k : Walk gs (length ws) rows x from) (h : from < length ws) {u : ℕ}
    (same : Cong (2 ^ w) u (v * falling x (at es (length gs - 1)))) where
  place : (i : ℕ) → x * cells (others gs) + i ≡ from + i
  place i = ap (λ (n : ℕ). x * n + i) (sym k.sized) ∙ ap (◌+ i) (sym k.place)

  pub entry-part : (i : ℕ) → i < rows → column_entry w u (others gs) es (part from (from + rows) ws) i ≡ column_entry w v gs es ws (from + i)
  unfolding column_entry
  entry-part i l =
      let P = product falling (length (others gs)) (digits (others gs) i) es in
      ap (λ (n : ℕ). (n * (u * P)) % 2 ^ w) (part-entry from (from + rows) ws i (omega arith))
      ∙ ap (λ (n : ℕ). (at ws n * (u * P)) % 2 ^ w) (sym (place i))
      ∙ sym (entry-sub w v gs es ws k.filled x (walk_exponent k h) same i (rw k.sized at l))
      ∙ ap (column_entry w v gs es ws) (place i)

  pub entry_none : u ≡ 0 → (i : ℕ) → i < rows → column_entry w v gs es ws (from + i) ≡ 0
  entry_none z i l =
      ap (column_entry w v gs es ws) (sym (place i)) ∙ entry_zero w v gs es ws k.filled x (walk_exponent k h) same z i (rw k.sized at l)

-- what a smaller box is asked for
pub tabled_others : (gs es : List ℕ) (size : ℕ) (table : List ℕ) → 0 < length gs → Tabled gs es size table → Tabled (others gs) es size table
tabled_others gs es size table filled t j h =
    let l : j < length gs - 1 = omega (arith, length-others gs filled) in
    let r = t j (omega arith) in
    (r.0, rw (get_or-take (length gs - 1) gs j 0 l) r.1)

-- with one variable the entries are those of the line
pub entry-line : (w v : ℕ) (gs es ws : List ℕ) → length gs ≡ 1 → (x : ℕ) → x < cells gs
    → (at ws x * (v * fallen w x (at es (length gs - 1)))) % 2 ^ w ≡ column_entry w v gs es ws x
unfolding cells product
entry-line w v [] es ws one x h = absurd (suc-ne-zero 0 (sym one))
entry-line w v (g ∷ []) es ws one x h =
    let e : x * 1 + 0 ≡ x = omega arith in
    let u = v * fallen w x (at es 0) in
    sym
    (ap (column_entry w v (g ∷ []) es ws) (sym e)
    ∙ entry-sub w v (g ∷ []) es ws (zero-lt-suc 0) x (omega arith) {u = u} (cong_mul-left v (mod-cong (2 ^ w) (falling x (at es 0)))) 0 (zero-lt-suc 0)
    ∙ ap₂ (λ (n k : ℕ). (at ws n * k) % 2 ^ w) e (mul-one u))
entry-line w v (g ∷ (y ∷ ys)) es ws one x h = absurd (suc-ne-zero (length ys) (suc_inj one))

pub cells-one : (gs : List ℕ) → length gs ≡ 1 → cells gs ≡ at gs (length gs - 1) + 1
unfolding cells
cells-one [] one = absurd (suc-ne-zero 0 (sym one))
cells-one (g ∷ []) one = omega arith
cells-one (g ∷ (y ∷ ys)) one = absurd (suc-ne-zero (length ys) (suc_inj one))

-- ---- all columns

-- the columns before column c are filled, the others zero
pub record Columns (E : ℕ → ℕ → ℕ) (rows cols : ℕ) (m₀ m : List ℕ) (c : ℕ) : Type 0 where
  pub whole : length m₀ ≡ rows * cols
  pub same : length m ≡ length m₀
  pub few : c ≤ cols
  pub below : (i b : ℕ) → i < rows → b < c → at m (i * cols + b) ≡ E i b
  pub above : (i b : ℕ) → c ≤ b → b < cols → at m (i * cols + b) ≡ 0

module _ {E : ℕ → ℕ → ℕ} {rows cols : ℕ} {m₀ : List ℕ} where
  pub columns-start : length m₀ ≡ rows * cols → m₀ ≡ tabulate (length m₀) (λ n. 0) → Columns E rows cols m₀ m₀ 0
  columns-start e z =
      record {
        whole = e;
        same = refl;
        few = zero-le;
        below = λ i b h l. absurd (not-suc-le-zero l);
        above = λ i b h l. ap (λ (t : List ℕ). at t (i * cols + b)) z ∙ at-tabulate-zero (length m₀) (i * cols + b);
      }

  module _ {m : List ℕ} {c : ℕ} (r : Columns E rows cols m₀ m c) where
    pub columns-zero : c < cols → ZeroColumn rows cols c m
    columns-zero h i l = r.above i c (omega arith) h

    pub columns_next : c < cols → (m' : List ℕ) {f : ℕ → ℕ} → Columned cols c f m m' rows → ((i : ℕ) → i < rows → f i ≡ E i c)
        → Columns E rows cols m₀ m' (c + 1)
    columns_next h m' k g =
        record {
          whole = r.whole;
          same = k.same ∙ r.same;
          few = omega arith;
          below = λ i b p l. go i b p (eq-or-lt_of_le (le_of_suc-le-suc (rw (add-one c) at l)));
          above = λ i b l p. k.beside i b p (λ q. lt_irrefl c (omega arith)) ∙ r.above i b (omega arith) p;
        }
      where
        go : (i b : ℕ) → i < rows → (b ≡ c) ⊎ (b < c) → at m' (i * cols + b) ≡ E i b
        go i b p (inl q) = ap (λ (n : ℕ). at m' (i * cols + n)) q ∙ k.below i p ∙ g i p ∙ ap (E i) (sym q)
        go i b p (inr l) = k.beside i b (omega arith) (ne_of_lt l) ∙ r.below i b p l

    pub columns_done : cols ≤ c → m ≡ tabulate (length m₀) (flat cols E)
    columns_done h =
        eq_matrix m rows cols E (r.same ∙ r.whole) (λ i b p q. r.below i b p (omega arith)) ∙ ap (λ (n : ℕ). tabulate n (flat cols E)) r.same

-- the entry of a column whose exponents are a part of the list
pub entry-weighed : (w : ℕ) (gs columns ws : List ℕ) (c : ℕ) (i : ℕ)
    → column_entry w 1 gs (take (length gs) (drop (c * length gs) columns)) ws i ≡ weighed w gs columns ws i c
unfolding column_entry weighed
entry-weighed w gs columns ws c i = ap (λ (n : ℕ). (at ws i * n) % 2 ^ w) (omega arith)

-- of one variable, whose column c has the exponent c
pub one-weighed : (w : ℕ) (gs columns ws : List ℕ) → length gs ≡ 1 → ((c : ℕ) → c < length columns → at columns c ≡ c)
    → (i c : ℕ) → i < cells gs → c < length columns → (at ws i * fallen w i c) % 2 ^ w ≡ weighed w gs columns ws i c
one-weighed w gs columns ws one f i c h l =
    let es = take (length gs) (drop (c * length gs) columns) in
    let k : length gs - 1 < length gs = omega arith in
    let p : c * length gs + (length gs - 1) ≡ c = omega (arith, ap (c *◌) one) in
    let e : at es (length gs - 1) ≡ c =
    get_or-take (length gs) (drop (c * length gs) columns) (length gs - 1) 0 k
    ∙ get_or-drop (c * length gs) columns (length gs - 1) 0
    ∙ ap (at columns) p
    ∙ f c l in
    ap (λ (n : ℕ). (at ws i * n) % 2 ^ w) (sym (one-mul (fallen w i c)))
    ∙ ap (λ (n : ℕ). (at ws i * (1 * fallen w i n)) % 2 ^ w) (sym e)
    ∙ entry-line w 1 gs es ws one i h
    ∙ entry-weighed w gs columns ws c i

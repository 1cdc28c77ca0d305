-- Two passes of a move at once, row by row. Each pass adds to a row a multiple of the row above it, so passes k + 1 and k add a multiple of the row above and
-- one of the row two above: the near factor is a sum of two differences of nodes, the far one a product. Only pass k reaches row k, and no pass changes row d,
-- so that row d - 1 gets no far row. In row k the factors of a move are g and g (g - 1) with g = a - k. In row k + 1 they are 2 g and g (g + 1), and g is one
-- more from row to row, so that both factors are counted up by sums.
use Rattle.std.specs.Prelude.{◌≡◌, ℕ, suc, ◌+◌, ◌*◌, ◌/◌, ◌%◌, ◌<◌, ◌≤◌, ◌⊎◌, List, refl}
use Rattle.std.proofs.Common.{sym, ap, ap₂, ◌∙◌, inl, inr, le_refl, le_trans, eq-or-lt_of_le, mul-le-mul_right, mul_comm, arith}
use Rattle.std.proofs.Math.Nat.{lt_of_mul-lt-mul_left}
use Rattle.meaning.specs.Differences.{minus}
use Rattle.theory.specs.Congruence.{Cong, cong_of_eq, cong_sym, cong_trans, cong_refl, cong_add, cong_add_right, cong_mul, cong_add_cancel, cong_minus_of_add, mod-cong, minus-add}
use Rattle.theory.specs.MovedLines.{shift}
use Rattle.lines.specs.FlatTables.{lined}
use Rattle.lines.specs.InPlace.{Parted, parted_of_high, shows_low, index_le, index_lt}
use Rattle.lines.specs.NodeOrders.{from, from_keep, from_top, from_line, Opened}
use Rattle.moves.specs.NodeRows.{Added, row_parted, from_row}

-- ---- one line

module _ (k d : ℕ) (δ : ℕ → ℕ → ℕ) (c : ℕ → ℕ) where
  -- number j before the two passes
  abbrev old : ℕ → ℕ
  old j = from (suc (suc k)) d δ c j

  -- number k
  from_first : suc k < d → from k d δ c k ≡ old k + (δ 0 k * old (suc k) + δ 0 k * δ 0 (suc k) * old (suc (suc k)))
  from_first h =
      from_row k d δ c 0 k (omega arith) (omega arith)
      ∙ ap₂ (λ x y. x + δ 0 k * y) (from_keep (suc k) d δ c k (le_refl _) ∙ sym (from_keep (suc (suc k)) d δ c k (omega arith)))
      (from_row (suc k) d δ c 0 (suc k) (omega arith) h)
      ∙ omega arith

  -- a number between number k and number d - 1
  from_next : (row j : ℕ) → j ≡ suc k + row → suc j < d
      → from k d δ c j ≡ old j + ((δ row (suc k) + δ (suc row) k) * old (suc j) + δ (suc row) k * δ (suc row) (suc k) * old (suc (suc j)))
  from_next row j e h =
      from_row k d δ c (suc row) j (omega arith) (omega arith)
      ∙ ap₂ (λ x y. x + δ (suc row) k * y) (from_row (suc k) d δ c row j e (omega arith)) (from_row (suc k) d δ c (suc row) (suc j) (omega arith) h)
      ∙ omega arith

  -- number d - 1
  from_last : (row j : ℕ) → j ≡ suc k + row → suc j ≡ d → from k d δ c j ≡ old j + ((δ row (suc k) + δ (suc row) k) * old (suc j) + 0 * old (suc (suc j)))
  from_last row j e h =
      from_row k d δ c (suc row) j (omega arith) (omega arith)
      ∙ ap₂ (λ x y. x + δ (suc row) k * y) (from_row (suc k) d δ c row j e (omega arith))
      (from_top (suc k) d δ c (suc j) (omega arith) ∙ sym (from_top (suc (suc k)) d δ c (suc j) (omega arith)))
      ∙ omega arith

-- ---- modulo m, a block of s interleaved lines

-- a block of n numbers, f at the start, within the passes k + 1 and k, which have come up to place i
pub record Pairing (m : ℕ) (δ : ℕ → ℕ → ℕ) (s d : ℕ) (f : ℕ → ℕ) (n k i : ℕ) (t : List ℕ) : Type 0 where
  pub parted : Parted (lined (from_line m δ k) s d f) (lined (from_line m δ (suc (suc k))) s d f) n i t

module _ {m : ℕ} {δ : ℕ → ℕ → ℕ} {s d : ℕ} {f : ℕ → ℕ} {n k : ℕ} {t : List ℕ} (pos : 0 < s) where
  -- the two passes begin at index k
  pub pair_start : Opened m δ s d f n (suc (suc k)) t → Pairing m δ s d f n k (s * k) t
  unfolding lined
  pair_start r =
      record {
        parted = parted_of_high (s * k) r.shows (λ j p q.
            ap (◌% m) (from_keep k d δ _ (j / s) (index_lt s pos k j p) ∙ sym (from_keep (suc (suc k)) d δ _ (j / s) (omega (arith, index_lt s pos k j p)))));
      }

  -- they end below the highest index
  pub pair_done : {i : ℕ} → s * d ≤ i → Pairing m δ s d f n k i t → Opened m δ s d f n k t
  unfolding lined
  pair_done h r =
      record {
        shows = shows_low r.parted (λ j p q.
            let l : d ≤ j / s = index_le s pos d j (le_trans h p) in
            ap (◌% m) (from_top k d δ _ (j / s) l ∙ sym (from_top (suc (suc k)) d δ _ (j / s) l)));
      }

  module _ {t' : List ℕ} {near : ℕ} (whole : n ≡ s * suc d) where
    -- row k
    pub pair_first : {b far : ℕ} → b ≡ k * s → suc k < d → Cong m near (δ 0 k) → Cong m far (δ 0 k * δ 0 (suc k))
        → Pairing m δ s d f n k b t → Added m s b near far t t' (b + s) → Pairing m δ s d f n k (b + s) t'
    pair_first place h nears fars o r =
        record { parted = row_parted δ f k (suc (suc k)) k pos whole place (omega arith) (inr h) nears fars (λ c. from_first k d δ c h) o.parted r }

    module _ {b : ℕ} (row j : ℕ) (e : j ≡ suc k + row) (place : b ≡ j * s) (nears : Cong m near (δ row (suc k) + δ (suc row) k)) where
      -- a row between row k and row d - 1
      pub pair_next : {far : ℕ} → suc j < d → Cong m far (δ (suc row) k * δ (suc row) (suc k))
          → Pairing m δ s d f n k b t → Added m s b near far t t' (b + s) → Pairing m δ s d f n k (b + s) t'
      pair_next h fars o r =
          record {
            parted = row_parted δ f k (suc (suc k)) j pos whole place (omega arith) (inr h) nears fars (λ c. from_next k d δ c row j e h) o.parted r;
          }

      -- row d - 1
      pub pair_last : suc j ≡ d → Pairing m δ s d f n k b t → Added m s b near 0 t t' (b + s) → Pairing m δ s d f n k (b + s) t'
      pair_last h o r =
          record {
            parted = row_parted δ f k (suc (suc k)) j pos whole place (omega arith) (inl refl) nears (cong_refl 0) (λ c. from_last k d δ c row j e h)
                o.parted r;
          }

-- ---- the rows of a move

-- the passes k + 1 and k of a move by a have come up to the place `from`, that of row k + 1 + `row`, whose factors are 2 g and g (g + 1) for g = a + row - k
pub record Pairs (m a s d k from near far : ℕ) : Type 0 where
  pub row : ℕ
  pub middle : ℕ
  pub place : from ≡ (suc k + row) * s
  pub within : suc k + row < d
  pub middles : Cong m (middle + k) (a + row)
  pub nears : Cong m near (middle + middle)
  pub fars : Cong m far (middle * suc middle)

-- n more on both sides
more : {m x y b c : ℕ} (n : ℕ) → Cong m x y → b ≡ x + n → c ≡ y + n → Cong m b c
more n h e l = rw (e, l) (cong_add_right n h)

-- the nodes of row k, for g = a - k
nodes : {m g : ℕ} (a k : ℕ) → 0 < m → g ≡ minus m a k → Cong m (g + k) (a + 0)
nodes {m} a k positive e = rw e (cong_trans (minus-add a k positive) (cong_of_eq m {a = a} {b = a + 0} (omega arith)))

module _ {m s d k : ℕ} (a : ℕ) (positive : 0 < m) where
  -- row k, whose factors are g and g (g - 1)
  pub pairs_first : {from g less far : ℕ} {f : ℕ → ℕ} {n : ℕ} {t t' : List ℕ} → 0 < s → n ≡ s * suc d → suc k < d → from ≡ s * k
      → g ≡ minus m a k → less ≡ minus m g 1 → far ≡ (g * less) % m → Opened m (shift m a) s d f n (suc (suc k)) t → Added m s from g far t t' (from + s)
      → Pairing m (shift m a) s d f n k (from + s) t'
  pairs_first {from} {g} {less} {far} pos whole h place e l p r =
      pair_first pos whole (place ∙ mul_comm s k) h nears (cong_trans (cong_of_eq m p) (cong_trans (mod-cong m (g * less)) (cong_mul nears lesses)))
      (rw place (pair_start pos r))
    where
      nears : Cong m g (shift m a 0 k)
      nears = cong_minus_of_add k positive (nodes a k positive e)

      lesses : Cong m less (shift m a 0 (suc k))
      lesses =
          cong_minus_of_add (suc k) positive
          (cong_trans (more {x = less + 1} {y = g} k (rw l (minus-add g 1 positive)) (omega arith) refl) (nodes a k positive e))

  -- the row after it
  pub pairs_start : {from g up near far : ℕ} → suc k < d → from ≡ s * k → g ≡ minus m a k → up ≡ (g + 1) % m → near ≡ (g + g) % m
      → far ≡ (g * up) % m → Pairs m a s d k (from + s) near far
  pairs_start {from} {g} {up} h place e l p q =
      record {
        row = 0;
        middle = g;
        place = omega arith;
        within = omega arith;
        middles = nodes a k positive e;
        nears = cong_trans (cong_of_eq m p) (mod-cong m (g + g));
        fars = cong_trans (cong_of_eq m q) (cong_trans (mod-cong m (g * up)) (cong_mul (cong_refl g) ups));
      }
    where
      ups : Cong m up (suc g)
      ups = rw l (cong_trans (mod-cong m (g + 1)) (cong_of_eq m {a = g + 1} {b = suc g} (omega arith)))

module _ {m a s d k from near far : ℕ} (positive : 0 < m) (r : Pairs m a s d k from near far) where
  -- a row that is not the last is left
  pairs_low : from + s < s * d → suc (suc k + r.row) < d
  pairs_low h =
      let e : s * suc (suc k + r.row) ≡ from + s = omega (arith, r.place) in
      lt_of_mul-lt-mul_left s (rw e h)

  -- it has two rows above it, the last one has one
  pub pairs_fits : {n : ℕ} → n ≡ s * suc d → from + s < s * d → from + s + s + s ≤ n
  pairs_fits whole h = omega (arith, r.place, mul-le-mul_right s (pairs_low h))

  pub pairs_fits_last : {n : ℕ} → n ≡ s * suc d → from + s + s ≤ n
  pairs_fits_last whole = omega (arith, r.place, mul-le-mul_right s r.within)

  -- the differences of nodes that its factors are made of are g - 1, g + 1 and g
  less : Cong m (shift m a r.row (suc k) + 1) r.middle
  less =
      cong_add_cancel k
      (cong_trans (cong_of_eq m {a = shift m a r.row (suc k) + 1 + k} {b = shift m a r.row (suc k) + suc k} (omega arith))
      (cong_trans (minus-add _ (suc k) positive) (cong_sym r.middles)))

  up : Cong m (suc r.middle) (shift m a (suc r.row) k)
  up = cong_minus_of_add k positive (more 1 r.middles (omega arith) (omega arith))

  even : Cong m r.middle (shift m a (suc r.row) (suc k))
  even = cong_minus_of_add (suc k) positive (more 1 r.middles (omega arith) (omega arith))

  -- so the factors are those of two passes
  nears : Cong m near (shift m a r.row (suc k) + shift m a (suc r.row) k)
  nears =
      let x : ℕ = shift m a r.row (suc k) in
      cong_trans r.nears
      (cong_trans (cong_add_right r.middle (cong_sym less))
      (cong_trans (cong_of_eq m {a = x + 1 + r.middle} {b = x + suc r.middle} (omega arith)) (cong_add (cong_refl x) up)))

  fars : Cong m far (shift m a (suc r.row) k * shift m a (suc r.row) (suc k))
  fars = cong_trans r.fars (cong_trans (cong_of_eq m (mul_comm r.middle _)) (cong_mul up even))

  -- the next row
  pub pairs_step : {near' far' : ℕ} → from + s < s * d → near' ≡ (near + 2) % m → far' ≡ (far + near') % m → Pairs m a s d k (from + s) near' far'
  pairs_step {near'} {far'} h e l =
      let low : suc (suc k + r.row) < d = pairs_low h in
      record {
        row = suc r.row;
        middle = suc g;
        place = omega (arith, r.place);
        within = omega arith;
        middles = more 1 r.middles (omega arith) (omega arith);
        nears = nears';
        fars =
            cong_trans (cong_of_eq m l)
            (cong_trans (mod-cong m (far + near'))
            (cong_trans (cong_add r.fars nears') (cong_of_eq m {a = g * suc g + (suc g + suc g)} {b = suc g * suc (suc g)} (omega arith))));
      }
    where
      g : ℕ
      g = r.middle

      nears' : Cong m near' (suc g + suc g)
      nears' = cong_trans (cong_of_eq m e) (cong_trans (mod-cong m (near + 2)) (more 2 r.nears refl (omega arith)))

  module _ {f : ℕ → ℕ} {n : ℕ} {t t' : List ℕ} (pos : 0 < s) (whole : n ≡ s * suc d) where
    -- the row done
    pub pairs_next : from + s < s * d → Pairing m (shift m a) s d f n k from t → Added m s from near far t t' (from + s)
        → Pairing m (shift m a) s d f n k (from + s) t'
    pairs_next h = pair_next pos whole r.row (suc k + r.row) refl r.place nears (pairs_low h) fars

    -- the last row done
    pub pairs_last : s * d ≤ from + s → Pairing m (shift m a) s d f n k from t → Added m s from near 0 t t' (from + s) → Opened m (shift m a) s d f n k t'
    pairs_last h o e = pair_done pos h (pair_last pos whole r.row (suc k + r.row) refl r.place nears (go (eq-or-lt_of_le r.within)) o e)
      where
        go : (suc (suc k + r.row) ≡ d) ⊎ (suc (suc k + r.row) < d) → suc (suc k + r.row) ≡ d
        go (inl q) = q
        go (inr q) = absurd (omega (arith, r.place, mul-le-mul_right s q))

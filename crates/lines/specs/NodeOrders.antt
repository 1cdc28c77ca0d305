-- The same change of nodes in the opposite order. Taking the form from the inside, q over the old nodes s 1, s 2, .. is rewritten over the new nodes
-- first; then c 0 + (y - s 0) q has at index j the coefficient q (j - 1) + (t j - s 0) q j, as y - s 0 is (y - t j) + (t j - s 0). In place: for k from
-- d - 1 down to 0, coefficient j gets (t (j - k) - s k) times coefficient j + 1 added, for j from k up to d - 1 (`stepped`): the number above is the one before
-- the pass, so that no turn waits for the one before it. Both orders give the same numbers, exactly and for any differences δ (`expanded-eq-rewritten`).
-- The conversion to falling factorials runs by the first order, where its differences are constant in a pass, the conversion to powers by this one.
use Rattle.std.specs.Prelude.{◌≡◌, ℕ, zero, suc, ◌+◌, ◌-◌, ◌*◌, ◌/◌, ◌%◌, ◌<◌, ◌≤◌, ◌⊎◌, List, length, slice_set, refl}
use Rattle.std.proofs.Common.{sym, ap, ap₂, ◌∙◌, inl, inr, not-suc-le-zero, le_of_suc-le-suc, le_refl, le_trans, eq-or-lt_of_le, add-one, arith}
use Rattle.std.proofs.Math.Nat.{suc-sub-suc, sub-zero}
use Rattle.std.proofs.Math.Decide.{dec_le}
use Rattle.meaning.specs.Tables.{at}
use Rattle.theory.specs.Congruence.{cong_sym, cong_add, cong_mul-left, mod-cong}
use Rattle.lines.specs.FlatTables.{lined}
use Rattle.theory.specs.AlongEach.{Line}
use Rattle.lines.specs.InPlace.{Shows, Parted, parted_of_high, shows_low, parted_up, lined-add, index_le, index_lt}
use Rattle.lines.specs.NodePasses.{after, after_line, passed_of_table, shows_lined}
use Rattle.theory.specs.Nodes.{before, rewritten, node_line, rewritten_top, rewritten-first, rewritten_next}

-- ---- one line

-- the line b of degree d after one pass with the differences γ, each number by the one above it as it was
unfoldable pub stepped : ℕ → (ℕ → ℕ) → (ℕ → ℕ) → ℕ → ℕ
stepped zero γ b j = b j
stepped (suc d) γ b zero = b 0 + γ 0 * b 1
stepped (suc d) γ b (suc j) = stepped d (λ i. γ (suc i)) (λ i. b (suc i)) j

-- the line after all passes, the innermost first
unfoldable pub expanded : ℕ → (ℕ → ℕ → ℕ) → (ℕ → ℕ) → ℕ → ℕ
expanded zero δ c j = c j
expanded (suc d) δ c j = stepped (suc d) (λ i. δ i 0) (before (c 0) (expanded d (λ l i. δ l (suc i)) (λ i. c (suc i)))) j

-- one number of a pass
stepped-step : (d : ℕ) (γ b : ℕ → ℕ) (j : ℕ) → j < d → stepped d γ b j ≡ b j + γ j * b (suc j)
unfolding stepped
stepped-step zero γ b j h = absurd (not-suc-le-zero h)
stepped-step (suc d) γ b zero h = refl
stepped-step (suc d) γ b (suc j) h = stepped-step d (λ i. γ (suc i)) (λ i. b (suc i)) j (le_of_suc-le-suc h)

-- the highest coefficient stays
stepped_top : (d : ℕ) (γ b : ℕ → ℕ) (j : ℕ) → d ≤ j → stepped d γ b j ≡ b j
unfolding stepped
stepped_top zero γ b j h = refl
stepped_top (suc d) γ b zero h = absurd (not-suc-le-zero h)
stepped_top (suc d) γ b (suc j) h = stepped_top d (λ i. γ (suc i)) (λ i. b (suc i)) j (le_of_suc-le-suc h)

expanded_top : (d : ℕ) (δ : ℕ → ℕ → ℕ) (c : ℕ → ℕ) (j : ℕ) → d ≤ j → expanded d δ c j ≡ c j
unfolding expanded before
expanded_top zero δ c j h = refl
expanded_top (suc d) δ c zero h = absurd (not-suc-le-zero h)
expanded_top (suc d) δ c (suc j) h =
    stepped_top (suc d) (λ i. δ i 0) (before (c 0) (expanded d (λ l i. δ l (suc i)) (λ i. c (suc i)))) (suc j) h
    ∙ expanded_top d (λ l i. δ l (suc i)) (λ i. c (suc i)) j (le_of_suc-le-suc h)

-- both orders give the same line
pub expanded-eq-rewritten : (d : ℕ) (δ : ℕ → ℕ → ℕ) (c : ℕ → ℕ) (j : ℕ) → j ≤ d → expanded d δ c j ≡ rewritten d δ c j
unfolding expanded before stepped rewritten
expanded-eq-rewritten zero δ c j h = refl
expanded-eq-rewritten (suc d) δ c zero h =
    ap (λ x. c 0 + δ 0 0 * x) (expanded-eq-rewritten d (λ l i. δ l (suc i)) (λ i. c (suc i)) 0 (omega arith)) ∙ sym (rewritten-first d δ c)
expanded-eq-rewritten (suc d) δ c (suc j) h =
    go (expanded-eq-rewritten d (λ l i. δ l (suc i)) (λ i. c (suc i))) (eq-or-lt_of_le (le_of_suc-le-suc h))
  where
    go : ((i : ℕ) → i ≤ d → expanded d (λ l i. δ l (suc i)) (λ i. c (suc i)) i ≡ rewritten d (λ l i. δ l (suc i)) (λ i. c (suc i)) i)
        → (j ≡ d) ⊎ (j < d) → expanded (suc d) δ c (suc j) ≡ rewritten (suc d) δ c (suc j)
    go same (inl e) = rw e (expanded_top (suc d) δ c (suc d) (le_refl (suc d)) ∙ sym (rewritten_top (suc d) δ c))
    go same (inr l) =
        stepped-step (suc d) (λ i. δ i 0) (before (c 0) (expanded d (λ l i. δ l (suc i)) (λ i. c (suc i)))) (suc j) (omega arith)
        ∙ ap₂ (λ x y. x + δ (suc j) 0 * y) (same j (omega arith)) (same (suc j) l)
        ∙ sym (rewritten_next d δ c j l)

-- the line when the passes from d - 1 down to k are done
unfoldable pub from : ℕ → ℕ → (ℕ → ℕ → ℕ) → (ℕ → ℕ) → ℕ → ℕ
from zero d δ c j = expanded d δ c j
from (suc k) zero δ c j = c j
from (suc k) (suc d) δ c zero = c 0
from (suc k) (suc d) δ c (suc j) = from k d (λ l i. δ l (suc i)) (λ i. c (suc i)) j

-- one number of pass k
pub from_step : (k d : ℕ) (δ : ℕ → ℕ → ℕ) (c : ℕ → ℕ) (j : ℕ) → k ≤ j → j < d
    → from k d δ c j ≡ from (suc k) d δ c j + δ (j - k) k * from (suc k) d δ c (suc j)
unfolding from expanded before
from_step zero zero δ c j h l = absurd (not-suc-le-zero l)
from_step zero (suc d) δ c j h l =
    stepped-step (suc d) (λ i. δ i 0) (before (c 0) (expanded d (λ l i. δ l (suc i)) (λ i. c (suc i)))) j l
    ∙ ap₂ (λ x y. x + δ y 0 * expanded d (λ l i. δ l (suc i)) (λ i. c (suc i)) j) (same j) (sym (sub-zero j))
  where
    same : (j : ℕ) → before (c 0) (expanded d (λ l i. δ l (suc i)) (λ i. c (suc i))) j ≡ from 1 (suc d) δ c j
    same zero = refl
    same (suc j) = refl
from_step (suc k) d δ c zero h l = absurd (not-suc-le-zero h)
from_step (suc k) zero δ c (suc j) h l = absurd (not-suc-le-zero l)
from_step (suc k) (suc d) δ c (suc j) h l =
    rw (suc-sub-suc j k) (from_step k d (λ l i. δ l (suc i)) (λ i. c (suc i)) j (le_of_suc-le-suc h) (le_of_suc-le-suc l))

-- below k and at the degree nothing has changed
pub from_keep : (k d : ℕ) (δ : ℕ → ℕ → ℕ) (c : ℕ → ℕ) (j : ℕ) → j < k → from k d δ c j ≡ c j
unfolding from
from_keep zero d δ c j h = absurd (not-suc-le-zero h)
from_keep (suc k) zero δ c j h = refl
from_keep (suc k) (suc d) δ c zero h = refl
from_keep (suc k) (suc d) δ c (suc j) h = from_keep k d (λ l i. δ l (suc i)) (λ i. c (suc i)) j (le_of_suc-le-suc h)

pub from_top : (k d : ℕ) (δ : ℕ → ℕ → ℕ) (c : ℕ → ℕ) (j : ℕ) → d ≤ j → from k d δ c j ≡ c j
unfolding from
from_top zero d δ c j h = expanded_top d δ c j h
from_top (suc k) zero δ c j h = refl
from_top (suc k) (suc d) δ c zero h = refl
from_top (suc k) (suc d) δ c (suc j) h = from_top k d (λ l i. δ l (suc i)) (λ i. c (suc i)) j (le_of_suc-le-suc h)

-- a pass whose differences are 0 changes nothing
pub from_idle : (k d : ℕ) (δ : ℕ → ℕ → ℕ) (c : ℕ → ℕ) (j : ℕ) → ((i : ℕ) → δ i k ≡ 0) → from (suc k) d δ c j ≡ from k d δ c j
from_idle k d δ c j none = go (dec_le k j) (dec_le d j)
  where
    go : Dec (k ≤ j) → Dec (d ≤ j) → from (suc k) d δ c j ≡ from k d δ c j
    go (no p) q = from_keep (suc k) d δ c j (omega arith) ∙ sym (from_keep k d δ c j (omega arith))
    go (yes p) (yes q) = from_top (suc k) d δ c j q ∙ sym (from_top k d δ c j q)
    go (yes p) (no q) = sym (from_step k d δ c j p (omega arith) ∙ omega (arith, ap (◌* from (suc k) d δ c (suc j)) (none (j - k))))

-- ---- modulo m, a block of s interleaved lines

abbrev pub from_line : ℕ → (ℕ → ℕ → ℕ) → ℕ → Line
from_line m δ k d c j = from k d δ c j % m

-- a block of n numbers, f at the start, with the passes down to k done
pub record Opened (m : ℕ) (δ : ℕ → ℕ → ℕ) (s d : ℕ) (f : ℕ → ℕ) (n k : ℕ) (t : List ℕ) : Type 0 where
  pub shows : Shows (lined (from_line m δ k) s d f) n t

-- the same within pass k, which has come up to place i
pub record Opening (m : ℕ) (δ : ℕ → ℕ → ℕ) (s d : ℕ) (f : ℕ → ℕ) (n k i : ℕ) (t : List ℕ) : Type 0 where
  pub parted : Parted (lined (from_line m δ k) s d f) (lined (from_line m δ (suc k)) s d f) n i t

-- before the first pass, which is pass d - 1
pub opened_of_table : {m s : ℕ} (δ : ℕ → ℕ → ℕ) (d : ℕ) (t : List ℕ) → 0 < s → length t ≡ s * suc d → ((i : ℕ) → i < length t → at t i < m)
    → Opened m δ s d (at t) (length t) d t
unfolding after
opened_of_table {m} {s} δ d t pos whole small =
    record {
      shows = shows_lined (after_line m δ 0) (from_line m δ d) (at t) pos whole (λ c j h. ap (◌% m) (sym (start c j (eq-or-lt_of_le h))))
          (passed_of_table δ s d t small).shows;
    }
  where
    start : (c : ℕ → ℕ) (j : ℕ) → (j ≡ d) ⊎ (j < d) → from d d δ c j ≡ c j
    start c j (inl e) = from_top d d δ c j (omega arith)
    start c j (inr l) = from_keep d d δ c j l

-- one number of pass k, by the numbers before that pass
pub lined-from : (m : ℕ) (δ : ℕ → ℕ → ℕ) (s d : ℕ) (f : ℕ → ℕ) (k i : ℕ) → 0 < s → s * k ≤ i → i < s * d → lined (from_line m δ k) s d f i
    ≡ (lined (from_line m δ (suc k)) s d f i + δ (i / s - k) k * lined (from_line m δ (suc k)) s d f (i + s)) % m
unfolding lined
lined-from m δ s d f k i pos p q =
    ap (◌% m) (from_step k d δ _ (i / s) (index_le s pos k i p) (index_lt s pos d i q))
    ∙ (cong_add (cong_sym (mod-cong m _)) (cong_mul-left (δ (i / s - k) k) (cong_sym (mod-cong m _)))).same
    ∙ ap (λ x. (lined (from_line m δ (suc k)) s d f i + δ (i / s - k) k * x) % m) (sym (lined-add s pos (from_line m δ (suc k)) d f i))

module _ {m : ℕ} {δ : ℕ → ℕ → ℕ} {s d : ℕ} {f : ℕ → ℕ} {n : ℕ} {t : List ℕ} (pos : 0 < s) (whole : n ≡ s * suc d) where
  -- a pass begins at index k
  pub open_start : {k : ℕ} → Opened m δ s d f n (suc k) t → Opening m δ s d f n k (s * k) t
  unfolding lined
  open_start {k} r =
      record {
        parted = parted_of_high (s * k) r.shows (λ j p q.
            ap (◌% m) (from_keep k d δ _ (j / s) (index_lt s pos k j p) ∙ sym (from_keep (suc k) d δ _ (j / s) (omega (arith, index_lt s pos k j p)))));
      }

  -- one number of it
  pub open_step : {k i : ℕ} → s * k ≤ i → i < s * d → Opening m δ s d f n k i t → (v : ℕ)
      → v ≡ (at t i + δ (i / s - k) k * at t (i + s)) % m → Opening m δ s d f n k (i + 1) (slice_set t i v)
  open_step {k} {i} h l r v e = rw add-one (record { parted = parted_up r.parted v number })
    where
      number : v ≡ lined (from_line m δ k) s d f i
      number =
          e
          ∙ ap₂ (λ x y. (x + δ (i / s - k) k * y) % m) (r.parted.above i (le_refl i) (omega arith)) (r.parted.above (i + s) (omega arith) (omega arith))
          ∙ sym (lined-from m δ s d f k i pos h l)

  -- it ends below the highest index
  pub open_done : {k i : ℕ} → s * d ≤ i → Opening m δ s d f n k i t → Opened m δ s d f n k t
  unfolding lined
  open_done {k} h r =
      record {
        shows = shows_low r.parted (λ j p q.
            let l : d ≤ j / s = index_le s pos d j (le_trans h p) in
            ap (◌% m) (from_top k d δ _ (j / s) l ∙ sym (from_top (suc k) d δ _ (j / s) l)));
      }

  -- a pass whose differences are 0 may be left out
  pub open_idle : {k : ℕ} → ((i : ℕ) → δ i k ≡ 0) → Opened m δ s d f n (suc k) t → Opened m δ s d f n k t
  open_idle {k} none r =
      record { shows = shows_lined (from_line m δ (suc k)) (from_line m δ k) f pos whole (λ c j h. ap (◌% m) (from_idle k d δ c j none)) r.shows }

  -- after pass 0 the block is done
  pub opens_done : Opened m δ s d f n 0 t → Shows (lined (node_line m δ) s d f) n t
  unfolding from
  opens_done r = shows_lined (from_line m δ 0) (node_line m δ) f pos whole (λ c j h. ap (◌% m) (expanded-eq-rewritten d δ c j h)) r.shows

-- The passes of a change of nodes in place. `after k` is the line after k passes: pass k alters the indices from k to d - 1, each by the number
-- above it as it is after the pass, so that a loop from the highest index down needs no second table; below k and at the degree nothing changes, and after
-- d passes the line is `rewritten`. All of this is exact, for any differences δ. A block of s interleaved lines is `lined` of FlatTables: the table shows k
-- passes, or k + 1 from some place on (`Passed`, `Passing`). Both Stirling conversions and the datum are these passes with differences of their own.
use Rattle.std.specs.Prelude.{◌≡◌, ℕ, zero, suc, ◌+◌, ◌-◌, ◌*◌, ◌/◌, ◌%◌, ◌<◌, ◌≤◌, List, length, slice_set, refl}
use Rattle.std.proofs.Common.{sym, ap, ap₂, ◌∙◌, not-suc-le-zero, le_of_suc-le-suc, lt_of_lt_of_le, mod-eq_of_lt, div-add-mod', sub-one, arith}
use Rattle.std.proofs.Math.Nat.{suc-sub-suc, sub-zero}
use Rattle.std.proofs.Math.Decide.{dec_le}
use Rattle.meaning.specs.Tables.{at}
use Rattle.theory.specs.Congruence.{cong_sym, cong_add, cong_mul-left, mod-cong}
use Rattle.lines.specs.FlatTables.{lined}
use Rattle.theory.specs.AlongEach.{Line}
use Rattle.lines.specs.InPlace.{Shows, Parted, parted_of_low, shows_high, parted_down, lined-add, index_le, index_lt}
use Rattle.theory.specs.Nodes.{passed, rewritten, node_line, passed-step, passed_top}

-- ---- one line

-- the line c of degree d after the passes 0 .. k - 1
unfoldable pub after : ℕ → ℕ → (ℕ → ℕ → ℕ) → (ℕ → ℕ) → ℕ → ℕ
after zero d δ c j = c j
after (suc k) d δ c zero = passed d (δ 0) c 0
after (suc k) zero δ c (suc j) = c (suc j)
after (suc k) (suc d) δ c (suc j) = after k d (λ l. δ (suc l)) (λ i. passed (suc d) (δ 0) c (suc i)) j

-- the first pass
after_one : (d : ℕ) (δ : ℕ → ℕ → ℕ) (c : ℕ → ℕ) (j : ℕ) → after 1 d δ c j ≡ passed d (δ 0) c j
unfolding after passed
after_one d δ c zero = refl
after_one zero δ c (suc j) = refl
after_one (suc d) δ c (suc j) = refl

-- one number of pass k
pub after-step : (k d : ℕ) (δ : ℕ → ℕ → ℕ) (c : ℕ → ℕ) (j : ℕ) → k ≤ j → j < d
    → after (suc k) d δ c j ≡ after k d δ c j + δ k (j - k) * after (suc k) d δ c (suc j)
unfolding after
after-step zero d δ c j h l =
    after_one d δ c j ∙ passed-step d (δ 0) c j l ∙ ap₂ (λ x y. c j + δ 0 x * y) (sym (sub-zero j)) (sym (after_one d δ c (suc j)))
after-step (suc k) d δ c zero h l = absurd (not-suc-le-zero h)
after-step (suc k) zero δ c (suc j) h l = absurd (not-suc-le-zero l)
after-step (suc k) (suc d) δ c (suc j) h l =
    rw (suc-sub-suc j k)
    (after-step k d (λ l. δ (suc l)) (λ i. passed (suc d) (δ 0) c (suc i)) j (le_of_suc-le-suc h) (le_of_suc-le-suc l))

-- below k nothing changes
pub after_keep : (k d : ℕ) (δ : ℕ → ℕ → ℕ) (c : ℕ → ℕ) (j : ℕ) → j < k → after (suc k) d δ c j ≡ after k d δ c j
unfolding after
after_keep zero d δ c j h = absurd (not-suc-le-zero h)
after_keep (suc k) d δ c zero h = refl
after_keep (suc k) zero δ c (suc j) h = refl
after_keep (suc k) (suc d) δ c (suc j) h = after_keep k d (λ l. δ (suc l)) (λ i. passed (suc d) (δ 0) c (suc i)) j (le_of_suc-le-suc h)

-- nor at the degree
pub after_top : (k d : ℕ) (δ : ℕ → ℕ → ℕ) (c : ℕ → ℕ) (j : ℕ) → d ≤ j → after k d δ c j ≡ c j
unfolding after
after_top zero d δ c j h = refl
after_top (suc k) d δ c zero h = passed_top d (δ 0) c 0 h
after_top (suc k) zero δ c (suc j) h = refl
after_top (suc k) (suc d) δ c (suc j) h =
    after_top k d (λ l. δ (suc l)) (λ i. passed (suc d) (δ 0) c (suc i)) j (le_of_suc-le-suc h) ∙ passed_top (suc d) (δ 0) c (suc j) h

-- a pass whose differences are 0 changes nothing
after_idle : (k d : ℕ) (δ : ℕ → ℕ → ℕ) (c : ℕ → ℕ) (j : ℕ) → ((i : ℕ) → δ k i ≡ 0) → after (suc k) d δ c j ≡ after k d δ c j
after_idle k d δ c j none = go (dec_le k j) (dec_le d j)
  where
    go : Dec (k ≤ j) → Dec (d ≤ j) → after (suc k) d δ c j ≡ after k d δ c j
    go (no p) q = after_keep k d δ c j (omega arith)
    go (yes p) (yes q) = after_top (suc k) d δ c j q ∙ sym (after_top k d δ c j q)
    go (yes p) (no q) = after-step k d δ c j p (omega arith) ∙ omega (arith, ap (◌* after (suc k) d δ c (suc j)) (none (j - k)))

-- after d passes all is done
pub after_done : (k d : ℕ) (δ : ℕ → ℕ → ℕ) (c : ℕ → ℕ) (j : ℕ) → d ≤ k → after k d δ c j ≡ rewritten d δ c j
unfolding after rewritten passed
after_done zero zero δ c j h = refl
after_done zero (suc d) δ c j h = absurd (not-suc-le-zero h)
after_done (suc k) zero δ c zero h = refl
after_done (suc k) (suc d) δ c zero h = refl
after_done (suc k) zero δ c (suc j) h = refl
after_done (suc k) (suc d) δ c (suc j) h = after_done k d (λ l. δ (suc l)) (λ i. passed (suc d) (δ 0) c (suc i)) j (le_of_suc-le-suc h)

-- ---- modulo m

-- a line after k passes
abbrev pub after_line : ℕ → (ℕ → ℕ → ℕ) → ℕ → Line
after_line m δ k d c j = after k d δ c j % m

-- ---- a block of s interleaved lines

-- transforms that are the same up to the degree are the same to a block
pub shows_lined : (p q : Line) {s d : ℕ} (f : ℕ → ℕ) {n : ℕ} {t : List ℕ} → 0 < s → n ≡ s * suc d
    → ((c : ℕ → ℕ) (j : ℕ) → j ≤ d → p d c j ≡ q d c j) → Shows (lined p s d f) n t → Shows (lined q s d f) n t
unfolding lined
shows_lined p q {s} {d} f pos whole same r =
    record { same = r.same; entry = λ i h. r.entry i h ∙ same _ (i / s) (le_of_suc-le-suc (index_lt s pos (suc d) i (rw whole at h))) }

-- a block of n numbers, f at the start, after k passes
pub record Passed (m : ℕ) (δ : ℕ → ℕ → ℕ) (s d : ℕ) (f : ℕ → ℕ) (n k : ℕ) (t : List ℕ) : Type 0 where
  pub shows : Shows (lined (after_line m δ k) s d f) n t

-- the same within pass k, which has come down to place i
pub record Passing (m : ℕ) (δ : ℕ → ℕ → ℕ) (s d : ℕ) (f : ℕ → ℕ) (n k i : ℕ) (t : List ℕ) : Type 0 where
  pub parted : Parted (lined (after_line m δ k) s d f) (lined (after_line m δ (suc k)) s d f) n i t

-- before the first pass
pub passed_of_table : {m : ℕ} (δ : ℕ → ℕ → ℕ) (s d : ℕ) (t : List ℕ) → ((i : ℕ) → i < length t → at t i < m) → Passed m δ s d (at t) (length t) 0 t
unfolding lined after
passed_of_table {m} δ s d t small =
    record { shows = record { same = refl; entry = λ i p. sym (ap (λ x. at t x % m) (div-add-mod' i s) ∙ mod-eq_of_lt (small i p)) } }

module _ (m : ℕ) (δ : ℕ → ℕ → ℕ) (s d : ℕ) (f : ℕ → ℕ) (pos : 0 < s) (k i : ℕ) where
  -- one number of pass k, by the number of that pass above it
  pub lined-after : s * k ≤ i → i < s * d → lined (after_line m δ (suc k)) s d f i
      ≡ (lined (after_line m δ k) s d f i + δ k (i / s - k) * lined (after_line m δ (suc k)) s d f (i + s)) % m
  unfolding lined
  lined-after p q =
      ap (◌% m) (after-step k d δ _ (i / s) (index_le s pos k i p) (index_lt s pos d i q))
      ∙ (cong_add (cong_sym (mod-cong m _)) (cong_mul-left (δ k (i / s - k)) (cong_sym (mod-cong m _)))).same
      ∙ ap (λ x. (lined (after_line m δ k) s d f i + δ k (i / s - k) * x) % m) (sym (lined-add s pos (after_line m δ (suc k)) d f i))

  -- the numbers of the highest index stay, and so do those below index k
  pub lined_top : s * d ≤ i → lined (after_line m δ k) s d f i ≡ lined (after_line m δ (suc k)) s d f i
  unfolding lined
  lined_top p = ap (◌% m) (after_top k d δ _ (i / s) (index_le s pos d i p) ∙ sym (after_top (suc k) d δ _ (i / s) (index_le s pos d i p)))

  pub lined_keep : i < s * k → lined (after_line m δ k) s d f i ≡ lined (after_line m δ (suc k)) s d f i
  unfolding lined
  lined_keep p = ap (◌% m) (sym (after_keep k d δ _ (i / s) (index_lt s pos k i p)))

module _ {m : ℕ} {δ : ℕ → ℕ → ℕ} {s d : ℕ} {f : ℕ → ℕ} {n : ℕ} {t : List ℕ} (pos : 0 < s) (whole : n ≡ s * suc d) where
  -- a pass begins below the highest index
  pub pass_start : {k : ℕ} → Passed m δ s d f n k t → Passing m δ s d f n k (s * d) t
  pass_start {k} r = record { parted = parted_of_low (s * d) r.shows (λ j p q. lined_top m δ s d f pos k j p) }

  -- one number of it
  pub pass_step : {k i : ℕ} → s * k < i → i ≤ s * d → Passing m δ s d f n k i t → (v : ℕ)
      → v ≡ (at t (i - 1) + δ k ((i - 1) / s - k) * at t (i - 1 + s)) % m → Passing m δ s d f n k (i - 1) (slice_set t (i - 1) v)
  pass_step {k} {i = zero} h l r v e = absurd (not-suc-le-zero h)
  pass_step {k} {i = suc i} h l r v e = rw sub-one (record { parted = parted_down r.parted v number })
    where
      number : v ≡ lined (after_line m δ (suc k)) s d f i
      number =
          (simp sub-one at e)
          ∙ ap₂ (λ x y. (x + δ k (i / s - k) * y) % m) (r.parted.below i (omega arith) (omega arith)) (r.parted.above (i + s) (omega arith) (omega arith))
          ∙ sym (lined-after m δ s d f pos k i (le_of_suc-le-suc h) (omega arith))

  -- it ends at index k
  pub pass_done : {k i : ℕ} → i ≤ s * k → Passing m δ s d f n k i t → Passed m δ s d f n (suc k) t
  pass_done {k} h r = record { shows = shows_high r.parted (λ j p q. lined_keep m δ s d f pos k j (lt_of_lt_of_le p h)) }

  -- a pass whose differences are 0 may be left out
  pub pass_idle : {k : ℕ} → ((i : ℕ) → δ k i ≡ 0) → Passed m δ s d f n k t → Passed m δ s d f n (suc k) t
  pass_idle {k} none r =
      record {
        shows = shows_lined (after_line m δ k) (after_line m δ (suc k)) f pos whole (λ c j h. ap (◌% m) (sym (after_idle k d δ c j none))) r.shows;
      }

  -- after d passes the block is done
  pub passes_done : {k : ℕ} → d ≤ k → Passed m δ s d f n k t → Shows (lined (node_line m δ) s d f) n t
  passes_done {k} l r = shows_lined (after_line m δ k) (node_line m δ) f pos whole (λ c j h. ap (◌% m) (after_done k d δ c j l)) r.shows

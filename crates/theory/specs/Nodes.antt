-- Forms over lists of nodes, and the change from one list of nodes to another, in place and without a table. A form with nodes s and
-- coefficients c is c 0 + (y - s 0) (c 1 + (y - s 1) (c 2 + ..)). Falling factorials of x have the nodes 0, 1, 2, .., powers have all nodes 0, and
-- falling factorials of x = y - a have the nodes a, a + 1, ... One pass puts a node t in front and drops the last one: dividing by y - t,
-- it adds (t - s j) times the new coefficient j + 1 to coefficient j, from the highest index down (`passed`). Pass k does this to the coefficients from
-- k on, and after all passes (`rewritten`) the nodes are t 0, t 1, ... No pass changes the value. Only the factors y - s i enter, as numbers u i, so that
-- the algebra is one exchange: with e + v for u, e b + v (b + u q) is u (b + v q). A number δ k i stands for t k - s i where δ k i + s i is t k modulo m.
use Rattle.std.specs.Prelude.{◌≡◌, refl, ℕ, zero, suc, ◌+◌, ◌*◌, ◌%◌, ◌^◌, ◌≤◌, ◌<◌}
use Rattle.std.proofs.Common.{sym, ap, ◌∙◌, not-suc-le-zero, le_of_suc-le-suc, le_refl, one-mul, pow-suc, arith}
use Rattle.std.proofs.Math.Nat.{pow-zero}
use Rattle.meaning.specs.Sums.{sum}
use Rattle.meaning.specs.Factorials.{falling}
use Rattle.meaning.specs.Differences.{minus}
use Rattle.theory.specs.Congruence.{Cong, cong_of_eq, cong_refl, cong_sym, cong_trans, cong_add-left, cong_add_right, cong_mul-left, cong_mul_right, cong_add_cancel, minus-add}
use Rattle.theory.specs.Binomials.{mul-falling}
use Rattle.theory.specs.AlongEach.{Line}

-- ---- nested forms, by their factors

-- c 0 + u 0 (c 1 + u 1 (.. c d))
unfoldable pub nested : ℕ → (ℕ → ℕ) → (ℕ → ℕ) → ℕ
nested zero u c = c 0
nested (suc d) u c = c 0 + u 0 * nested d (λ i. u (suc i)) (λ i. c (suc i))

-- the factor v in front of the factors u
unfoldable pub before : ℕ → (ℕ → ℕ) → ℕ → ℕ
before v u zero = v
before v u (suc i) = u i

-- the line c of degree d after one pass with the differences δ, from the highest index down; what lies beyond the degree stays
unfoldable pub passed : ℕ → (ℕ → ℕ) → (ℕ → ℕ) → ℕ → ℕ
passed zero δ c j = c j
passed (suc d) δ c zero = c 0 + δ 0 * passed d (λ i. δ (suc i)) (λ i. c (suc i)) 0
passed (suc d) δ c (suc j) = passed d (λ i. δ (suc i)) (λ i. c (suc i)) j

-- the line after all passes: pass k with the differences δ k, over the coefficients from k on
unfoldable pub rewritten : ℕ → (ℕ → ℕ → ℕ) → (ℕ → ℕ) → ℕ → ℕ
rewritten zero δ c j = c j
rewritten (suc d) δ c zero = passed (suc d) (δ 0) c 0
rewritten (suc d) δ c (suc j) = rewritten d (λ k. δ (suc k)) (λ i. passed (suc d) (δ 0) c (suc i)) j

-- the same modulo m, as a transform of a line
abbrev pub node_line : ℕ → (ℕ → ℕ → ℕ) → Line
node_line m δ d c j = rewritten d δ c j % m

-- one number of a pass
pub passed-step : (d : ℕ) (δ c : ℕ → ℕ) (j : ℕ) → j < d → passed d δ c j ≡ c j + δ j * passed d δ c (suc j)
unfolding passed
passed-step zero δ c j h = absurd (not-suc-le-zero h)
passed-step (suc d) δ c zero h = refl
passed-step (suc d) δ c (suc j) h = passed-step d (λ i. δ (suc i)) (λ i. c (suc i)) j (le_of_suc-le-suc h)

-- the highest coefficient stays
pub passed_top : (d : ℕ) (δ c : ℕ → ℕ) (j : ℕ) → d ≤ j → passed d δ c j ≡ c j
unfolding passed
passed_top zero δ c j h = refl
passed_top (suc d) δ c zero h = absurd (not-suc-le-zero h)
passed_top (suc d) δ c (suc j) h = passed_top d (λ i. δ (suc i)) (λ i. c (suc i)) j (le_of_suc-le-suc h)

-- all passes keep it
pub rewritten_top : (d : ℕ) (δ : ℕ → ℕ → ℕ) (c : ℕ → ℕ) → rewritten d δ c d ≡ c d
unfolding rewritten
rewritten_top zero δ c = refl
rewritten_top (suc d) δ c = rewritten_top d (λ k. δ (suc k)) (λ i. passed (suc d) (δ 0) c (suc i)) ∙ passed_top (suc d) (δ 0) c (suc d) (le_refl (suc d))

-- the first coefficient of all passes is that of the first
pub rewritten-zero : (d : ℕ) (δ : ℕ → ℕ → ℕ) (c : ℕ → ℕ) → rewritten d δ c 0 ≡ passed d (δ 0) c 0
unfolding rewritten passed
rewritten-zero zero δ c = refl
rewritten-zero (suc d) δ c = refl

-- the coefficients by those of the form without its first old node
pub rewritten-first : (d : ℕ) (δ : ℕ → ℕ → ℕ) (c : ℕ → ℕ)
    → rewritten (suc d) δ c 0 ≡ c 0 + δ 0 0 * rewritten d (λ l i. δ l (suc i)) (λ i. c (suc i)) 0
unfolding rewritten passed
rewritten-first d δ c = ap (λ x. c 0 + δ 0 0 * x) (sym (rewritten-zero d (λ l i. δ l (suc i)) (λ i. c (suc i))))

pub rewritten_next : (d : ℕ) (δ : ℕ → ℕ → ℕ) (c : ℕ → ℕ) (j : ℕ) → j < d → rewritten (suc d) δ c (suc j)
    ≡ rewritten d (λ l i. δ l (suc i)) (λ i. c (suc i)) j + δ (suc j) 0 * rewritten d (λ l i. δ l (suc i)) (λ i. c (suc i)) (suc j)
unfolding rewritten passed
rewritten_next zero δ c j h = absurd (not-suc-le-zero h)
rewritten_next (suc d) δ c zero h = rewritten-first d (λ l. δ (suc l)) (passed (suc d) (λ i. δ 0 (suc i)) (λ i. c (suc i)))
rewritten_next (suc d) δ c (suc j) h =
    rewritten_next d (λ l. δ (suc l)) (passed (suc d) (λ i. δ 0 (suc i)) (λ i. c (suc i))) j (le_of_suc-le-suc h)

module _ {m : ℕ} where
  -- two neighbouring factors change places
  nested_exchange : (d e v : ℕ) (u b : ℕ → ℕ) → Cong m (e + v) (u 0)
      → Cong m (e * b 0 + v * nested d u b) (u 0 * nested d (before v (λ i. u (suc i))) b)
  unfolding nested before
  nested_exchange zero e v u b h =
      cong_trans (cong_of_eq m {a = e * b 0 + v * b 0} {b = (e + v) * b 0} (omega arith)) (cong_mul_right (b 0) h)
  nested_exchange (suc d) e v u b h =
      let q : ℕ = nested d (λ i. u (suc i)) (λ i. b (suc i)) in
      cong_trans (cong_of_eq m {a = e * b 0 + v * (b 0 + u 0 * q)} {b = (e + v) * b 0 + u 0 * (v * q)} (omega arith))
      (cong_trans (cong_add_right (u 0 * (v * q)) (cong_mul_right (b 0) h))
      (cong_of_eq m {a = u 0 * b 0 + u 0 * (v * q)} {b = u 0 * (b 0 + v * q)} (omega arith)))

  -- a pass keeps the value
  pub nested-passed : (d v : ℕ) (δ u c : ℕ → ℕ) → ((i : ℕ) → Cong m (δ i + v) (u i))
      → Cong m (nested d (before v u) (passed d δ c)) (nested d u c)
  unfolding nested before passed
  nested-passed zero v δ u c h = cong_refl (c 0)
  nested-passed (suc d) v δ u c h =
      let b : ℕ → ℕ = passed d (λ i. δ (suc i)) (λ i. c (suc i)) in
      cong_trans (cong_of_eq m {a = c 0 + δ 0 * b 0 + v * nested d u b} {b = c 0 + (δ 0 * b 0 + v * nested d u b)} (omega arith))
      (cong_add-left (c 0)
      (cong_trans (nested_exchange d (δ 0) v u b (h 0))
      (cong_mul-left (u 0) (nested-passed d v (λ i. δ (suc i)) (λ i. u (suc i)) (λ i. c (suc i)) (λ i. h (suc i))))))

  -- all passes keep the value
  pub nested-rewritten : (d : ℕ) (δ : ℕ → ℕ → ℕ) (u v c : ℕ → ℕ) → ((k i : ℕ) → Cong m (δ k i + v k) (u i))
      → Cong m (nested d v (rewritten d δ c)) (nested d u c)
  unfolding nested before rewritten
  nested-rewritten zero δ u v c h = cong_refl (c 0)
  nested-rewritten (suc d) δ u v c h =
      cong_trans
      (cong_add-left (passed (suc d) (δ 0) c 0) (cong_mul-left (v 0)
      (nested-rewritten d (λ k. δ (suc k)) u (λ k. v (suc k)) (λ i. passed (suc d) (δ 0) c (suc i)) (λ k i. h (suc k) i))))
      (nested-passed (suc d) (v 0) (δ 0) u c (h 0))

-- ---- bases

-- at the point y the numbers B are 1, y - s 0, (y - s 0) (y - s 1), .., modulo m
pub record Nodal (m : ℕ) (s : ℕ → ℕ) (y : ℕ) (B : ℕ → ℕ) : Type 0 where
  pub one : B 0 ≡ 1
  pub next : (j : ℕ) → Cong m (B (suc j) + s j * B j) (y * B j)

-- powers have all nodes 0
pub nodal_power : (m y : ℕ) → Nodal m (λ i. 0) y (λ j. y ^ j)
nodal_power m y = record { one = pow-zero y; next = λ j. cong_of_eq m (omega (arith, pow-suc y j)) }

-- falling factorials have the nodes 0, 1, 2, ..
pub nodal_falling : (m y : ℕ) → Nodal m (λ i. i) y (falling y)
unfolding falling
nodal_falling m y = record { one = refl; next = λ j. cong_of_eq m (sym (mul-falling y j)) }

-- falling factorials of x have at x + a the nodes a, a + 1, a + 2, ..
pub nodal_falling-add : (m x a : ℕ) → Nodal m (λ i. a + i) (x + a) (falling x)
unfolding falling
nodal_falling-add m x a = record { one = refl; next = λ j. cong_of_eq m (omega (arith, mul-falling x j)) }

module _ {m : ℕ} (positive : 0 < m) where
  -- the next number is the factor times the one before
  nodal_mul : {s : ℕ → ℕ} {y : ℕ} {B : ℕ → ℕ} → Nodal m s y B → (j : ℕ) → Cong m (B (suc j)) (B j * minus m y (s j))
  nodal_mul {s} {y} {B} n j =
      cong_add_cancel (s j * B j)
      (cong_trans (n.next j)
      (cong_trans (cong_mul_right (B j) (cong_sym (minus-add y (s j) positive)))
      (cong_of_eq m {a = (minus m y (s j) + s j) * B j} {b = B j * minus m y (s j) + s j * B j} (omega arith))))

  -- a sum over products of factors is nested
  sum-nested : (d : ℕ) (B u c : ℕ → ℕ) → ((j : ℕ) → Cong m (B (suc j)) (B j * u j))
      → Cong m (sum (suc d) (λ j. B j * c j)) (B 0 * nested d u c)
  unfolding nested sum
  sum-nested zero B u c h = cong_of_eq m (omega arith)
  sum-nested (suc d) B u c h =
      let q : ℕ = nested d (λ i. u (suc i)) (λ i. c (suc i)) in
      cong_trans
      (cong_add-left (B 0 * c 0)
      (cong_trans (sum-nested d (λ j. B (suc j)) (λ j. u (suc j)) (λ j. c (suc j)) (λ j. h (suc j))) (cong_mul_right q (h 0))))
      (cong_of_eq m {a = B 0 * c 0 + B 0 * u 0 * q} {b = B 0 * (c 0 + u 0 * q)} (omega arith))

  -- a form is the nested one of its factors
  pub nodal_nested : {s : ℕ → ℕ} {y : ℕ} {B : ℕ → ℕ} → Nodal m s y B → (d : ℕ) (c : ℕ → ℕ)
      → Cong m (sum (suc d) (λ j. B j * c j)) (nested d (λ i. minus m y (s i)) c)
  nodal_nested {s} {y} {B} n d c =
      cong_trans (sum-nested d B (λ i. minus m y (s i)) c (nodal_mul n))
      (cong_of_eq m (ap (◌* nested d (λ i. minus m y (s i)) c) n.one ∙ one-mul _))

  -- from the nodes s to the nodes t no value changes
  pub sum-rewritten : {s t : ℕ → ℕ} {y : ℕ} {B C : ℕ → ℕ} (δ : ℕ → ℕ → ℕ) → ((k i : ℕ) → Cong m (δ k i + s i) (t k))
      → Nodal m s y B → Nodal m t y C → (d : ℕ) (c : ℕ → ℕ)
      → Cong m (sum (suc d) (λ j. C j * rewritten d δ c j)) (sum (suc d) (λ j. B j * c j))
  sum-rewritten {s} {t} {y} δ h old new d c =
      cong_trans (nodal_nested new d (rewritten d δ c))
      (cong_trans (nested-rewritten d δ (λ i. minus m y (s i)) (λ k. minus m y (t k)) c factor) (cong_sym (nodal_nested old d c)))
    where
      factor : (k i : ℕ) → Cong m (δ k i + minus m y (t k)) (minus m y (s i))
      factor k i =
          cong_add_cancel (s i)
          (cong_trans (cong_of_eq m {a = δ k i + minus m y (t k) + s i} {b = minus m y (t k) + (δ k i + s i)} (omega arith))
          (cong_trans (cong_add-left (minus m y (t k)) (h k i))
          (cong_trans (minus-add y (t k) positive) (cong_sym (minus-add y (s i) positive)))))

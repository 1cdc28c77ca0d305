-- A line moved by a. The falling factorial of x + a to e is the sum over j of choose e j times those of x to j and of a to e - j, so that
-- coefficient j of the moved line is a sum over e (`moved_line`). It is also what the passes from the nodes 0, 1, 2, .. to the nodes a, a + 1, .. give:
-- the coefficients by those of the form without its first old node (`rewritten_next`) are a recurrence in the degree, where the move by b + 1 stands on
-- the move by b, and the numbers choose e j × falling a (e - j) have the same (`part_next`). As modulo m any a is a b + 1, the recurrence never ends at 0.
use Rattle.std.specs.Prelude.{◌≡◌, ◌⊎◌, ◌≢◌, ℕ, zero, suc, ◌+◌, ◌-◌, ◌*◌, ◌%◌, ◌≤◌, ◌<◌}
use Rattle.std.proofs.Common.{sym, ap, ap₂, ◌∙◌, inl, inr, suc-le-suc, zero-le, not-suc-le-zero, le_of_suc-le-suc, le_refl, sub-eq-zero_of_le, eq-or-lt_of_le, lt_of_not-le, zero-lt-suc, not-le_of_lt, add-zero, zero-add, zero-mul, mul-zero, one-mul, mul_assoc, le_of_lt, arith}
use Rattle.std.proofs.Math.Nat.{sub_self, suc-sub-suc, sub-zero}
use Rattle.std.proofs.Math.Decide.{dec_le}
use Rattle.std.proofs.Math.Arith.{lt_of_le-ne}
use Rattle.meaning.specs.Sums.{sum}
use Rattle.meaning.specs.Factorials.{falling}
use Rattle.meaning.specs.Differences.{minus}
use Rattle.theory.specs.Congruence.{Cong, cong_of_eq, cong_sym, cong_trans, cong_add, cong_add-left, cong_add_right, cong_mul, cong_mul-left, cong_mul_right, cong_add_cancel, of_multiples, mod-cong, minus-add}
use Rattle.theory.specs.Sums.{sum_eq, sum_cong, sum_linear, sum-mul-left, sum_one}
use Rattle.theory.specs.Binomials.{choose, choose-zero, choose_self, mul-choose, falling-zero, falling-suc, mul-falling, falling_cong}
use Rattle.theory.specs.AlongEach.{Line}
use Rattle.theory.specs.Nodes.{rewritten, node_line, rewritten_top, rewritten-first, rewritten_next, nodal_falling, nodal_falling-add, sum-rewritten}

-- the coefficients over falling factorials of x of a line c of degree d at x + a, modulo m; where e is below j the factor choose e j is 0
unfoldable pub moved_line : ℕ → ℕ → Line
moved_line m a d c j = sum (suc d) (λ e. choose e j * falling a (e - j) * c e) % m

-- the differences of the nodes a + k and i, modulo m
abbrev pub shift : ℕ → ℕ → ℕ → ℕ → ℕ
shift m a k i = minus m (a + k) i

-- ---- the numbers that a line is multiplied by

-- how often the falling factorial of x + a to e has that of x to j
unfoldable part : ℕ → ℕ → ℕ → ℕ
part a j e = choose e j * falling a (e - j)

-- none below j, one at j
part-below : (a j e : ℕ) → e < j → part a j e ≡ 0
unfolding part
part-below a j e h = ap (◌* falling a (e - j)) (choose-zero e j h) ∙ zero-mul (falling a (e - j))

part_self : (a j : ℕ) → part a j j ≡ 1
unfolding part falling
part_self a j = ap₂ (λ x y. x * falling a y) (choose_self j) (sub_self j)

-- a move by b + 1 by a move by b
part-first : (b e : ℕ) → part (suc b) 0 (suc e) ≡ suc b * part b 0 e
unfolding part choose
part-first b e = rw (sub-zero (suc e), sub-zero e) (omega (arith, falling-suc b e))

part_next : (b j e : ℕ) → part (suc b) (suc j) (suc e) ≡ part b j e + (suc b + suc j) * part b (suc j) e
unfolding part choose falling
part_next b j e = go (dec_le e j)
  where
    go : Dec (e ≤ j) → part (suc b) (suc j) (suc e) ≡ part b j e + (suc b + suc j) * part b (suc j) e
    go (yes h) = rw (suc-sub-suc e j, sub-eq-zero_of_le h, choose-zero e (suc j) (suc-le-suc h)) (omega arith)
    go (no h) =
        let n : ℕ = e - suc j in
        let more : suc e - suc j ≡ suc n = omega (arith, lt_of_not-le h) in
        let less : e - j ≡ suc n = omega (arith, lt_of_not-le h) in
        let x : ℕ = choose e j in
        let y : ℕ = choose e (suc j) in
        let f : ℕ = falling b n in
        let whole : n + suc j ≡ e = omega (arith, lt_of_not-le h) in
        let ratio : suc n * x ≡ suc j * y = omega (arith, mul-choose e j, ap (◌* x) whole) in
        ap ((x + y) *◌) (ap (falling (suc b)) more ∙ falling-suc b n)
        ∙ omega (arith, ap (x *◌) (mul-falling b n), ap (◌* f) ratio)
        ∙ ap (λ z. x * z + (suc b + suc j) * (y * f)) (sym (ap (falling b) less))

-- a sum with these numbers where all above j are 0
sum-part-one : (a d j : ℕ) (c : ℕ → ℕ) → j ≤ d → ((e : ℕ) → j < e → e ≤ d → part a j e ≡ 0) → sum (suc d) (λ e. part a j e * c e) ≡ c j
sum-part-one a d j c h none =
    sum_one (suc d) (λ e. part a j e * c e) j (suc-le-suc h) (λ e p q. ap (◌* c e) (other e p q (dec_le e j)) ∙ zero-mul (c e))
    ∙ ap (◌* c j) (part_self a j) ∙ one-mul (c j)
  where
    other : (e : ℕ) → e < suc d → e ≢ j → Dec (e ≤ j) → part a j e ≡ 0
    other e p q (yes l) = part-below a j e (lt_of_le-ne l q)
    other e p q (no l) = none e (lt_of_not-le l) (le_of_suc-le-suc p)

-- the sums of a move by b + 1 by those of a move by b
sum-part-first : (b n : ℕ) (c : ℕ → ℕ) → sum (suc n) (λ e. part (suc b) 0 e * c e) ≡ c 0 + suc b * sum n (λ e. part b 0 e * c (suc e))
unfolding sum
sum-part-first b n c =
    ap₂ ◌+◌ (ap (◌* c 0) (part_self (suc b) 0) ∙ one-mul (c 0))
    (sum_eq n (λ e p. ap (◌* c (suc e)) (part-first b e) ∙ mul_assoc (suc b) (part b 0 e) (c (suc e)))
    ∙ sum-mul-left n (suc b) (λ e. part b 0 e * c (suc e)))

sum-part_next : (b n j : ℕ) (c : ℕ → ℕ) → sum (suc n) (λ e. part (suc b) (suc j) e * c e)
    ≡ sum n (λ e. part b j e * c (suc e)) + (suc b + suc j) * sum n (λ e. part b (suc j) e * c (suc e))
unfolding sum
sum-part_next b n j c =
    ap₂ ◌+◌ (ap (◌* c 0) (part-below (suc b) (suc j) 0 (zero-lt-suc j)) ∙ zero-mul (c 0))
    (sum_eq n (λ e p. ap (◌* c (suc e)) (part_next b j e)) ∙ sum_linear n (suc b + suc j) (part b j) (part b (suc j)) (λ e. c (suc e)))
    ∙ zero-add _

-- they depend on a modulo m only
sum-part_cong : {m a b : ℕ} (n j : ℕ) (c : ℕ → ℕ) → Cong m a b → Cong m (sum n (λ e. part a j e * c e)) (sum n (λ e. part b j e * c e))
unfolding part
sum-part_cong n j c h = sum_cong n (λ e p. cong_mul_right (c e) (cong_mul-left (choose e j) (falling_cong (e - j) h)))

-- ---- the passes

-- the highest coefficient stays in both
rewritten-moved_top : (a d : ℕ) (δ : ℕ → ℕ → ℕ) (c : ℕ → ℕ) → rewritten d δ c d ≡ sum (suc d) (λ e. part a d e * c e)
rewritten-moved_top a d δ c = rewritten_top d δ c ∙ sym (sum-part-one a d d c (le_refl d) (λ e p q. absurd (not-le_of_lt p q)))

module _ {m : ℕ} (positive : 0 < m) where
  -- passes with any differences of the nodes a + k and i give these sums
  rewritten-moved : (a d : ℕ) (δ : ℕ → ℕ → ℕ) (c : ℕ → ℕ) → ((k i : ℕ) → Cong m (δ k i + i) (a + k)) → (j : ℕ) → j ≤ d
      → Cong m (rewritten d δ c j) (sum (suc d) (λ e. part a j e * c e))
  rewritten-moved a zero δ c h zero l = cong_of_eq m (rewritten-moved_top a 0 δ c)
  rewritten-moved a zero δ c h (suc j) l = absurd (not-suc-le-zero l)
  rewritten-moved a (suc d) δ c h j l = go (rewritten-moved b d (λ k i. δ k (suc i)) (λ i. c (suc i)) step) j l
    where
      b : ℕ
      b = a + (m - 1)

      move : Cong m (suc b) a
      move = of_multiples m 0 1 (omega arith)

      step : (k i : ℕ) → Cong m (δ k (suc i) + i) (b + k)
      step k i =
          cong_add_cancel 1
          (cong_trans (cong_of_eq m {a = δ k (suc i) + i + 1} {b = δ k (suc i) + suc i} (omega arith))
          (cong_trans (h k (suc i))
          (cong_trans (cong_add_right k (cong_sym move)) (cong_of_eq m {a = suc b + k} {b = b + k + 1} (omega arith)))))

      first : (k : ℕ) → Cong m (δ k 0) (suc b + k)
      first k = cong_trans (cong_of_eq m (sym (add-zero (δ k 0)))) (cong_trans (h k 0) (cong_add_right k (cong_sym move)))

      go : ((i : ℕ) → i ≤ d → Cong m (rewritten d (λ k i. δ k (suc i)) (λ i. c (suc i)) i) (sum (suc d) (λ e. part b i e * c (suc e))))
          → (j : ℕ) → j ≤ suc d → Cong m (rewritten (suc d) δ c j) (sum (suc (suc d)) (λ e. part a j e * c e))
      go below zero l =
          cong_trans (cong_of_eq m (rewritten-first d δ c))
          (cong_trans (cong_add-left (c 0) (cong_mul (first 0) (below 0 zero-le)))
          (cong_trans (cong_of_eq m (ap (λ x. c 0 + x * sum (suc d) (λ e. part b 0 e * c (suc e))) (add-zero (suc b)) ∙ sym (sum-part-first b (suc d) c)))
          (sum-part_cong (suc (suc d)) 0 c move)))
      go below (suc j) l = next (eq-or-lt_of_le (le_of_suc-le-suc l))
        where
          next : (j ≡ d) ⊎ (j < d) → Cong m (rewritten (suc d) δ c (suc j)) (sum (suc (suc d)) (λ e. part a (suc j) e * c e))
          next (inl e) = rw e (cong_of_eq m (rewritten-moved_top a (suc d) δ c))
          next (inr q) =
              cong_trans (cong_of_eq m (rewritten_next d δ c j q))
              (cong_trans (cong_add (below j (le_of_lt q)) (cong_mul (first (suc j)) (below (suc j) q)))
              (cong_trans (cong_of_eq m (sym (sum-part_next b (suc d) j c))) (sum-part_cong (suc (suc d)) (suc j) c move)))

  -- the passes from the nodes 0, 1, 2, .. to the nodes a, a + 1, .. give the moved line
  pub node_line-moved : (a d : ℕ) (c : ℕ → ℕ) (j : ℕ) → j ≤ d → node_line m (shift m a) d c j ≡ moved_line m a d c j
  unfolding moved_line part
  node_line-moved a d c j h = (rewritten-moved a d (shift m a) c (λ k i. minus-add (a + k) i positive) j h).same

  -- it has at x the value of the line at x + a
  pub sum-moved_line : (a x d : ℕ) (c : ℕ → ℕ)
      → Cong m (sum (suc d) (λ j. falling x j * moved_line m a d c j)) (sum (suc d) (λ j. falling (x + a) j * c j))
  sum-moved_line a x d c =
      cong_trans
      (sum_cong (suc d) (λ j p. cong_mul-left (falling x j)
      (cong_trans (cong_of_eq m (sym (node_line-moved a d c j (le_of_suc-le-suc p)))) (mod-cong m (rewritten d (shift m a) c j)))))
      (sum-rewritten positive (shift m a) (λ k i. minus-add (a + k) i positive) (nodal_falling m (x + a)) (nodal_falling-add m x a) d c)

-- a move by 0 leaves the line
pub moved_line-zero : (m d : ℕ) (c : ℕ → ℕ) (j : ℕ) → j ≤ d → moved_line m 0 d c j ≡ c j % m
unfolding moved_line part
moved_line-zero m d c j h = ap (◌% m) (sum-part-one 0 d j c h (λ e p q. ap (choose e j *◌) (falling-zero 0 (e - j) (omega arith)) ∙ mul-zero (choose e j)))

-- a moved line depends on the line modulo m only
pub moved_line_cong : (m a d : ℕ) {b c : ℕ → ℕ} → ((e : ℕ) → e ≤ d → Cong m (b e) (c e)) → (j : ℕ) → moved_line m a d b j ≡ moved_line m a d c j
unfolding moved_line
moved_line_cong m a d h j = (sum_cong (suc d) (λ e p. cong_mul-left (choose e j * falling a (e - j)) (h e (le_of_suc-le-suc p)))).same

-- The two Stirling conversions of a line are changes of nodes: from powers, all nodes 0, to falling factorials, nodes 0, 1, 2, .., with the differences
-- k - 0, and back with the differences 0 - i. Not only the values agree, which modulo m would not fix the coefficients, but the coefficients. To falling
-- factorials: the coefficients by those of the form without its first old node (`rewritten_next`) are the recurrence of the second kind, exactly. To
-- powers: a pass with differences -i takes the line b with b i + i b (i + 1) = c i, and summing by parts is the recurrence of the first kind. Pass 0 of
-- either conversion adds nothing, in the order of passes that it runs by, and is left out.
use Rattle.std.specs.Prelude.{◌≡◌, ℕ, zero, suc, ◌+◌, ◌*◌, ◌%◌, ◌<◌, ◌≤◌, ◌⊎◌, List, length, refl}
use Rattle.std.proofs.Common.{sym, ap, ap₂, ◌∙◌, inl, inr, zero-le, not-suc-le-zero, le_of_suc-le-suc, le_refl, eq-or-lt_of_le, zero-lt-suc, zero-add, mod-lt, arith, zero-mul}
use Rattle.std.proofs.Math.Nat.{sub-zero, mod_self, zero-mod}
use Rattle.meaning.specs.Tables.{at}
use Rattle.meaning.specs.Sums.{sum}
use Rattle.meaning.specs.Differences.{minus}
use Rattle.meaning.specs.Stirling.{stirling2, stirling1, falling_line, power_line}
use Rattle.theory.specs.Congruence.{Cong, cong_of_eq, cong_sym, cong_trans, cong_add-left, cong_add_right, cong_mul-left, cong_mul_right, mod-cong, eq_of_cong, minus-add, minus-lt, cong_minus_of_add}
use Rattle.theory.specs.Sums.{sum_last, sum_eq, sum_cong, sum-add, sum-mul-left, sum-zero}
use Rattle.theory.specs.Integers.{residue_pos}
use Rattle.theory.specs.StirlingNumbers.{signed, stirling2-zero, stirling2_self, signed-zero, signed-suc-zero, signed-step}
use Rattle.theory.specs.Nodes.{passed, rewritten, node_line, passed-step, passed_top, rewritten_top, rewritten_next}
use Rattle.lines.specs.FlatTables.{lined}
use Rattle.lines.specs.InPlace.{Shows}
use Rattle.lines.specs.NodePasses.{Passed, passed_of_table, pass_idle, passes_done, shows_lined}
use Rattle.lines.specs.NodeOrders.{Opened, open_idle, opens_done}

-- the differences, new node k less old node i: to falling factorials, and to powers
abbrev pub to_falling : ℕ → ℕ → ℕ
to_falling k i = k

abbrev pub to_powers : ℕ → ℕ → ℕ → ℕ
to_powers m k i = minus m 0 i

-- ---- from powers to falling factorials

-- the highest coefficient
sum-stirling2_top : (d : ℕ) (c : ℕ → ℕ) → sum (suc d) (λ e. stirling2 e d * c e) ≡ c d
sum-stirling2_top d c =
    sum_last d (λ e. stirling2 e d * c e)
    ∙ omega (
      arith,
      sum-zero d {f = λ e. stirling2 e d * c e} (λ e p. ap (◌* c e) (stirling2-zero e d p) ∙ zero-mul (c e)),
      ap (◌* c d) (stirling2_self d),
    )

-- the recurrence under a sum
sum-stirling2-step : (n j : ℕ) (c : ℕ → ℕ) → sum (suc n) (λ e. stirling2 e (suc j) * c e)
    ≡ sum n (λ e. stirling2 e j * c (suc e)) + suc j * sum n (λ e. stirling2 e (suc j) * c (suc e))
unfolding sum stirling2
sum-stirling2-step n j c =
    omega (
      arith,
      parts ∙ sum-add n (λ e. stirling2 e j * c (suc e)) (λ e. suc j * (stirling2 e (suc j) * c (suc e))),
      sum-mul-left n (suc j) (λ e. stirling2 e (suc j) * c (suc e)),
    )
  where
    parts : sum n (λ e. stirling2 (suc e) (suc j) * c (suc e)) ≡ sum n (λ e. stirling2 e j * c (suc e) + suc j * (stirling2 e (suc j) * c (suc e)))
    parts = sum_eq n (λ e p. omega arith)

-- the passes with the differences k give the sums with Stirling numbers, exactly
pub rewritten-stirling2 : (d : ℕ) (c : ℕ → ℕ) (j : ℕ) → j ≤ d → rewritten d to_falling c j ≡ sum (suc d) (λ e. stirling2 e j * c e)
unfolding rewritten passed sum stirling2
rewritten-stirling2 zero c zero h = omega arith
rewritten-stirling2 zero c (suc j) h = absurd (not-suc-le-zero h)
rewritten-stirling2 (suc d) c zero h =
    omega (arith, sum-zero d {f = λ e. 0 * c (suc (suc e))} (λ e p. zero-mul (c (suc (suc e)))))
rewritten-stirling2 (suc d) c (suc j) h =
    go (rewritten-stirling2 d (λ i. c (suc i))) (eq-or-lt_of_le (le_of_suc-le-suc h))
  where
    go : ((i : ℕ) → i ≤ d → rewritten d to_falling (λ i. c (suc i)) i ≡ sum (suc d) (λ e. stirling2 e i * c (suc e)))
        → (j ≡ d) ⊎ (j < d) → rewritten (suc d) to_falling c (suc j) ≡ sum (suc (suc d)) (λ e. stirling2 e (suc j) * c e)
    go same (inl e) = rw e (rewritten_top (suc d) to_falling c ∙ sym (sum-stirling2_top (suc d) c))
    go same (inr l) =
        rewritten_next d to_falling c j l
        ∙ ap₂ (λ x y. x + suc j * y) (same j (omega arith)) (same (suc j) l)
        ∙ sym (sum-stirling2-step (suc d) j c)

-- so the conversion to falling factorials is the change to the nodes 0, 1, 2, ..
pub node_line-falling : (m d : ℕ) (c : ℕ → ℕ) (j : ℕ) → j ≤ d → node_line m to_falling d c j ≡ falling_line m d c j
unfolding falling_line
node_line-falling m d c j h = ap (◌% m) (rewritten-stirling2 d c j h)

-- ---- from falling factorials to powers

-- a sum by parts
sum_by_parts : (n : ℕ) (S b : ℕ → ℕ) → S 0 ≡ 0
    → sum n (λ e. (S (suc e) + e * S e) * b (suc e)) ≡ sum n (λ e. S e * (b e + e * b (suc e))) + S n * b n
unfolding sum
sum_by_parts n S b z =
    sum_eq n (λ e p. left e)
    ∙ sum-add n (λ e. S (suc e) * b (suc e)) P
    ∙ omega (
      arith,
      sum_last n (λ e. S e * b e),
      ap (◌* b 0) z,
      sum_eq n {f = λ e. S e * (b e + e * b (suc e))} {g = λ e. S e * b e + P e} (λ e p. right e),
      sum-add n (λ e. S e * b e) P,
    )
  where
    P : ℕ → ℕ
    P e = S e * (e * b (suc e))

    left : (e : ℕ) → (S (suc e) + e * S e) * b (suc e) ≡ S (suc e) * b (suc e) + S e * (e * b (suc e))
    left e = omega arith

    right : (e : ℕ) → S e * (b e + e * b (suc e)) ≡ S e * b e + S e * (e * b (suc e))
    right e = omega arith

-- the difference 0 - 0
pub minus-zero : (m : ℕ) → minus m 0 0 ≡ 0
unfolding minus
minus-zero m = rw (zero-mod m, sub-zero, zero-add) (mod_self m)

module _ {m : ℕ} (positive : 0 < m) where
  -- -k times x and k times x are 0 together
  add-minus-mul : (a k x : ℕ) → Cong m (a + minus m 0 k * x + k * x) a
  add-minus-mul a k x =
      cong_trans (cong_of_eq m {a = a + minus m 0 k * x + k * x} {b = a + (minus m 0 k + k) * x} (omega arith))
      (cong_trans (cong_add-left a (cong_mul_right x (minus-add 0 k positive))) (cong_of_eq m {a = a + 0 * x} {b = a} (omega arith)))

  -- so that subtracting k times x is adding -k times x
  pub minus-mul : (a k x : ℕ) → minus m a (k * x) ≡ (a + minus m 0 k * x) % m
  minus-mul a k x =
      eq_of_cong (minus-lt a (k * x) positive) (mod-lt _ positive)
      (cong_sym (cong_trans (mod-cong m _) (cong_minus_of_add (k * x) positive (add-minus-mul a k x))))

  -- a pass with the differences -i
  passed-signed : (d : ℕ) (c : ℕ → ℕ) (i : ℕ) → i < d → Cong m (passed d (minus m 0) c i + i * passed d (minus m 0) c (suc i)) (c i)
  passed-signed d c i h =
      let b : ℕ = passed d (minus m 0) c (suc i) in
      cong_trans (cong_of_eq m (ap (◌+ i * b) (passed-step d (minus m 0) c i h))) (add-minus-mul (c i) i b)

  -- only the first falling factorial has a constant term
  sum-signed-zero : (d : ℕ) (c : ℕ → ℕ) → Cong m (sum (suc d) (λ e. signed m e 0 * c e)) (c 0)
  unfolding sum stirling1
  sum-signed-zero d c =
      cong_trans (cong_add-left (signed m 0 0 * c 0)
      (cong_of_eq m (sum-zero d (λ e p. ap (◌* c (suc e)) (signed-suc-zero m e) ∙ zero-mul (c (suc e))))))
      (cong_trans (cong_add_right 0 (cong_mul_right (c 0) (residue_pos positive 1))) (cong_of_eq m {a = 1 * c 0 + 0} {b = c 0} (omega arith)))

  -- the passes with the differences -i give the sums with signed Stirling numbers
  pub rewritten-signed : (d : ℕ) (c : ℕ → ℕ) (j : ℕ) → j ≤ d → Cong m (rewritten d (to_powers m) c j) (sum (suc d) (λ e. signed m e j * c e))
  unfolding rewritten
  rewritten-signed zero c zero h = cong_sym (sum-signed-zero 0 c)
  rewritten-signed zero c (suc j) h = absurd (not-suc-le-zero h)
  rewritten-signed (suc d) c zero h =
      let b : ℕ → ℕ = passed (suc d) (minus m 0) c in
      cong_trans (cong_of_eq m {a = b 0} {b = b 0 + 0 * b 1} (omega arith))
      (cong_trans (passed-signed (suc d) c 0 (zero-lt-suc d)) (cong_sym (sum-signed-zero (suc d) c)))
  rewritten-signed (suc d) c (suc j) h =
      cong_trans (rewritten-signed d (λ i. b (suc i)) j (le_of_suc-le-suc h))
      (cong_trans (sum_cong (suc d) (λ e p. cong_mul_right (b (suc e)) (cong_sym (signed-step positive e j))))
      (cong_trans (cong_of_eq m (sum_by_parts (suc d) S b (signed-zero m 0 (suc j) (zero-lt-suc j))))
      (cong_trans (cong_add_right (S (suc d) * b (suc d)) (sum_cong (suc d) (λ e p. cong_mul-left (S e) (passed-signed (suc d) c e p))))
      (cong_of_eq m
      (ap (λ x. sum (suc d) (λ e. S e * c e) + S (suc d) * x) (passed_top (suc d) (minus m 0) c (suc d) (le_refl (suc d)))
      ∙ sym (sum_last (suc d) (λ e. S e * c e)))))))
    where
      b : ℕ → ℕ
      b = passed (suc d) (minus m 0) c

      S : ℕ → ℕ
      S e = signed m e (suc j)

  -- so the conversion to powers is the change to nodes that are all 0
  pub node_line_power : (d : ℕ) (c : ℕ → ℕ) (j : ℕ) → j ≤ d → node_line m (to_powers m) d c j ≡ power_line m d c j
  unfolding power_line
  node_line_power d c j h = (rewritten-signed d c j h).same

-- ---- a block of s interleaved lines

-- to falling factorials, pass 0 is none
pub passed-one : {m s d : ℕ} (t : List ℕ) → 0 < s → length t ≡ s * suc d → ((i : ℕ) → i < length t → at t i < m)
    → Passed m to_falling s d (at t) (length t) 1 t
passed-one {s = s} {d = d} t pos whole small = pass_idle pos whole (λ i. refl) (passed_of_table to_falling s d t small)

module _ {m s d : ℕ} {f : ℕ → ℕ} {n : ℕ} {t : List ℕ} (pos : 0 < s) (whole : n ≡ s * suc d) where
  -- after d passes the block has falling factorials
  pub shows_falling : {k : ℕ} → d ≤ k → Passed m to_falling s d f n k t → Shows (lined (falling_line m) s d f) n t
  shows_falling l r = shows_lined (node_line m to_falling) (falling_line m) f pos whole (node_line-falling m d) (passes_done pos whole l r)

  -- to powers, pass 0 is none either: with it left or not, the block has powers
  pub shows_powers : {k : ℕ} → 0 < m → k ≤ 1 → Opened m (to_powers m) s d f n k t → Shows (lined (power_line m) s d f) n t
  shows_powers {k = zero} positive l r =
      shows_lined (node_line m (to_powers m)) (power_line m) f pos whole (node_line_power positive d) (opens_done pos whole r)
  shows_powers {k = suc zero} positive l r = shows_powers {k = zero} positive zero-le (open_idle pos whole (λ i. minus-zero m) r)
  shows_powers {k = suc (suc k)} positive l r = absurd (omega arith)

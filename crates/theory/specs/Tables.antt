-- Tables given by a rule, and the invariant of a loop that fills a table from the left.
use Rattle.std.specs.Prelude.{◌≡◌, refl, Bool, true, false, ◌&&◌, cond, List, [], ◌∷◌, ℕ, zero, suc, ◌+◌, ◌≤◌, ◌<◌, ◌⊎◌, T, eqb, ltb, length, set, replicate}
use Rattle.std.proofs.Common.{sym, ◌∙◌, ap, ap₂, subst, ltb-true, ltb-false, le_of_suc-le-suc, not-suc-le-zero, eq-or-lt_of_le, ne_of_lt, ne_of_gt, add-one, arith, ⊎_elim, eqb→eq, length-set, ext_get_or, get_or-set_same, get_or-set_other}
use Rattle.meaning.specs.Tables.{tabulate, at}

-- a table given by a rule has the length that was asked for
pub length-tabulate : (n : ℕ) (f : ℕ → ℕ) → length (tabulate n f) ≡ n
unfolding tabulate
length-tabulate zero f = refl
length-tabulate (suc n) f = ap suc (length-tabulate n (λ i. f (suc i)))

-- its entry at i is what the rule gives
pub at-tabulate : (n : ℕ) (f : ℕ → ℕ) (i : ℕ) → i < n → at (tabulate n f) i ≡ f i
unfolding tabulate
at-tabulate zero f i h = absurd (not-suc-le-zero h)
at-tabulate (suc n) f zero h = refl
at-tabulate (suc n) f (suc i) h = at-tabulate n (λ i. f (suc i)) i (le_of_suc-le-suc h)

-- a list is the table of a rule if it has the entries of the rule
pub eq-tabulate : (t : List ℕ) (n : ℕ) (f : ℕ → ℕ) → length t ≡ n → ((i : ℕ) → i < n → at t i ≡ f i) → t ≡ tabulate n f
eq-tabulate t n f e h =
    ext_get_or 0 t (tabulate n f) (e ∙ sym (length-tabulate n f))
    (λ i p. h i (rw e at p) ∙ sym (at-tabulate n f i (rw e at p)))

-- two rules with the same entries give the same table
pub tabulate_cong : (n : ℕ) (f g : ℕ → ℕ) → ((i : ℕ) → i < n → f i ≡ g i) → tabulate n f ≡ tabulate n g
tabulate_cong n f g h = eq-tabulate (tabulate n f) n g (length-tabulate n f) (λ i p. at-tabulate n f i p ∙ h i p)

-- a table of zeros has 0 everywhere
pub at-tabulate-zero : (n i : ℕ) → at (tabulate n (λ k. 0)) i ≡ 0
unfolding tabulate
at-tabulate-zero zero i = refl
at-tabulate-zero (suc n) zero = refl
at-tabulate-zero (suc n) (suc i) = at-tabulate-zero n i

-- a list of zeros has zeros everywhere, past its end too
pub at-zeros : (n i : ℕ) → at (replicate n 0) i ≡ 0
at-zeros zero i = refl
at-zeros (suc n) zero = refl
at-zeros (suc n) (suc i) = at-zeros n i

-- a test that each entry of a list is the rule's
abbrev pub follows : (ℕ → ℕ) → List ℕ → Bool
follows f [] = true
follows f (x ∷ xs) = eqb x (f 0) && follows (λ i. f (suc i)) xs

-- a list that passes the test is the rule's table
pub eq-tabulate_of_test : (f : ℕ → ℕ) (xs : List ℕ) → T (follows f xs) → xs ≡ tabulate (length xs) f
unfolding tabulate
eq-tabulate_of_test f [] t = refl
eq-tabulate_of_test f (x ∷ xs) t =
    let rest : Bool = follows (λ i. f (suc i)) xs in
    ap₂ ◌∷◌ (eqb→eq x (f 0) (and_left (eqb x (f 0)) rest t))
    (eq-tabulate_of_test (λ i. f (suc i)) xs (and_right (eqb x (f 0)) rest t))
  where
    and_left : (a b : Bool) → T (a && b) → T a
    and_left true b t = tt
    and_left false b t = t

    and_right : (a b : Bool) → T (a && b) → T b
    and_right true b t = t
    and_right false b t = absurd t

-- t is t₀ with the entries below k replaced by those of the rule f
pub record Filled (f : ℕ → ℕ) (t₀ t : List ℕ) (k : ℕ) : Type 0 where
  pub same : length t ≡ length t₀
  pub below : (i : ℕ) → i < k → at t i ≡ f i
  pub above : (i : ℕ) → k ≤ i → at t i ≡ at t₀ i

module _ (f : ℕ → ℕ) (t₀ : List ℕ) where
  pub filled_start : Filled f t₀ t₀ 0
  filled_start = record { same = refl; below = λ i h. absurd (not-suc-le-zero h); above = λ i h. refl }

  -- one entry more
  pub filled_step : (t : List ℕ) (k v : ℕ) → Filled f t₀ t k → k < length t → v ≡ f k → Filled f t₀ (set t k v) (k + 1)
  filled_step t k v r h e =
      record {
        same = length-set t k v ∙ r.same;
        below = λ i p. below i (eq-or-lt_of_le (le_of_suc-le-suc (rw (add-one k) at p)));
        above = λ i p. get_or-set_other t k i v 0 (ne_of_gt (rw (add-one k) at p)) ∙ r.above i (omega arith);
      }
    where
      below : (i : ℕ) → (i ≡ k) ⊎ (i < k) → at (set t k v) i ≡ f i
      below i w =
          ⊎_elim (λ (q : i ≡ k). rw q (get_or-set_same t k v 0 h ∙ e))
          (λ (q : i < k). get_or-set_other t k i v 0 (ne_of_lt q) ∙ r.below i q) w

  -- the whole table
  pub filled_done : (t : List ℕ) (k : ℕ) → Filled f t₀ t k → length t₀ ≤ k → t ≡ tabulate (length t₀) f
  filled_done t k r h = eq-tabulate t (length t₀) f r.same (λ i p. r.below i (omega arith))

  -- the table with its first n entries replaced
  pub filled_part : (t : List ℕ) (k n : ℕ) → Filled f t₀ t k → k ≡ n → t ≡ tabulate (length t₀) (λ i. cond (ltb i n) (f i) (at t₀ i))
  filled_part t k n r e =
      subst (λ (m : ℕ). t ≡ tabulate (length t₀) (λ i. cond (ltb i m) (f i) (at t₀ i))) e
      (eq-tabulate t (length t₀) _ r.same (λ i p. entry i (ltb i k) refl))
    where
      entry : (i : ℕ) (b : Bool) → ltb i k ≡ b → at t i ≡ cond b (f i) (at t₀ i)
      entry i true h = r.below i (ltb-true i k h)
      entry i false h = r.above i (ltb-false i k h)

-- Several lines moved at once, number by number. The lines of a first variable have d + 1 neighbours each, one line behind the other; what happens to a table
-- is said of each of its lines as a table of its own (`EachLine`), so that the laws of a single line, which is a block of stride 1, serve all of them. A loop
-- goes from line to line and alters the number at one place of each (`Numbers`).
use Rattle.std.specs.Prelude.{◌≡◌, ℕ, zero, suc, ◌+◌, ◌*◌, ◌%◌, ◌<◌, ◌≤◌, ◌⊎◌, List, length, ◌≢◌, slice_set, refl}
use Rattle.std.proofs.Common.{sym, ap, ap₂, ◌∙◌, inl, inr, not-suc-le-zero, le_of_suc-le-suc, eq-or-lt_of_le, mul-le-mul_right, le_refl, arith, length-set, get_or-set_same, get_or-set_other}
use Rattle.std.proofs.Math.Decide.{dec_le}
use Rattle.std.proofs.Math.Arith.{digits_mod}
use Rattle.meaning.specs.Tables.{tabulate, at}
use Rattle.theory.specs.Tables.{length-tabulate, at-tabulate, eq-tabulate}
use Rattle.theory.specs.MovedLines.{shift, moved_line}
use Rattle.lines.specs.NodeOrders.{Opened}
use Rattle.moves.specs.NodeRows.{Added}

-- ---- each line of a table

-- line c of a table with d + 1 numbers a line
abbrev pub line_at : ℕ → ℕ → List ℕ → List ℕ
line_at d c t = tabulate (suc d) (λ x. at t (c * suc d + x))

-- each whole line of t has become that of t'
pub record EachLine (d : ℕ) (became : List ℕ → List ℕ → Type 0) (t t' : List ℕ) : Type 0 where
  pub same : length t' ≡ length t
  pub line : (c : ℕ) → c * suc d + suc d ≤ length t → became (line_at d c t) (line_at d c t')

-- of a line: number `place` has got `near` times the next number and `far` times the one after that added; the passes below `top` down to `done` of a move by a
-- are made; all of them are
abbrev pub GetsAdded : (m place near far : ℕ) → List ℕ → List ℕ → Type 0
GetsAdded m place near far u v = Added m 1 place near far u v (place + 1)

abbrev pub Passes : (m a d top done : ℕ) → List ℕ → List ℕ → Type 0
Passes m a d top done u v = (f : ℕ → ℕ) → Opened m (shift m a) 1 d f (suc d) top u → Opened m (shift m a) 1 d f (suc d) done v

abbrev pub Moves : (m a d : ℕ) → List ℕ → List ℕ → Type 0
Moves m a d u v = (x : ℕ) → x ≤ d → at v x ≡ moved_line m a d (at u) x

module _ {d : ℕ} {first : List ℕ → List ℕ → Type 0} {t : List ℕ} where
  -- nothing has happened
  pub each_same : ((u : List ℕ) → first u u) → EachLine d first t t
  each_same h = record { same = refl; line = λ c fits. h _ }

  -- the one and then the other
  pub each_then : {second both : List ℕ → List ℕ → Type 0} {u v : List ℕ} → EachLine d first t u → EachLine d second u v
      → ((x y z : List ℕ) → first x y → second y z → both x z) → EachLine d both t v
  each_then r s h = record { same = s.same ∙ r.same; line = λ c fits. h _ _ _ (r.line c fits) (s.line c (rw r.same fits)) }

-- a table of one line
pub each_single : {d : ℕ} {became : List ℕ → List ℕ → Type 0} {t t' : List ℕ} → length t ≡ suc d → length t' ≡ suc d → became t t' → EachLine d became t t'
each_single {d} {became} {t} {t'} e h r = record { same = h ∙ sym e; line = λ c fits. rw (alone c t e (first c fits), alone c t' h (first c fits)) r }
  where
    first : (c : ℕ) → c * suc d + suc d ≤ length t → c ≡ 0
    first zero fits = refl
    first (suc c) fits = absurd (omega arith)

    alone : (c : ℕ) (u : List ℕ) → length u ≡ suc d → c ≡ 0 → line_at d c u ≡ u
    alone c u long none = sym (eq-tabulate u (suc d) _ long (λ x p. ap (at u) (rw none (omega arith))))

-- ---- one number of each line

-- a table given by a rule has 0 past its end
past : (n : ℕ) (f : ℕ → ℕ) (i : ℕ) → n ≤ i → at (tabulate n f) i ≡ 0
unfolding tabulate
past zero f i h = refl
past (suc n) f zero h = absurd (not-suc-le-zero h)
past (suc n) f (suc i) h = past n (λ j. f (suc j)) i (le_of_suc-le-suc h)

-- the lines before the one that place i lies in have the numbers added at their number `place`; all else is as it was
pub record Numbers (m d place near far : ℕ) (t₀ t : List ℕ) (i : ℕ) : Type 0 where
  pub count : ℕ
  pub place_of : i ≡ count * suc d + place
  pub same : length t ≡ length t₀
  pub hit : (c j : ℕ) → c < count → j ≡ c * suc d + place → at t j ≡ (at t₀ j + (near * at t₀ (j + 1) + far * at t₀ (j + 2))) % m
  pub kept : (j : ℕ) → ((c : ℕ) → c < count → j ≢ c * suc d + place) → at t j ≡ at t₀ j

module _ {m d place near far : ℕ} where
  pub numbers-start : (t : List ℕ) → Numbers m d place near far t t place
  numbers-start t =
      record { count = 0; place_of = omega arith; same = refl; hit = λ c j h e. absurd (not-suc-le-zero h); kept = λ j h. refl }

  module _ {t₀ t : List ℕ} {i : ℕ} (r : Numbers m d place near far t₀ t i) where
    -- places from i on are as they were
    ahead : (j : ℕ) → i ≤ j → at t j ≡ at t₀ j
    ahead j h = r.kept j (λ c l e. absurd (omega (arith, r.place_of, mul-le-mul_right (suc d) l)))

    -- one line more
    pub numbers-step : (v : ℕ) → i < length t → v ≡ (at t i + (near * at t (i + 1) + far * at t (i + 2))) % m
        → Numbers m d place near far t₀ (slice_set t i v) (i + (d + 1))
    numbers-step v h e =
        record {
          count = suc r.count;
          place_of = omega (arith, r.place_of);
          same = length-set t i v ∙ r.same;
          hit = λ c j l q. hit c j q (eq-or-lt_of_le (le_of_suc-le-suc l));
          kept = λ j none. get_or-set_other t i j v 0 (λ q. none r.count (le_refl _) (q ∙ r.place_of)) ∙ r.kept j (λ c l. none c (omega arith));
        }
      where
        hit : (c j : ℕ) → j ≡ c * suc d + place → (c ≡ r.count) ⊎ (c < r.count)
            → at (slice_set t i v) j ≡ (at t₀ j + (near * at t₀ (j + 1) + far * at t₀ (j + 2))) % m
        hit c j q (inl l) =
            let here : j ≡ i = q ∙ ap (λ x. x * suc d + place) l ∙ sym r.place_of in
            rw here
            (get_or-set_same t i v 0 h
            ∙ e
            ∙ ap₂ (λ x y. (x + y) % m) (ahead i (le_refl i)) (ap₂ (λ x y. near * x + far * y) (ahead (i + 1) (omega arith)) (ahead (i + 2) (omega arith))))
        hit c j q (inr l) = get_or-set_other t i j v 0 (λ p. absurd (omega (arith, r.place_of, mul-le-mul_right (suc d) l))) ∙ r.hit c j l q

    -- the same with no number two above it
    pub numbers_next : (v : ℕ) → far ≡ 0 → i < length t → v ≡ (at t i + near * at t (i + 1)) % m → Numbers m d place near far t₀ (slice_set t i v) (i + (d + 1))
    numbers_next v none h e = numbers-step v h (e ∙ ap (λ x. (at t i + x) % m) (rw none (omega arith)))

    -- no further line fits: every whole line has it; where the number has no second one above it, `far` is 0
    pub numbers_done : (g : ℕ) → place + g ≤ d → length t ≤ i + g → 0 < g → (far ≡ 0) ⊎ (place + 2 ≤ d) → EachLine d (GetsAdded m place near far) t₀ t
    numbers_done g low out some two = record { same = r.same; line = λ c fits. added c (within c fits) }
      where
        within : (c : ℕ) → c * suc d + suc d ≤ length t₀ → c < r.count
        within c fits = go (dec_le r.count c)
          where
            go : Dec (r.count ≤ c) → c < r.count
            go (yes q) = absurd (omega (arith, r.place_of, r.same, mul-le-mul_right (suc d) q))
            go (no q) = omega arith

        -- another number of a line
        other : (c x : ℕ) → x ≤ d → (x ≢ place) → at t (c * suc d + x) ≡ at t₀ (c * suc d + x)
        other c x h apart =
            r.kept (c * suc d + x) (λ b l e.
            apart (sym (digits_mod c (omega arith)) ∙ ap (◌% suc d) e ∙ digits_mod b (omega arith)))

        entry : (c x : ℕ) (u : List ℕ) → x ≤ d → at (line_at d c u) x ≡ at u (c * suc d + x)
        entry c x u h = at-tabulate (suc d) _ x (omega arith)

        added : (c : ℕ) → c < r.count → Added m 1 place near far (line_at d c t₀) (line_at d c t) (place + 1)
        added c l =
            record {
              same = length-tabulate (suc d) _ ∙ sym (length-tabulate (suc d) _);
              below = λ x p. entry c x t (omega arith) ∙ other c x (omega arith) (λ q. absurd (omega arith)) ∙ sym (entry c x t₀ (omega arith));
              inside = λ x p q. number x (omega arith);
              above = λ x p. upper x p (dec_le x d);
            }
          where
            second : (far ≡ 0) ⊎ (place + 2 ≤ d) → far * at t₀ (c * suc d + place + 2) ≡ far * at (line_at d c t₀) (place + (1 + 1))
            second (inl none) = rw none (omega arith)
            second (inr q) = ap (far *◌) (ap (at t₀) (omega arith) ∙ sym (entry c (place + 2) t₀ q))

            number : (x : ℕ) → x ≡ place
                → at (line_at d c t) x ≡ (at (line_at d c t₀) x + (near * at (line_at d c t₀) (x + 1) + far * at (line_at d c t₀) (x + (1 + 1)))) % m
            number x e =
                rw e
                (entry c place t (omega arith)
                ∙ r.hit c (c * suc d + place) l refl
                ∙ ap₂ (λ a b. (a + b) % m) (sym (entry c place t₀ (omega arith)))
                (ap₂ ◌+◌ (ap (near *◌) (ap (at t₀) (omega arith) ∙ sym (entry c (place + 1) t₀ (omega arith)))) (second two)))

            upper : (x : ℕ) → place + 1 ≤ x → Dec (x ≤ d) → at (line_at d c t) x ≡ at (line_at d c t₀) x
            upper x p (yes q) = entry c x t q ∙ other c x q (λ e. absurd (omega arith)) ∙ sym (entry c x t₀ q)
            upper x p (no q) = past (suc d) _ x (omega arith) ∙ sym (past (suc d) _ x (omega arith))

-- The order of the fit's columns is a strict order, and of two different exponent lists of one length one comes before the other.
use Rattle.std.specs.Prelude.{◌≡◌, refl, ◌↔◌, ◌⊎◌, Bool, true, false, ◌&&◌, ◌||◌, ℕ, ◌+◌, ◌≤◌, ◌<◌, List, [], ◌∷◌, T, ltb, eqb, length}
use Rattle.std.proofs.Common.{sym, ap, ap₂, ◌∙◌, inl, inr, ⊎_elim, lt_trans, lt_irrefl, lt_of_not-le, eq-or-lt_of_le, suc-ne-zero, arith, ltb→lt, lt→ltb, eqb→eq}
use Rattle.std.proofs.Math.Nat.{suc_inj}
use Rattle.std.proofs.Math.Decide.{dec_le}
use Rattle.std.proofs.Math.Dec.{eqb_refl}
use Rattle.meaning.specs.Fit.{total, lex_before, before}
use Rattle.theory.specs.Every.{and_iff}

-- one of three
pub data Compared (L E G : Type 0) : Type 0 where
  less : L → Compared L E G
  equal : E → Compared L E G
  greater : G → Compared L E G

compared : (a b : ℕ) → Compared (a < b) (a ≡ b) (b < a)
compared a b = go (dec_le a b)
  where
    go : Dec (a ≤ b) → Compared (a < b) (a ≡ b) (b < a)
    go (yes h) = ⊎_elim (λ (e : a ≡ b). equal e) (λ (l : a < b). less l) (eq-or-lt_of_le h)
    go (no h) = greater (lt_of_not-le h)

-- the test of an or
or_iff : (a b : Bool) → T (a || b) ↔ (T a ⊎ T b)
or_iff true b = (λ t. inl tt, λ t. tt)
or_iff false b = (λ t. inr t, λ s. ⊎_elim (λ (x : ⊥). absurd x) (λ (t : T b). t) s)

-- first by the first number, then by the second test
pub data Then (a b : ℕ) (Q : Type 0) : Type 0 where
  lower : a < b → Then a b Q
  level : a ≡ b → Q → Then a b Q

then_iff : (a b : ℕ) (q : Bool) → T (ltb a b || eqb a b && q) ↔ Then a b (T q)
then_iff a b q = (there, back)
  where
    there : T (ltb a b || eqb a b && q) → Then a b (T q)
    there t =
        ⊎_elim (λ (h : T (ltb a b)). lower (ltb→lt a b h))
        (λ (h : T (eqb a b && q)). level (eqb→eq a b ((and_iff (eqb a b) q).0 h).0) ((and_iff (eqb a b) q).0 h).1) ((or_iff (ltb a b) _).0 t)

    back : Then a b (T q) → T (ltb a b || eqb a b && q)
    back (lower h) = (or_iff (ltb a b) (eqb a b && q)).1 (inl (lt→ltb a b h))
    back (level e t) = (or_iff (ltb a b) (eqb a b && q)).1 (inr ((and_iff (eqb a b) q).1 (rw e (eqb_refl b), t)))

then_trans : {a b c : ℕ} {P Q R : Type 0} → (P → Q → R) → Then a b P → Then b c Q → Then a c R
then_trans f (lower h) (lower k) = lower (lt_trans h k)
then_trans f (lower h) (level d q) = lower (omega arith)
then_trans f (level e p) (lower k) = lower (omega arith)
then_trans f (level e p) (level d q) = level (e ∙ d) (f p q)

then_irrefl : {a : ℕ} {P : Type 0} → (P → ⊥) → Then a a P → ⊥
then_irrefl {a} f (lower h) = lt_irrefl a h
then_irrefl f (level e p) = f p

-- ---- lexicographic order

lex_trans : (es fs gs : List ℕ) → T (lex_before es fs) → T (lex_before fs gs) → T (lex_before es gs)
unfolding lex_before
lex_trans [] fs gs t u = absurd t
lex_trans (e ∷ es) [] gs t u = absurd t
lex_trans (e ∷ es) (f ∷ fs) [] t u = absurd u
lex_trans (e ∷ es) (f ∷ fs) (g ∷ gs) t u =
    (then_iff e g (lex_before es gs)).1
    (then_trans (lex_trans es fs gs) ((then_iff e f (lex_before es fs)).0 t) ((then_iff f g (lex_before fs gs)).0 u))

lex_irrefl : (es : List ℕ) → T (lex_before es es) → ⊥
unfolding lex_before
lex_irrefl [] t = t
lex_irrefl (e ∷ es) t = then_irrefl (lex_irrefl es) ((then_iff e e (lex_before es es)).0 t)

lex_compared : (es fs : List ℕ) → length es ≡ length fs → Compared (T (lex_before es fs)) (es ≡ fs) (T (lex_before fs es))
unfolding lex_before
lex_compared [] [] h = equal refl
lex_compared [] (f ∷ fs) h = absurd (suc-ne-zero (length fs) (sym h))
lex_compared (e ∷ es) [] h = absurd (suc-ne-zero (length es) h)
lex_compared (e ∷ es) (f ∷ fs) h = go (compared e f) (lex_compared es fs (suc_inj h))
  where
    there : Then e f (T (lex_before es fs)) → T (lex_before (e ∷ es) (f ∷ fs))
    there = (then_iff e f (lex_before es fs)).1

    back : Then f e (T (lex_before fs es)) → T (lex_before (f ∷ fs) (e ∷ es))
    back = (then_iff f e (lex_before fs es)).1

    go : Compared (e < f) (e ≡ f) (f < e) → Compared (T (lex_before es fs)) (es ≡ fs) (T (lex_before fs es))
        → Compared (T (lex_before (e ∷ es) (f ∷ fs))) (e ∷ es ≡ f ∷ fs) (T (lex_before (f ∷ fs) (e ∷ es)))
    go (less l) r = less (there (lower l))
    go (greater l) r = greater (back (lower l))
    go (equal d) (less t) = less (there (level d t))
    go (equal d) (equal s) = equal (ap₂ ◌∷◌ d s)
    go (equal d) (greater t) = greater (back (level (sym d) t))

-- ---- the order of the columns

-- nothing comes before itself
pub before_irrefl : (es : List ℕ) → T (before es es) → ⊥
unfolding before
before_irrefl es t = then_irrefl (lex_irrefl es) ((then_iff (total es) (total es) (lex_before es es)).0 t)

pub before_trans : (es fs gs : List ℕ) → T (before es fs) → T (before fs gs) → T (before es gs)
unfolding before
before_trans es fs gs t u =
    (then_iff (total es) (total gs) (lex_before es gs)).1
    (then_trans (lex_trans es fs gs) ((then_iff (total es) (total fs) (lex_before es fs)).0 t) ((then_iff (total fs) (total gs) (lex_before fs gs)).0 u))

-- of two lists of one length that differ, one comes before the other
pub before_compared : (es fs : List ℕ) → length es ≡ length fs → Compared (T (before es fs)) (es ≡ fs) (T (before fs es))
unfolding before
before_compared es fs h = go (compared (total es) (total fs)) (lex_compared es fs h)
  where
    there : Then (total es) (total fs) (T (lex_before es fs)) → T (before es fs)
    there = (then_iff (total es) (total fs) (lex_before es fs)).1

    back : Then (total fs) (total es) (T (lex_before fs es)) → T (before fs es)
    back = (then_iff (total fs) (total es) (lex_before fs es)).1

    go : Compared (total es < total fs) (total es ≡ total fs) (total fs < total es)
        → Compared (T (lex_before es fs)) (es ≡ fs) (T (lex_before fs es)) → Compared (T (before es fs)) (es ≡ fs) (T (before fs es))
    go (less l) r = less (there (lower l))
    go (greater l) r = greater (back (lower l))
    go (equal d) (less t) = less (there (level d t))
    go (equal d) (equal s) = equal s
    go (equal d) (greater t) = greater (back (level (sym d) t))

-- a list of lower total degree comes first
pub before_of_degree : (es fs : List ℕ) → total es < total fs → T (before es fs)
unfolding before
before_of_degree es fs h = (then_iff (total es) (total fs) (lex_before es fs)).1 (lower h)

-- of the same total degree, the list with the lower first exponent comes first
pub before_of_head : (e f : ℕ) (es fs : List ℕ) → total (e ∷ es) ≡ total (f ∷ fs) → e < f → T (before (e ∷ es) (f ∷ fs))
unfolding before
before_of_head e f es fs d h =
    (then_iff (total (e ∷ es)) (total (f ∷ fs)) _).1 (level d ((then_iff e f (lex_before es fs)).1 (lower h)))

-- a common first exponent changes nothing
pub before-cons : (e : ℕ) (es fs : List ℕ) → T (before es fs) → T (before (e ∷ es) (e ∷ fs))
unfolding before
before-cons e es fs t = (then_iff (e + total es) (e + total fs) _).1 (go ((then_iff (total es) (total fs) (lex_before es fs)).0 t))
  where
    go : Then (total es) (total fs) (T (lex_before es fs)) → Then (e + total es) (e + total fs) (T (lex_before (e ∷ es) (e ∷ fs)))
    go (lower h) = lower (omega arith)
    go (level d u) = level (ap (e +◌) d) ((then_iff e e (lex_before es fs)).1 (level refl u))

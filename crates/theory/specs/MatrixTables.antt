-- A matrix in a flat table: the entry of row i and column c is at i * cols + c.
use Rattle.std.specs.Prelude.{◌≡◌, refl, ℕ, zero, suc, ◌+◌, ◌*◌, ◌/◌, ◌%◌, ◌<◌, List, [], ◌∷◌, ◌++◌, length, get_or}
use Rattle.std.proofs.Common.{sym, ap, ap₂, ◌∙◌, suc-le-suc, zero-add, suc-add, zero-mul, le_of_suc-le-suc, mul-zero, not-suc-le-zero, zero-lt-suc, mod-lt, div-lt_iff_lt-mul, div-add-mod', arith, length-append}
use Rattle.std.proofs.Math.Arith.{digits_lt, digits_div, digits_mod}
use Rattle.std.proofs.Math.ListN.{get_or-append}
use Rattle.meaning.specs.Elimination.{joined}
use Rattle.meaning.specs.Tables.{tabulate, at}
use Rattle.theory.specs.Tables.{at-tabulate, eq-tabulate}

-- the flat table of a function of row and column
abbrev pub flat : ℕ → (ℕ → ℕ → ℕ) → ℕ → ℕ
flat cols E n = E (n / cols) (n % cols)

-- its entries
pub flat-entry : (cols : ℕ) (E : ℕ → ℕ → ℕ) (i c : ℕ) → c < cols → flat cols E (i * cols + c) ≡ E i c
flat-entry cols E i c h = ap₂ E (digits_div i h) (digits_mod i h)

pub at_matrix : (rows cols : ℕ) (E : ℕ → ℕ → ℕ) (i c : ℕ) → i < rows → c < cols → at (tabulate (rows * cols) (flat cols E)) (i * cols + c) ≡ E i c
at_matrix rows cols E i c l h = at-tabulate (rows * cols) (flat cols E) (i * cols + c) (digits_lt l h) ∙ flat-entry cols E i c h

-- what holds of every row and column holds of every place
pub places : (rows cols : ℕ) (P : ℕ → Type 0) → ((i c : ℕ) → i < rows → c < cols → P (i * cols + c)) → (n : ℕ) → n < rows * cols → P n
places rows zero P h n l = absurd (not-suc-le-zero (rw (mul-zero rows) at l))
places rows (suc k) P h n l =
    rw (div-add-mod' n (suc k)) at (h (n / suc k) (n % suc k) ((div-lt_iff_lt-mul (zero-lt-suc k)).1 l) (mod-lt n (zero-lt-suc k)))

-- a table with the function's entries is its flat table
pub eq_matrix : (t : List ℕ) (rows cols : ℕ) (E : ℕ → ℕ → ℕ) → length t ≡ rows * cols
    → ((i c : ℕ) → i < rows → c < cols → at t (i * cols + c) ≡ E i c) → t ≡ tabulate (length t) (flat cols E)
eq_matrix t rows cols E e h =
    eq-tabulate t (length t) (flat cols E) refl
    (λ n l. places rows cols (λ n. at t n ≡ flat cols E n) (λ i c p q. h i c p q ∙ sym (flat-entry cols E i c q)) n (rw e at l))

-- ---- rows one behind the other

-- a list behind another
at-append_right : (xs ys : List ℕ) (k : ℕ) → at (xs ++ ys) (length xs + k) ≡ at ys k
at-append_right [] ys k = ap (at ys) (zero-add k)
at-append_right (x ∷ xs) ys k = ap (at (x ∷ (xs ++ ys))) (suc-add (length xs) k) ∙ at-append_right xs ys k

-- rows of n entries each, joined
pub length-joined : (n : ℕ) (rs : List (List ℕ)) → ((i : ℕ) → i < length rs → length (get_or rs i []) ≡ n) → length (joined rs) ≡ length rs * n
unfolding joined
length-joined n [] h = sym (zero-mul n)
length-joined n (r ∷ rs) h =
    length-append r (joined rs)
    ∙ ap₂ ◌+◌ (h 0 (zero-lt-suc (length rs))) (length-joined n rs (λ i p. h (suc i) (suc-le-suc p)))
    ∙ omega arith

-- the entry of row i and column c
pub at_joined : (n : ℕ) (rs : List (List ℕ)) → ((i : ℕ) → i < length rs → length (get_or rs i []) ≡ n)
    → (i c : ℕ) → i < length rs → c < n → at (joined rs) (i * n + c) ≡ at (get_or rs i []) c
unfolding joined
at_joined n [] h i c p q = absurd (not-suc-le-zero p)
at_joined n (r ∷ rs) h zero c p q =
    let e : 0 * n + c ≡ c = omega arith in
    ap (at (r ++ joined rs)) e ∙ get_or-append r (joined rs) 0 c (rw (h 0 (zero-lt-suc (length rs))) q)
at_joined n (r ∷ rs) h (suc i) c p q =
    let e : suc i * n + c ≡ length r + (i * n + c) = omega (arith, h 0 (zero-lt-suc (length rs))) in
    ap (at (r ++ joined rs)) e
    ∙ at-append_right r (joined rs) (i * n + c)
    ∙ at_joined n rs (λ i p. h (suc i) (suc-le-suc p)) i c (le_of_suc-le-suc p) q

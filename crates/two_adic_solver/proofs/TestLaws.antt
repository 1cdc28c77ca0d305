-- Tests of all numbers of a table, and the sum of the products of two, from the lists that chains of iterators go over.
use Rattle.std.proofs.Common.{◌≡◌, ℕ, ◌+◌, ◌*◌, ◌%◌, ◌^◌, ◌≤◌, Bool, false, ◌&&◌, List, [], ◌∷◌, length, get_or, fold, add-zero, zero-add, sym, refl, ap, ◌∙◌, arith, le_of_suc-le-suc, not-suc-le-zero}
use Rattle.std.specs.List.{list_all, zip}
use Rattle.meaning.specs.Tables.{at}
use Rattle.meaning.specs.Sums.{sum}
use Rattle.meaning.specs.Recovery.{every}

pub every_list : (p : ℕ → Bool) (xs : List ℕ) → list_all p xs ≡ every (length xs) (λ i. p (at xs i))
unfolding every
every_list p [] = refl
every_list p (x ∷ xs) = ap (p x &&◌) (every_list p xs)

-- of two tables side by side
pub every_zip : (p : ℕ × Bool → Bool) (xs : List ℕ) (bs : List Bool) → length xs ≤ length bs
    → list_all p (zip xs bs) ≡ every (length xs) (λ i. p (at xs i, get_or bs i false))
unfolding every
every_zip p [] bs l = refl
every_zip p (x ∷ xs) [] l = absurd (not-suc-le-zero l)
every_zip p (x ∷ xs) (b ∷ bs) l = ap (p (x, b) &&◌) (every_zip p xs bs (le_of_suc-le-suc l))

-- ---- sums of products

abbrev pub product_more : ℕ → ℕ × ℕ → ℕ
product_more t q = (t + (q.0 * q.1) % 2 ^ 64) % 2 ^ 64

wrapped : (a p s : ℕ) → ((a + p % 2 ^ 64) % 2 ^ 64 + s) % 2 ^ 64 ≡ (a + (p + s)) % 2 ^ 64
wrapped a p s = omega arith

products_from : (xs ys : List ℕ) (a : ℕ) → length xs ≤ length ys → a ≡ a % 2 ^ 64
    → fold product_more a (zip xs ys) ≡ (a + sum (length xs) (λ k. at xs k * at ys k)) % 2 ^ 64
unfolding sum
products_from [] ys a l e = e ∙ ap (◌% 2 ^ 64) (sym (add-zero a))
products_from (x ∷ xs) [] a l e = absurd (not-suc-le-zero l)
products_from (x ∷ xs) (y ∷ ys) a l e =
    products_from xs ys (product_more a (x, y)) (le_of_suc-le-suc l) (omega arith) ∙ wrapped a (x * y) (sum (length xs) (λ k. at xs k * at ys k))

pub products : (xs ys : List ℕ) → length xs ≤ length ys → fold product_more 0 (zip xs ys) ≡ sum (length xs) (λ k. at xs k * at ys k) % 2 ^ 64
products xs ys l = products_from xs ys 0 l refl ∙ ap (◌% 2 ^ 64) (zero-add _)

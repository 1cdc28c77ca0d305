-- A list pasted into a table, and another behind it.
use Rattle.std.specs.Prelude.{◌≡◌, List, [], ◌++◌, ℕ, ◌+◌, ◌-◌, ◌≤◌, length, take, drop}
use Rattle.std.proofs.Common.{sym, ap, ap₂, ◌∙◌, append_assoc, arith, length-append, length-take, length-drop, length-take-le, take_at, drop-drop}
use Rattle.std.proofs.Math.Seq.{drop-append-add, paste-zero}
use Rattle.theory.specs.Parts.{put}
use Rattle.weighted_poly_fit.specs.Listing.{pasted}

-- nothing pasted
pub pasted_none : (t : List ℕ) (a : ℕ) → t ≡ pasted t a []
pasted_none t a = paste-zero t a []

-- a list that takes the place of the part there
pub pasted_part : (t : List ℕ) (a : ℕ) (xs : List ℕ) {ys : List ℕ} → ys ≡ xs → put a (a + length xs) t ys ≡ pasted t a xs
pasted_part t a xs e =
    let n : a + length xs - a ≡ length xs = omega arith in
    ap (put a (a + length xs) t) e
    ∙ ap (λ (r : List ℕ). take a t ++ (xs ++ r)) (ap (λ (k : ℕ). drop k (drop a t)) n ∙ drop-drop (length xs) a t)
    ∙ sym (append_assoc (take a t) xs (drop (a + length xs) t))

module _ (t : List ℕ) (a : ℕ) (xs : List ℕ) where
  head_length : a ≤ length t → length (take a t ++ xs) ≡ a + length xs
  head_length h = length-append (take a t) xs ∙ ap (◌+ length xs) (length-take-le a t h)

  pub length-pasted : a + length xs ≤ length t → length (pasted t a xs) ≡ length t
  length-pasted h = simp (length-append, length-take, length-drop) (omega arith)

  -- the second behind the first
  pub pasted_more : (ys : List ℕ) → a ≤ length t → pasted (pasted t a xs) (a + length xs) ys ≡ pasted t a (xs ++ ys)
  pasted_more ys h =
      ap₂ (λ (l r : List ℕ). l ++ ys ++ r) (take_at (take a t ++ xs) _ _ (head_length h)) rest
      ∙ ap (◌++ drop (a + length (xs ++ ys)) t) (append_assoc (take a t) xs ys)
    where
      whole : a + length xs + length ys ≡ length (take a t ++ xs) + length ys
      whole = ap (◌+ length ys) (sym (head_length h))

      sum : a + length xs + length ys ≡ a + length (xs ++ ys)
      sum = omega (arith, length-append xs ys)

      rest : drop (a + length xs + length ys) (pasted t a xs) ≡ drop (a + length (xs ++ ys)) t
      rest =
          ap (λ (n : ℕ). drop n (pasted t a xs)) whole
          ∙ drop-append-add (take a t ++ xs) _ (length ys)
          ∙ drop-drop (length ys) (a + length xs) t
          ∙ ap (λ (n : ℕ). drop n t) sum

-- The program's number is the layout's, and narrowing changes no number of the settings.
use Rattle.std.specs.Prelude.{◌≡◌, refl, Bool, true, false, cond, List, ℕ, zero, suc, ◌≤◌, ◌<◌, eqb, length, Ok, Err, ⊤, Result}
use Rattle.std.proofs.Common.{sym, ◌∙◌, ⊎_elim, arith, lt-ltb, ap, ap₂}
use Rattle.meaning.specs.Boxes.{cells}
use Rattle.meaning.specs.Settings.{fits_width, limited_number, first}
use Rattle.meaning.specs.Recovery.{accepts}
use Rattle.theory.specs.Ranges.{width_above}
use Rattle.bench_file.specs.Layout.{Head, ill_head, ill_values, whole, degrees_of, head_number, bench_number}
use Rattle.bench_file.specs.Verdict.{verdict, narrowed}
use Rattle.bench_file.specs.HeadLines.{lt_or_ge}
use Rattle.bench_file.specs.declared.reader.IllFormed.{IllFormed}

pub verdict_ill_head : (s : ℕ) (e : Bool) (r : ℕ) → verdict (Err IllFormed.Head) s e r ≡ bench_number ill_head
unfolding verdict bench_number
verdict_ill_head s e r = refl

pub verdict_ill_values : (h : Head) (e : Bool) (r : ℕ) → verdict (Err IllFormed.Values) (head_number h) e r ≡ bench_number (ill_values h)
unfolding verdict bench_number
verdict_ill_values h e r = refl

pub verdict_whole : (h : Head) (vs : List ℕ)
    → verdict (Ok tt) (head_number h) (eqb (length vs) (cells (degrees_of h))) (cond (accepts h.width (degrees_of h) vs) 0 6)
    ≡ bench_number (whole h vs)
unfolding verdict bench_number
verdict_whole h vs = refl

-- case by case
module _ (x : Result ⊤ IllFormed) (s : ℕ) (e : Bool) (r : ℕ) where
  pub at_ill_head : x ≡ (Err IllFormed.Head) → verdict x s e r ≡ 12
  unfolding verdict
  at_ill_head h = ap (λ (y : Result ⊤ IllFormed). verdict y s e r) h

  pub at_ill_values : x ≡ (Err IllFormed.Values) → verdict x s e r ≡ first s 12
  unfolding verdict
  at_ill_values h = ap (λ (y : Result ⊤ IllFormed). verdict y s e r) h

  pub at_exact : x ≡ (Ok tt) → e ≡ true → verdict x s e r ≡ first s r
  unfolding verdict
  at_exact h k = ap₂ (λ (y : Result ⊤ IllFormed) (b : Bool). verdict y s b r) h k

  pub at_wrong : x ≡ (Ok tt) → e ≡ false → verdict x s e r ≡ first s 9
  unfolding verdict
  at_wrong h k = ap₂ (λ (y : Result ⊤ IllFormed) (b : Bool). verdict y s b r) h k

-- the width
pub narrowed_width : (w : ℕ) → fits_width (narrowed w) ≡ fits_width w
narrowed_width w =
    ⊎_elim
    (λ (h : 64 < w). width_above (narrowed w) (omega arith) ∙ sym (width_above w h))
    (λ (h : w ≤ 64). let same : narrowed w ≡ w = omega arith in ap fits_width same)
    (lt_or_ge 64 w)

-- the total
pub narrowed-total : (limit : ℕ) (strict : Bool) (total : ℕ) (fits : Bool) (support ds : List ℕ)
    → limited_number limit strict (narrowed total) fits support ds ≡ limited_number limit strict total fits support ds
unfolding limited_number
narrowed-total limit strict total fits support ds = ⊎_elim large small (lt_or_ge 20 total)
  where
    small : total ≤ 20 → limited_number limit strict (narrowed total) fits support ds ≡ limited_number limit strict total fits support ds
    small h = let same : narrowed total ≡ total = omega arith in ap (λ (x : ℕ). limited_number limit strict x fits support ds) same

    large : 20 < total → limited_number limit strict (narrowed total) fits support ds ≡ limited_number limit strict total fits support ds
    large h = two (narrowed total) (omega arith) ∙ sym (two total h)
      where
        two : (n : ℕ) → 20 < n → limited_number limit strict n fits support ds ≡ cond (eqb (length support) 0) 1 2
        two n h = simp (lt-ltb 20 n h)

-- the first of two numbers that is not 0
pub first_of_pos : (m n : ℕ) → (m ≡ 0 → ⊥) → m ≡ first m n
first_of_pos zero n h = absurd (h refl)
first_of_pos (suc m) n h = refl

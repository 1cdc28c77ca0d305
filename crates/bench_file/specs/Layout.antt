-- The layout of a bench file, what a file says, and what the bench program answers to it.
use Rattle.std.specs.Prelude.{◌≡◌, ℕ, zero, suc, ◌+◌, ◌*◌, ◌^◌, ◌<◌, ◌≤◌, true, cond, List, [], ◌∷◌, ◌++◌, eqb, length}
use Rattle.meaning.specs.Boxes.{cells, digits}
use Rattle.meaning.specs.Settings.{fits_width, cube, limited_number, small_number, first}
use Rattle.meaning.specs.Recovery.{accepts, answer}
use Rattle.bench_file.specs.Text.{line}

-- what the first two lines say
pub record Head : Type 0 where
  pub width : ℕ
  pub total : ℕ
  pub degree : ℕ
  pub support : List ℕ

-- numbers below 2^64
pub data Words : List ℕ → Type 0 where
  none : Words []
  next : {n : ℕ} {ns : List ℕ} → n < 2 ^ 64 → Words ns → Words (n ∷ ns)

-- numbers below 2^64, the degree to 255, the support count to 20
pub record GoodHead (h : Head) : Type 0 where
  pub width_word : h.width < 2 ^ 64
  pub total_word : h.total < 2 ^ 64
  pub low : h.degree ≤ 255
  pub few : length h.support ≤ 20
  pub words : Words h.support

-- line 1: width, total variables, degree, support count. Line 2: the support, empty if the count is 0.
unfoldable pub head_text : Head → List ℕ
unfolding line
head_text h = line (h.width ∷ h.total ∷ h.degree ∷ length h.support ∷ []) ++ line h.support

-- then one value a line
unfoldable pub values_text : List ℕ → List ℕ
unfolding line
values_text [] = []
values_text (v ∷ vs) = line (v ∷ []) ++ values_text vs

-- no file with at most 4,096 values has more bytes (PrintLaws: `length_file`): two lines of 4 and of 20 numbers, then a line for each value
abbrev pub longest_file : ℕ
longest_file = (21 * 4 + 1) + (21 * 20 + 1) + 4096 * 22

-- what a file can say
pub data Content : Type 0 where
  -- the first two lines are ill-formed
  ill_head : Content
  -- they are well-formed, and what follows is not
  ill_values : Head → Content
  -- all is well-formed
  whole : Head → List ℕ → Content

-- the file's bytes say it
pub data Says (bytes : List ℕ) : Content → Type 0 where
  says_ill_head : ((h : Head) (rest : List ℕ) → GoodHead h → bytes ≡ head_text h ++ rest → ⊥) → Says bytes ill_head
  says_ill_values : {h : Head} (rest : List ℕ) → GoodHead h → bytes ≡ head_text h ++ rest
      → ((vs : List ℕ) → Words vs → rest ≡ values_text vs → ⊥) → Says bytes (ill_values h)
  says_whole : {h : Head} {vs : List ℕ} → GoodHead h → Words vs → bytes ≡ head_text h ++ values_text vs → Says bytes (whole h vs)

-- the box's degree list
abbrev pub degrees_of : Head → List ℕ
degrees_of h = cube h.support h.degree

-- the number of the first cause in the settings, in the order 1, 2, 3, 4, 5, 7, 8. A box above 4,096 cells is 8 here.
unfoldable pub head_number : Head → ℕ
unfolding limited_number cells
head_number h = small_number true h.total (fits_width h.width) h.support (degrees_of h)

-- the number of the answer. The settings come before the values: where both are wrong the settings' number is said, and a box that is too large is 8
-- however many values follow. An ill-formed value is 12 even where the count is wrong too.
unfoldable pub bench_number : Content → ℕ
unfolding head_number cells accepts
bench_number ill_head = 12
bench_number (ill_values h) = first (head_number h) 12
bench_number (whole h vs) =
    first (head_number h) (cond (eqb (length vs) (cells (degrees_of h))) (cond (accepts h.width (degrees_of h) vs) 0 6) 9)

-- how many entries are not 0
unfoldable pub non_zeros : List ℕ → ℕ
non_zeros [] = 0
non_zeros (zero ∷ cs) = non_zeros cs
non_zeros (suc c ∷ cs) = suc (non_zeros cs)

-- a line for each non-zero coefficient, from cell n on: the exponents, then the coefficient
unfoldable pub term_lines : List ℕ → ℕ → List ℕ → List ℕ
unfolding digits line
term_lines ds n [] = []
term_lines ds n (zero ∷ cs) = term_lines ds (suc n) cs
term_lines ds n (suc c ∷ cs) = line (digits ds n ++ (suc c ∷ [])) ++ term_lines ds (suc n) cs

-- what is printed of an accepted answer
unfoldable pub accepted_text : List ℕ → List ℕ → List ℕ
unfolding line non_zeros term_lines
accepted_text ds cs = line (0 ∷ non_zeros cs ∷ []) ++ term_lines ds 0 cs

-- what is printed of a refusal
unfoldable pub refused_text : ℕ → List ℕ
unfolding line
refused_text n = line (n ∷ [])

-- what the program prints
unfoldable pub bench_text : Content → List ℕ
unfolding refused_text accepted_text bench_number answer
bench_text ill_head = refused_text (bench_number ill_head)
bench_text (ill_values h) = refused_text (bench_number (ill_values h))
bench_text (whole h vs) =
    cond (eqb (bench_number (whole h vs)) 0) (accepted_text (degrees_of h) (answer h.width (degrees_of h) vs))
    (refused_text (bench_number (whole h vs)))

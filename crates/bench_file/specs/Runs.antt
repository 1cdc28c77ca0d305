-- The reader on a text of the layout. Fed a number it takes that number in; fed the two first lines it holds them; fed values it stores and counts
-- them. Numbers first, for any stage that takes columns and a last column in.
use Rattle.std.specs.Prelude.{◌≡◌, refl, length, drop, set, replicate, Some, List, [], ◌∷◌, ◌++◌, ℕ, zero, suc, ◌+◌, ◌/◌, ◌%◌, ◌^◌, ◌≤◌, ◌<◌}
use Rattle.std.proofs.Common.{sym, ◌∙◌, add-zero, add-one, length-set, take_at, ap, ap₂, append-nil, arith}
use Rattle.std.proofs.Math.Nat.{pow-succ'}
use Rattle.std.proofs.lemmas.List.Edits.{sets, sets-eq}
use Rattle.meaning.specs.Tables.{at}
use Rattle.bench_file.specs.Text.{shown, columns, number, numbers, line}
use Rattle.bench_file.specs.Columns.{with_last_digit, with_column_of}
use Rattle.bench_file.specs.ColumnLaws.{digit_of, Column, blank, digit, column_of, column_shown, digit_shown}
use Rattle.bench_file.specs.Layout.{Head, Words, none, next, GoodHead, head_text, values_text}
use Rattle.bench_file.specs.Steps.{reader, none_read, staged, head_column_of, counted, State, state, line_end, step, fed, head_of}
use Rattle.bench_file.specs.StepLaws.{with_head_room, head_opens, head_closes, first_inside, first_ends, second_inside, second_ends, value-opens, value-closes, step-first, step_second, step_value, step-line-end, fed-append}
use Rattle.bench_file.specs.declared.reader.Stage.{Stage}
use Rattle.bench_file.specs.declared.reader.Reader.{Reader}

-- a column is no end of a line
pub column_inside : (v b w : ℕ) → with_column_of v b ≡ Some w → b ≡ 10 → ⊥
column_inside v b w e h = go w (column_of v b w e)
  where
    go : (w : ℕ) → Column v b w → ⊥
    go zero (blank p q) = omega arith
    go (suc w) (digit d) = omega arith

pub digit_inside : (v b n : ℕ) → with_last_digit v b ≡ Some n → b ≡ 10 → ⊥
digit_inside v b n e h = let d = digit_of v b n e in omega arith

-- any stage with `open c v` after c columns that show v and `closed n` after the number n
module _ (open' : ℕ → ℕ → State) (closed : ℕ → State)
    (opens : (c v b w : ℕ) → c < 20 → with_column_of v b ≡ Some w → step (open' c v) b ≡ open' (c + 1) w)
    (closes : (v b n : ℕ) → with_last_digit v b ≡ Some n → step (open' 20 v) b ≡ closed n) where
  fed-columns : (k n : ℕ) → k ≤ 20 → n < 10 ^ k → n < 2 ^ 64 → fed (open' 0 0) (columns k n) ≡ open' k n
  unfolding columns fed
  fed-columns zero n h s w = let z : 0 ≡ n = omega arith in ap (open' 0) z
  fed-columns (suc k) n h s w =
      let high : n / 10 < 10 ^ k = omega (arith, rw (pow-succ' 10 k) at s) in
      fed-append (open' 0 0) (columns k (n / 10)) (shown n ∷ [])
      ∙ ap (λ (x : State). step x (shown n)) (fed-columns k (n / 10) (omega arith) high (omega arith))
      ∙ opens k (n / 10) (shown n) n h (column_shown n w)
      ∙ ap (λ (x : ℕ). open' x n) (add-one k)

  pub fed-number : (n : ℕ) → n < 2 ^ 64 → fed (open' 0 0) (number n) ≡ closed n
  unfolding number fed
  fed-number n w =
      fed-append (open' 0 0) (columns 20 (n / 10)) ((48 + n % 10) ∷ [])
      ∙ ap (λ (x : State). step x (48 + n % 10)) (fed-columns 20 (n / 10) (omega arith) (omega arith) (omega arith))
      ∙ closes (n / 10) (48 + n % 10) n (digit_shown n w)

-- the numbers of the first two lines
module _ (stage : Stage)
    (inside : (r : Reader) (t : List ℕ) (b : ℕ) → r.stage ≡ stage → (b ≡ 10 → ⊥) → step (state r t) b ≡ state (head_column_of r b) t) where
  fed_head_number : (g : ℕ) (hd : List ℕ) (t : List ℕ) (n : ℕ) → g < 24 → n < 2 ^ 64
      → fed (state (reader stage 0 0 g hd 0) t) (number n) ≡ state (reader stage 0 0 (g + 1) (set hd g n) 0) t
  fed_head_number g hd t n h w =
      fed-number (λ c v. state (reader stage c v g hd 0) t) (λ n. state (reader stage 0 0 (g + 1) (set hd g n) 0) t)
      (λ c v b x l e.
      inside (reader stage c v g hd 0) t b refl (column_inside v b x e)
      ∙ ap (λ (y : Reader). state y t) (head_opens (reader stage c v g hd 0) b x l e))
      (λ v b x e.
      inside (reader stage 20 v g hd 0) t b refl (digit_inside v b x e)
      ∙ ap (λ (y : Reader). state y t)
      (head_closes (reader stage 20 v g hd 0) b x (omega arith) e ∙ with_head_room (reader stage 20 v g hd 0) x h))
      n w

  pub fed_head_numbers : (ns : List ℕ) (g : ℕ) (hd t : List ℕ) → Words ns → g + length ns ≤ 24
      → fed (state (reader stage 0 0 g hd 0) t) (numbers ns) ≡ state (reader stage 0 0 (g + length ns) (sets hd g ns) 0) t
  unfolding numbers fed
  fed_head_numbers [] g hd t none h = ap (λ (x : ℕ). state (reader stage 0 0 x hd 0) t) (sym (add-zero g))
  fed_head_numbers (n ∷ ns) g hd t (next w ws) h =
      fed-append (state (reader stage 0 0 g hd 0) t) (number n) (numbers ns)
      ∙ ap (λ (x : State). fed x (numbers ns)) (fed_head_number g hd t n (omega arith) w)
      ∙ fed_head_numbers ns (g + 1) (set hd g n) t ws (omega arith)
      ∙ ap₂ (λ (x y : ℕ). state (reader stage 0 0 x (sets (set hd g n) y ns) 0) t) (omega arith) (add-one g)

-- a line of them: `ended` is what the end of the line makes
fed-line : (s s' : State) (ns : List ℕ) → fed s (numbers ns) ≡ s' → fed s (line ns) ≡ step s' 10
unfolding line fed
fed-line s s' ns e = fed-append s (numbers ns) (10 ∷ []) ∙ ap (λ (x : State). step x 10) e

-- the first two lines as the reader holds them
abbrev pub four_of : Head → List ℕ
four_of h = h.width ∷ h.total ∷ h.degree ∷ length h.support ∷ []

abbrev pub held : Head → List ℕ
held h = sets (sets (replicate 24 0) 0 (four_of h)) 4 h.support

-- the reader after the first two lines
abbrev pub head_read : Head → Reader
head_read h = reader Stage.Value 0 0 (4 + length h.support) (held h) 0

module _ (h : Head) (few : length h.support ≤ 20) where
  held_split : held h ≡ four_of h ++ h.support ++ drop (4 + length h.support) (sets (replicate 24 0) 0 (four_of h))
  held_split = sets-eq h.support (sets (replicate 24 0) 0 (four_of h)) 4 (omega arith)

  held_degree : at (held h) 2 ≡ h.degree
  held_degree = ap (λ (x : List ℕ). at x 2) held_split

  held-count : at (held h) 3 ≡ length h.support
  held-count = ap (λ (x : List ℕ). at x 3) held_split

  pub head_of_held : head_of (head_read h) ≡ h
  head_of_held =
      ap (λ (x : List ℕ). head_of (reader Stage.Value 0 0 0 x 0)) held_split
      ∙ ap (λ (x : List ℕ). record { width = h.width; total = h.total; degree = h.degree; support = x })
      (take_at h.support (drop (4 + length h.support) (sets (replicate 24 0) 0 (four_of h))) (length h.support) refl)

pub fed_head : (h : Head) (t : List ℕ) → GoodHead h → fed (state none_read t) (head_text h) ≡ state (head_read h) t
unfolding head_text
fed_head h t good =
    fed-append (state none_read t) (line (four_of h)) (line h.support)
    ∙ ap (λ (x : State). fed x (line h.support)) first
    ∙ second
  where
    first : fed (state none_read t) (line (four_of h)) ≡ state (reader Stage.SecondLine 0 0 4 (sets (replicate 24 0) 0 (four_of h)) 0) t
    first =
        fed-line (state none_read t) _ (four_of h)
        (fed_head_numbers Stage.FirstLine (λ r t b e i. step-first r t b e ∙ ap (λ (y : Reader). state y t) (first_inside r b i))
        (four_of h) 0 (replicate 24 0) t
        (next good.width_word (next good.total_word (next (omega (arith, good.low)) (next (omega (arith, good.few)) none)))) (omega arith))
        ∙ step-first (reader Stage.FirstLine 0 0 4 (sets (replicate 24 0) 0 (four_of h)) 0) t 10 refl
        ∙ ap (λ (y : Reader). state y t) (first_ends (reader Stage.FirstLine 0 0 4 (sets (replicate 24 0) 0 (four_of h)) 0) 10 refl refl refl)

    second : fed (state (reader Stage.SecondLine 0 0 4 (sets (replicate 24 0) 0 (four_of h)) 0) t) (line h.support) ≡ state (head_read h) t
    second =
        fed-line _ _ h.support
        (fed_head_numbers Stage.SecondLine (λ r t b e i. step_second r t b e ∙ ap (λ (y : Reader). state y t) (second_inside r b i))
        h.support 4 (sets (replicate 24 0) 0 (four_of h)) t good.words (omega (arith, good.few)))
        ∙ step_second (staged Stage.SecondLine (head_read h)) t 10 refl
        ∙ ap (λ (y : Reader). state y t)
        (second_ends (staged Stage.SecondLine (head_read h)) 10 refl refl
        (omega (arith, held_degree h good.few, good.low))
        (omega (arith, held-count h good.few, good.few))
        (omega (arith, held-count h good.few)))

-- counting and storing one value after the other
unfoldable pub counted_all : ℕ → ℕ → List ℕ → ℕ
counted_all size count [] = count
counted_all size count (v ∷ vs) = counted_all size (counted size count) vs

unfoldable pub stored_all : List ℕ → ℕ → List ℕ → List ℕ
stored_all t count [] = t
stored_all t count (v ∷ vs) = stored_all (set t count v) (counted (length t) count) vs

-- a value's line
fed-value : (g : ℕ) (hd : List ℕ) (count : ℕ) (t : List ℕ) (v : ℕ) → v < 2 ^ 64
    → fed (state (reader Stage.Value 0 0 g hd count) t) (line (v ∷ []))
    ≡ state (reader Stage.Value 0 0 g hd (counted (length t) count)) (set t count v)
unfolding line numbers fed
fed-value g hd count t v w =
    fed-append (state (reader Stage.Value 0 0 g hd count) t) (number v ++ []) (10 ∷ [])
    ∙ ap (λ (x : State). step x 10)
    (ap (fed (state (reader Stage.Value 0 0 g hd count) t)) (append-nil (number v))
    ∙ fed-number (λ c x. state (reader Stage.Value c x g hd count) t) (λ n. state (reader Stage.LineEnd 0 n g hd count) t)
    (λ c x b y l e.
    step_value (reader Stage.Value c x g hd count) t b refl
    ∙ ap (λ (z : Reader). state z t) (value-opens (reader Stage.Value c x g hd count) b y l e))
    (λ x b n e.
    step_value (reader Stage.Value 20 x g hd count) t b refl
    ∙ ap (λ (z : Reader). state z t) (value-closes (reader Stage.Value 20 x g hd count) b n (omega arith) e))
    v w)
    ∙ step-line-end (reader Stage.LineEnd 0 v g hd count) t 10 refl
    ∙ line-ended
  where
    line-ended : line_end (state (reader Stage.LineEnd 0 v g hd count) t) 10 ≡ state (reader Stage.Value 0 0 g hd (counted (length t) count)) (set t count v)
    line-ended = refl

pub fed_values : (vs : List ℕ) (g : ℕ) (hd : List ℕ) (count : ℕ) (t : List ℕ) → Words vs
    → fed (state (reader Stage.Value 0 0 g hd count) t) (values_text vs)
    ≡ state (reader Stage.Value 0 0 g hd (counted_all (length t) count vs)) (stored_all t count vs)
unfolding values_text fed counted_all stored_all
fed_values [] g hd count t none = refl
fed_values (v ∷ vs) g hd count t (next w ws) =
    fed-append (state (reader Stage.Value 0 0 g hd count) t) (line (v ∷ [])) (values_text vs)
    ∙ ap (λ (x : State). fed x (values_text vs)) (fed-value g hd count t v w)
    ∙ fed_values vs g hd (counted (length t) count) (set t count v) ws
    ∙ ap
    (λ (x : ℕ). state (reader Stage.Value 0 0 g hd (counted_all x (counted (length t) count) vs)) (stored_all (set t count v) (counted (length t) count) vs))
    (length-set t count v)

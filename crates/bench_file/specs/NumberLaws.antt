-- The text of a number: 21 columns, which are read back as that number and as nothing else, and which can be filled from the right.
use Rattle.std.specs.Prelude.{◌≡◌, refl, List, [], ◌∷◌, ◌++◌, ℕ, zero, suc, ◌+◌, ◌/◌, ◌%◌, ◌^◌, ◌≤◌, ◌<◌, length, take, drop, set, Option, Some, None}
use Rattle.std.proofs.Common.{sym, ◌∙◌, ap, ap₂, subst, append_assoc, arith, add-one, length-append, length-set, length-take, drop_of_length-le, le_refl, not-suc-le-zero, take_at, drop-cons, get_or-set_same, drop-set-lt, get_or-take}
use Rattle.std.proofs.Math.Seq.{split_at}
use Rattle.std.proofs.lemmas.List.{get_or_at}
use Rattle.meaning.specs.Tables.{at}
use Rattle.bench_file.specs.Text.{shown, columns, number}
use Rattle.bench_file.specs.Columns.{Reads, is_number, is_ill, with_last_digit, with_column_of, and_then, with_columns}
use Rattle.bench_file.specs.ColumnLaws.{columns-shown, columns_text, digit_shown, digit_text, digit_of, ill_is_no_number}

pub length-columns : (k n : ℕ) → length (columns k n) ≡ k
unfolding columns
length-columns zero n = refl
length-columns (suc k) n = length-append (columns k (n / 10)) (shown n ∷ []) ∙ rw (length-columns k (n / 10)) (add-one k)

pub length-number : (n : ℕ) → length (number n) ≡ 21
unfolding number
length-number n = length-append (columns 20 (n / 10)) ((48 + n % 10) ∷ []) ∙ ap (◌+ 1) (length-columns 20 (n / 10))

-- its first 20 columns, and its last
pub number-columns : (n : ℕ) → take 20 (number n) ≡ columns 20 (n / 10)
unfolding number
number-columns n = take_at (columns 20 (n / 10)) ((48 + n % 10) ∷ []) 20 (length-columns 20 (n / 10))

pub number_last : (n : ℕ) → at (number n) 20 ≡ 48 + n % 10
unfolding number
number_last n = get_or_at (columns 20 (n / 10)) (48 + n % 10) [] 0 20 (length-columns 20 (n / 10))

pub number-shown : (n : ℕ) → n < 2 ^ 64 → with_columns 0 (take 20 (number n)) ≡ Some (n / 10)
number-shown n h = rw (number-columns n) (columns-shown 20 (n / 10) (omega arith) (omega arith))

-- bytes whose first 20 columns do not read are the text of no number
pub reads_ill_columns : (bs : List ℕ) → with_columns 0 (take 20 bs) ≡ None → Reads bs None
reads_ill_columns bs e =
    is_ill (λ n h t. ill_is_no_number (sym e ∙ ap (λ (x : List ℕ). with_columns 0 (take 20 x)) t ∙ number-shown n h))

pub reads_ill_length : (bs : List ℕ) → (length bs ≡ 21 → ⊥) → Reads bs None
reads_ill_length bs e = is_ill (λ n h t. e (ap length t ∙ length-number n))

-- where they do, the last column decides
pub reads_last : (bs : List ℕ) (v : ℕ) → length bs ≡ 21 → with_columns 0 (take 20 bs) ≡ Some v → Reads bs (with_last_digit v (at bs 20))
unfolding columns
reads_last bs v e h = go (with_last_digit v (at bs 20)) refl
  where
    front : take 20 bs ≡ columns 20 v
    front = columns_text (take 20 bs) 0 20 0 v (simp length-take (omega arith)) h

    go : (f : Option ℕ) → with_last_digit v (at bs 20) ≡ f → Reads bs f
    go (Some n) d =
        is_number (digit_of v (at bs 20) n d).small
        (split_at bs 20 0 (omega arith)
        ∙ ap₂ (λ (x y : List ℕ). x ++ at bs 20 ∷ y) front (drop_of_length-le bs {i = 21} (omega arith))
        ∙ digit_text v (at bs 20) n d)
    go None d =
        is_ill (λ n s t.
        let high : Some v ≡ Some (n / 10) = sym h ∙ ap (λ (x : List ℕ). with_columns 0 (take 20 x)) t ∙ number-shown n s in
        let same : v ≡ n / 10 = cc in
        let low : at bs 20 ≡ 48 + n % 10 = ap (λ (x : List ℕ). at x 20) t ∙ number_last n in
        ill_is_no_number (sym d ∙ ap₂ with_last_digit same low ∙ digit_shown n s))

-- one column more is read, and none
pub columns_turn : (cs : List ℕ) (v i : ℕ) → i < length cs
    → with_columns v (drop i cs) ≡ and_then (with_column_of v (at cs i)) (λ w. with_columns w (drop (i + 1) cs))
unfolding with_columns
columns_turn cs v i h = rw (add-one i, drop-cons cs i 0 h)

pub columns_none : (cs : List ℕ) (v i : ℕ) → length cs ≤ i → with_columns v (drop i cs) ≡ Some v
unfolding with_columns
columns_none cs v i h = rw (drop_of_length-le cs h)

-- of the first 20 columns
pub columns_next : (bs : List ℕ) (v i : ℕ) → length bs ≡ 21 → i < 20
    → with_columns v (drop i (take 20 bs)) ≡ and_then (with_column_of v (at bs i)) (λ w. with_columns w (drop (i + 1) (take 20 bs)))
columns_next bs v i e h = columns_turn (take 20 bs) v i (simp length-take (omega arith)) ∙ rw (get_or-take 20 bs i 0 h)

pub columns_next_number : (bs : List ℕ) (v i w : ℕ) → length bs ≡ 21 → i < 20 → with_column_of v (at bs i) ≡ Some w
    → with_columns v (drop i (take 20 bs)) ≡ with_columns w (drop (i + 1) (take 20 bs))
unfolding and_then
columns_next_number bs v i w e h d = columns_next bs v i e h ∙ rw d

pub columns_next_ill : (bs : List ℕ) (v i : ℕ) → length bs ≡ 21 → i < 20 → with_column_of v (at bs i) ≡ None
    → with_columns v (drop i (take 20 bs)) ≡ None
unfolding and_then
columns_next_ill bs v i e h d = columns_next bs v i e h ∙ rw d

-- none is left
pub columns-end : (bs : List ℕ) (v i : ℕ) → length bs ≡ 21 → 20 ≤ i → with_columns v (drop i (take 20 bs)) ≡ Some v
columns-end bs v i e h = columns_none (take 20 bs) v i (simp length-take (omega arith))

pub shown_of_pos : (n : ℕ) → (n ≡ 0 → ⊥) → 48 + n % 10 ≡ shown n
shown_of_pos zero h = absurd (h refl)
shown_of_pos (suc n) h = refl

-- filled from the right: one column more
pub columns-step : (i j n : ℕ) (t : List ℕ) → suc j ≡ i → j < length t
    → columns j (n / 10) ++ drop j (set t j (shown n)) ≡ columns i n ++ drop i t
unfolding columns
columns-step i j n t e h =
    subst (λ (k : ℕ). columns j (n / 10) ++ drop j (set t j (shown n)) ≡ columns k n ++ drop k t) e
    (ap (columns j (n / 10) ++◌)
    (drop-cons (set t j (shown n)) j 0 (simp length-set h)
    ∙ ap₂ ◌∷◌ (get_or-set_same t j (shown n) 0 h) (drop-set-lt (suc j) t j (shown n) (le_refl _)))
    ∙ sym (append_assoc (columns j (n / 10)) (shown n ∷ []) (drop (suc j) t)))

-- the last column first
pub number-start : (n : ℕ) (t : List ℕ) → length t ≡ 21 → columns 20 (n / 10) ++ drop 20 (set t 20 (48 + n % 10)) ≡ number n
unfolding number
number-start n t e =
    ap (columns 20 (n / 10) ++◌)
    (drop-cons (set t 20 (48 + n % 10)) 20 0 (simp length-set (omega arith))
    ∙ ap₂ ◌∷◌ (get_or-set_same t 20 (48 + n % 10) 0 (omega arith))
    (drop_of_length-le (set t 20 (48 + n % 10)) {i = 21} (simp length-set (omega arith))))

-- the whole is filled
pub number-end : (i n rest : ℕ) (t : List ℕ) → i ≤ 0 → columns i rest ++ drop i t ≡ number n → t ≡ number n
unfolding columns
number-end zero n rest t h e = e
number-end (suc i) n rest t h e = absurd (not-suc-le-zero h)

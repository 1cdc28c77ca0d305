-- What one byte makes of a reader, case by case.
use Rattle.std.specs.Prelude.{◌≡◌, refl, List, [], ◌∷◌, ◌++◌, ℕ, suc, ◌+◌, ◌≤◌, ◌<◌, length, set, drop, Some, None}
use Rattle.std.proofs.Common.{sym, ◌∙◌, add-one, drop_of_length-le, drop-cons, ap}
use borrow.Author.Tests.{lt-ltb, le-ltb, le-leb, lt-leb, eq-eqb, ne_eqb}
use Rattle.std.proofs.Math.Seq.{set_out}
use Rattle.meaning.specs.Tables.{at}
use Rattle.bench_file.specs.Columns.{with_last_digit, with_column_of}
use Rattle.bench_file.specs.Steps.{reader, staged, opened, with_head, head_column_of, first_byte_of, second_byte_of, with_value_of, value_byte_of, counted, State, state, line_end, step_at, step, fed}
use Rattle.bench_file.specs.declared.reader.Stage.{Stage}
use Rattle.bench_file.specs.declared.reader.Reader.{Reader}

-- a number of the first two lines
module _ (r : Reader) (n : ℕ) where
  pub with_head_room : r.got < 24 → with_head r n ≡ reader r.stage 0 0 (r.got + 1) (set r.head r.got n) r.count
  with_head_room h = simp (lt-ltb r.got 24 h)

  pub with_head_full : 24 ≤ r.got → with_head r n ≡ staged Stage.IllHead r
  with_head_full h = simp (le-ltb r.got 24 h)

module _ (r : Reader) (b : ℕ) where
  pub head_opens : (v : ℕ) → r.column < 20 → with_column_of r.shown b ≡ Some v → head_column_of r b ≡ opened r v
  unfolding head_column_of
  head_opens v h e = simp (lt-ltb r.column 20 h, e)

  pub head_opens_ill : r.column < 20 → with_column_of r.shown b ≡ None → head_column_of r b ≡ staged Stage.IllHead r
  unfolding head_column_of
  head_opens_ill h e = simp (lt-ltb r.column 20 h, e)

  pub head_closes : (n : ℕ) → 20 ≤ r.column → with_last_digit r.shown b ≡ Some n → head_column_of r b ≡ with_head r n
  unfolding head_column_of
  head_closes n h e = simp (le-ltb r.column 20 h, e)

  pub head_closes_ill : 20 ≤ r.column → with_last_digit r.shown b ≡ None → head_column_of r b ≡ staged Stage.IllHead r
  unfolding head_column_of
  head_closes_ill h e = simp (le-ltb r.column 20 h, e)

  -- the first line
  pub first_inside : (b ≡ 10 → ⊥) → first_byte_of r b ≡ head_column_of r b
  unfolding first_byte_of
  first_inside h = simp (ne_eqb b 10 h)

  pub first_broken : b ≡ 10 → (r.column ≡ 0 → ⊥) → first_byte_of r b ≡ staged Stage.IllHead r
  unfolding first_byte_of
  first_broken h k = simp (eq-eqb b 10 h, ne_eqb r.column 0 k)

  pub first_other : b ≡ 10 → r.column ≡ 0 → (r.got ≡ 4 → ⊥) → first_byte_of r b ≡ staged Stage.IllHead r
  unfolding first_byte_of
  first_other h k g = simp (eq-eqb b 10 h, eq-eqb r.column 0 k, ne_eqb r.got 4 g)

  pub first_ends : b ≡ 10 → r.column ≡ 0 → r.got ≡ 4 → first_byte_of r b ≡ staged Stage.SecondLine r
  unfolding first_byte_of
  first_ends h k g = simp (eq-eqb b 10 h, eq-eqb r.column 0 k, eq-eqb r.got 4 g)

  -- the second line
  pub second_inside : (b ≡ 10 → ⊥) → second_byte_of r b ≡ head_column_of r b
  unfolding second_byte_of
  second_inside h = simp (ne_eqb b 10 h)

  module _ (h : b ≡ 10) where
    pub second_broken : (r.column ≡ 0 → ⊥) → second_byte_of r b ≡ staged Stage.IllHead r
    unfolding second_byte_of
    second_broken k = simp (eq-eqb b 10 h, ne_eqb r.column 0 k)

    module _ (k : r.column ≡ 0) where
      pub second_high : 255 < at r.head 2 → second_byte_of r b ≡ staged Stage.IllHead r
      unfolding second_byte_of
      second_high d = simp (eq-eqb b 10 h, eq-eqb r.column 0 k, lt-leb (at r.head 2) 255 d)

      module _ (d : at r.head 2 ≤ 255) where
        pub second_many : 20 < at r.head 3 → second_byte_of r b ≡ staged Stage.IllHead r
        unfolding second_byte_of
        second_many m =
            simp (eq-eqb b 10 h, eq-eqb r.column 0 k, le-leb (at r.head 2) 255 d, lt-leb (at r.head 3) 20 m)

        module _ (m : at r.head 3 ≤ 20) where
          pub second_other : (r.got ≡ at r.head 3 + 4 → ⊥) → second_byte_of r b ≡ staged Stage.IllHead r
          unfolding second_byte_of
          second_other g =
              simp
              (eq-eqb b 10 h, eq-eqb r.column 0 k, le-leb (at r.head 2) 255 d, le-leb (at r.head 3) 20 m, ne_eqb r.got (at r.head 3 + 4) g)

          pub second_ends : r.got ≡ at r.head 3 + 4 → second_byte_of r b ≡ staged Stage.Value r
          unfolding second_byte_of
          second_ends g =
              simp
              (eq-eqb b 10 h, eq-eqb r.column 0 k, le-leb (at r.head 2) 255 d, le-leb (at r.head 3) 20 m, eq-eqb r.got (at r.head 3 + 4) g)

  -- a value
  pub value-opens : (v : ℕ) → r.column < 20 → with_column_of r.shown b ≡ Some v → value_byte_of r b ≡ opened r v
  unfolding value_byte_of
  value-opens v h e = simp (lt-ltb r.column 20 h, e)

  pub value-opens-ill : r.column < 20 → with_column_of r.shown b ≡ None → value_byte_of r b ≡ staged Stage.IllValues r
  unfolding value_byte_of
  value-opens-ill h e = simp (lt-ltb r.column 20 h, e)

  pub value-closes : (n : ℕ) → 20 ≤ r.column → with_last_digit r.shown b ≡ Some n → value_byte_of r b ≡ with_value_of r n
  unfolding value_byte_of
  value-closes n h e = simp (le-ltb r.column 20 h, e)

  pub value-closes-ill : 20 ≤ r.column → with_last_digit r.shown b ≡ None → value_byte_of r b ≡ staged Stage.IllValues r
  unfolding value_byte_of
  value-closes-ill h e = simp (le-ltb r.column 20 h, e)

-- the byte after a value
module _ (r : Reader) (t : List ℕ) (b : ℕ) where
  pub line-end_ill : (b ≡ 10 → ⊥) → line_end (state r t) b ≡ state (staged Stage.IllValues r) t
  unfolding line_end
  line-end_ill h = simp (ne_eqb b 10 h)

  pub line-end_stores : b ≡ 10
      → line_end (state r t) b ≡ state (reader Stage.Value 0 0 r.got r.head (counted (length t) r.count)) (set t r.count r.shown)
  unfolding line_end
  line-end_stores h = simp (eq-eqb b 10 h)

  pub line-end_room : b ≡ 10 → r.count < length t
      → line_end (state r t) b ≡ state (reader Stage.Value 0 0 r.got r.head (r.count + 1)) (set t r.count r.shown)
  unfolding line_end
  line-end_room h k = simp (eq-eqb b 10 h, lt-ltb r.count (length t) k)

  pub line-end_full : b ≡ 10 → length t ≤ r.count
      → line_end (state r t) b ≡ state (reader Stage.Value 0 0 r.got r.head (length t + 1)) t
  unfolding line_end
  line-end_full h k = simp (eq-eqb b 10 h, le-ltb r.count (length t) k, set_out t r.count r.shown k)

-- one byte at each stage
module _ (r : Reader) (t : List ℕ) (b : ℕ) where
  pub step-first : r.stage ≡ Stage.FirstLine → step (state r t) b ≡ state (first_byte_of r b) t
  unfolding step_at
  step-first e = ap (λ (s : Stage). step_at s (state r t) b) e

  pub step_second : r.stage ≡ Stage.SecondLine → step (state r t) b ≡ state (second_byte_of r b) t
  unfolding step_at
  step_second e = ap (λ (s : Stage). step_at s (state r t) b) e

  pub step_value : r.stage ≡ Stage.Value → step (state r t) b ≡ state (value_byte_of r b) t
  unfolding step_at
  step_value e = ap (λ (s : Stage). step_at s (state r t) b) e

  pub step-line-end : r.stage ≡ Stage.LineEnd → step (state r t) b ≡ line_end (state r t) b
  unfolding step_at
  step-line-end e = ap (λ (s : Stage). step_at s (state r t) b) e

  pub step_ill_head : r.stage ≡ Stage.IllHead → step (state r t) b ≡ state r t
  unfolding step_at
  step_ill_head e = ap (λ (s : Stage). step_at s (state r t) b) e

  pub step_ill_values : r.stage ≡ Stage.IllValues → step (state r t) b ≡ state r t
  unfolding step_at
  step_ill_values e = ap (λ (s : Stage). step_at s (state r t) b) e

-- bytes in pieces
pub fed-append : (s : State) (xs ys : List ℕ) → fed s (xs ++ ys) ≡ fed (fed s xs) ys
unfolding fed
fed-append s [] ys = refl
fed-append s (x ∷ xs) ys = fed-append (step s x) xs ys

pub fed_next : (s s' : State) (bs : List ℕ) (i : ℕ) → i < length bs → s' ≡ step s (at bs i) → fed s (drop i bs) ≡ fed s' (drop (i + 1) bs)
unfolding fed
fed_next s s' bs i h e = rw (add-one i, drop-cons bs i 0 h) (ap (λ (x : State). fed x (drop (suc i) bs)) (sym e))

pub fed-end : (s : State) (bs : List ℕ) (i : ℕ) → length bs ≤ i → fed s (drop i bs) ≡ s
unfolding fed
fed-end s bs i h = rw (drop_of_length-le bs h)

-- first lines that are ill-formed stay so: no further byte changes anything
pub fed_ill_head : (r : Reader) (t bs : List ℕ) → r.stage ≡ Stage.IllHead → fed (state r t) bs ≡ state r t
unfolding fed
fed_ill_head r t [] e = refl
fed_ill_head r t (b ∷ bs) e = ap (λ (s : State). fed s bs) (step_ill_head r t b e) ∙ fed_ill_head r t bs e

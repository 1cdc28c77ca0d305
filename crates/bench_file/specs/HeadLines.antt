-- In the first two lines: unless the reader found them ill-formed, the bytes so far are the text of the numbers that it holds and of the columns of an
-- open number.
use Rattle.std.specs.Prelude.{◌≡◌, refl, Bool, true, false, ◌⊎◌, ℕ, ◌+◌, ◌^◌, ◌≤◌, ◌<◌, ltb, eqb, length, take, set, Option, Some, None, List, [], ◌∷◌, ◌++◌}
use Rattle.std.proofs.Common.{sym, ap, ◌∙◌, subst, inl, inr, ⊎_elim, add-one, arith, ltb-true, ltb-false, eqb-true, take-suc-set, append_assoc, append-nil, length-append, length-set}
use Rattle.std.proofs.lemmas.Bool.{eqb-false}
use Rattle.bench_file.specs.Text.{columns, number, numbers}
use Rattle.bench_file.specs.Columns.{with_last_digit, with_column_of}
use Rattle.bench_file.specs.ColumnLaws.{digit_of, column_of, column_text, column_small, digit_text}
use Rattle.bench_file.specs.Layout.{Words, none, next}
use Rattle.bench_file.specs.Steps.{reader, opened, head_column_of}
use Rattle.bench_file.specs.StepLaws.{with_head_room, with_head_full, head_opens, head_opens_ill, head_closes, head_closes_ill}
use Rattle.bench_file.specs.declared.reader.Stage.{Stage}
use Rattle.bench_file.specs.declared.reader.Reader.{Reader}

-- tests
pub lt_or_ge : (m n : ℕ) → (m < n) ⊎ (n ≤ m)
lt_or_ge m n = go (ltb m n) refl
  where
    go : (p : Bool) → ltb m n ≡ p → (m < n) ⊎ (n ≤ m)
    go true e = inl (ltb-true m n e)
    go false e = inr (ltb-false m n e)

pub eq_or_ne : (m n : ℕ) → (m ≡ n) ⊎ (m ≡ n → ⊥)
eq_or_ne m n = go (eqb m n) refl
  where
    go : (p : Bool) → eqb m n ≡ p → (m ≡ n) ⊎ (m ≡ n → ⊥)
    go true e = inl (eqb-true m n e)
    go false e = inr (eqb-false m n e)

-- numbers side by side, and their bounds
pub numbers-append : (ns ms : List ℕ) → numbers (ns ++ ms) ≡ numbers ns ++ numbers ms
unfolding numbers
numbers-append [] ms = refl
numbers-append (n ∷ ns) ms = ap (number n ++◌) (numbers-append ns ms) ∙ sym (append_assoc (number n) (numbers ns) (numbers ms))

pub words_snoc : (ns : List ℕ) (n : ℕ) → Words ns → n < 2 ^ 64 → Words (ns ++ (n ∷ []))
words_snoc [] n none h = next h none
words_snoc (m ∷ ns) n (next w ws) h = next w (words_snoc ns n ws h)

-- in one of the first two lines: `done` is the text of the lines before and `fs` are the numbers there
pub record InHead (done fs : List ℕ) (bs : List ℕ) (r : Reader) : Type 0 where
  pub ns : List ℕ
  pub words : Words ns
  pub size : length r.head ≡ 24
  pub count : r.got ≡ length fs + length ns
  pub room : r.got ≤ 24
  pub front : take r.got r.head ≡ fs ++ ns
  pub narrow : r.column ≤ 20
  pub small : r.shown < 2 ^ 64
  pub text : bs ≡ done ++ numbers ns ++ columns r.column r.shown

-- what comes of a byte there: one more column or number, or the lines are ill-formed
pub data AfterHead (done fs bs : List ℕ) (r : Reader) : Reader → Type 0 where
  goes_on : {r' : Reader} → r'.stage ≡ r.stage → r'.count ≡ r.count → InHead done fs bs r' → AfterHead done fs bs r r'
  ends : {r' : Reader} → r'.stage ≡ Stage.IllHead → AfterHead done fs bs r r'

module _ (done fs bs : List ℕ) (r : Reader) (b : ℕ) (s : InHead done fs bs r) where
  one_more : (k : List ℕ) → columns r.column r.shown ++ (b ∷ []) ≡ k → bs ++ (b ∷ []) ≡ done ++ numbers s.ns ++ k
  one_more k e =
      ap (◌++ (b ∷ [])) s.text
      ∙ append_assoc (done ++ numbers s.ns) (columns r.column r.shown) (b ∷ [])
      ∙ ap (done ++ numbers s.ns ++◌) e

  head_opened : (v : ℕ) → r.column < 20 → with_column_of r.shown b ≡ Some v → InHead done fs (bs ++ (b ∷ [])) (opened r v)
  head_opened v h e =
      record {
        ns = s.ns;
        words = s.words;
        size = s.size;
        count = s.count;
        room = s.room;
        front = s.front;
        narrow = omega arith;
        small = column_small r.shown b v (column_of r.shown b v e);
        text = one_more (columns (r.column + 1) v)
            (column_text r.column r.shown b v (column_of r.shown b v e) ∙ ap (λ (x : ℕ). columns x v) (sym (add-one r.column)));
      }

  head_taken : (n : ℕ) → 20 ≤ r.column → r.got < 24 → with_last_digit r.shown b ≡ Some n
      → InHead done fs (bs ++ (b ∷ [])) (reader r.stage 0 0 (r.got + 1) (set r.head r.got n) r.count)
  unfolding columns numbers
  head_taken n h g e =
      record {
        ns = s.ns ++ (n ∷ []);
        words = words_snoc s.ns n s.words (digit_of r.shown b n e).small;
        size = length-set r.head r.got n ∙ s.size;
        count = simp length-append (omega (arith, s.count));
        room = omega arith;
        front = rw (add-one r.got) (take-suc-set r.head r.got n (omega (arith, s.size))
            ∙ ap (◌++ (n ∷ [])) s.front ∙ append_assoc fs s.ns (n ∷ []));
        narrow = omega arith;
        small = omega arith;
        text = one_more (number n) (ap (λ (x : ℕ). columns x r.shown ++ (b ∷ [])) last ∙ digit_text r.shown b n e)
            ∙ append_assoc done (numbers s.ns) (number n)
            ∙ ap (done ++◌) (ap (numbers s.ns ++◌) (sym (append-nil (number n))) ∙ sym (numbers-append s.ns (n ∷ [])))
            ∙ sym (append-nil (done ++ numbers (s.ns ++ (n ∷ []))));
      }
    where
      last : r.column ≡ 20
      last = omega (arith, s.narrow)

  -- one byte that does not end the line
  pub head_next : AfterHead done fs (bs ++ (b ∷ [])) r (head_column_of r b)
  head_next = ⊎_elim open' close' (lt_or_ge r.column 20)
    where
      take_in : (n : ℕ) → 20 ≤ r.column → with_last_digit r.shown b ≡ Some n → (r.got < 24) ⊎ (24 ≤ r.got)
          → AfterHead done fs (bs ++ (b ∷ [])) r (head_column_of r b)
      take_in n h e (inl g) =
          subst (AfterHead done fs (bs ++ (b ∷ [])) r) (sym (head_closes r b n h e ∙ with_head_room r n g))
          (goes_on refl refl (head_taken n h g e))
      take_in n h e (inr g) =
          subst (AfterHead done fs (bs ++ (b ∷ [])) r) (sym (head_closes r b n h e ∙ with_head_full r n g)) (ends refl)

      opens : (f : Option ℕ) → r.column < 20 → with_column_of r.shown b ≡ f → AfterHead done fs (bs ++ (b ∷ [])) r (head_column_of r b)
      opens (Some v) h e =
          subst (AfterHead done fs (bs ++ (b ∷ [])) r) (sym (head_opens r b v h e)) (goes_on refl refl (head_opened v h e))
      opens None h e = subst (AfterHead done fs (bs ++ (b ∷ [])) r) (sym (head_opens_ill r b h e)) (ends refl)

      closes : (f : Option ℕ) → 20 ≤ r.column → with_last_digit r.shown b ≡ f → AfterHead done fs (bs ++ (b ∷ [])) r (head_column_of r b)
      closes (Some n) h e = take_in n h e (lt_or_ge r.got 24)
      closes None h e = subst (AfterHead done fs (bs ++ (b ∷ [])) r) (sym (head_closes_ill r b h e)) (ends refl)

      open' : r.column < 20 → AfterHead done fs (bs ++ (b ∷ [])) r (head_column_of r b)
      open' h = opens (with_column_of r.shown b) h refl

      close' : 20 ≤ r.column → AfterHead done fs (bs ++ (b ∷ [])) r (head_column_of r b)
      close' h = closes (with_last_digit r.shown b) h refl

-- In the values: the bytes so far are the first two lines, the lines of the values so far, and what there is of the next.
use Rattle.std.specs.Prelude.{◌≡◌, refl, List, [], ◌∷◌, ◌++◌, ℕ, ◌+◌, ◌^◌, ◌≤◌, ◌<◌, length, set, Option, Some, None}
use Rattle.std.proofs.Common.{sym, ◌∙◌, ap, ap₂, subst, append_assoc, append-nil, ⊎_elim, add-one, arith, length-set}
use Rattle.bench_file.specs.Text.{columns, number, numbers, line}
use Rattle.bench_file.specs.Columns.{with_last_digit, with_column_of}
use Rattle.bench_file.specs.ColumnLaws.{digit_of, column_of, column_text, column_small, digit_text}
use Rattle.bench_file.specs.Layout.{Words, GoodHead, head_text, values_text}
use Rattle.bench_file.specs.Steps.{reader, staged, opened, with_value_of, value_byte_of, counted, head_of}
use Rattle.bench_file.specs.StepLaws.{value-opens, value-opens-ill, value-closes, value-closes-ill}
use Rattle.bench_file.specs.Runs.{counted_all, stored_all}
use Rattle.bench_file.specs.HeadLines.{lt_or_ge, words_snoc}
use Rattle.bench_file.specs.declared.reader.Stage.{Stage}
use Rattle.bench_file.specs.declared.reader.Reader.{Reader}

-- one value more
pub values_snoc : (vs : List ℕ) (v : ℕ) → values_text (vs ++ (v ∷ [])) ≡ values_text vs ++ line (v ∷ [])
unfolding values_text
values_snoc [] v = append-nil (line (v ∷ []))
values_snoc (x ∷ vs) v = ap (line (x ∷ []) ++◌) (values_snoc vs v) ∙ sym (append_assoc (line (x ∷ [])) (values_text vs) (line (v ∷ [])))

pub counted-snoc : (size count : ℕ) (vs : List ℕ) (v : ℕ) → counted_all size count (vs ++ (v ∷ [])) ≡ counted size (counted_all size count vs)
unfolding counted_all
counted-snoc size count [] v = refl
counted-snoc size count (x ∷ vs) v = counted-snoc size (counted size count) vs v

pub length_stored : (t : List ℕ) (count : ℕ) (vs : List ℕ) → length (stored_all t count vs) ≡ length t
unfolding stored_all
length_stored t count [] = refl
length_stored t count (x ∷ vs) = length_stored (set t count x) (counted (length t) count) vs ∙ length-set t count x

pub stored_snoc : (t : List ℕ) (count : ℕ) (vs : List ℕ) (v : ℕ)
    → stored_all t count (vs ++ (v ∷ [])) ≡ set (stored_all t count vs) (counted_all (length t) count vs) v
unfolding stored_all counted_all
stored_snoc t count [] v = refl
stored_snoc t count (x ∷ vs) v =
    stored_snoc (set t count x) (counted (length t) count) vs v
    ∙ ap (λ (n : ℕ). set (stored_all (set t count x) (counted (length t) count) vs) (counted_all n (counted (length t) count) vs) v) (length-set t count x)

-- `open'` is what there is of the next line
pub record InValues (open' : List ℕ) (t₀ bs : List ℕ) (r : Reader) (t : List ℕ) : Type 0 where
  pub good : GoodHead (head_of r)
  pub vs : List ℕ
  pub words : Words vs
  pub narrow : r.column ≤ 20
  pub small : r.shown < 2 ^ 64
  pub count : r.count ≡ counted_all (length t₀) 0 vs
  pub table : t ≡ stored_all t₀ 0 vs
  pub text : bs ≡ head_text (head_of r) ++ values_text vs ++ open'

-- the first two lines are well-formed
pub record PastHead (bs : List ℕ) (r : Reader) : Type 0 where
  pub good : GoodHead (head_of r)
  pub rest : List ℕ
  pub text : bs ≡ head_text (head_of r) ++ rest

-- what comes of a byte of a value: one more column, the whole value, or it is ill-formed
pub data AfterValue (t₀ bs : List ℕ) (t : List ℕ) : Reader → Type 0 where
  goes_on : {r : Reader} → r.stage ≡ Stage.Value → InValues (columns r.column r.shown) t₀ bs r t → AfterValue t₀ bs t r
  is_whole : {r : Reader} → r.stage ≡ Stage.LineEnd → InValues (number r.shown) t₀ bs r t → AfterValue t₀ bs t r
  ends : {r : Reader} → r.stage ≡ Stage.IllValues → PastHead bs r → AfterValue t₀ bs t r

module _ (open' t₀ bs : List ℕ) (r : Reader) (t : List ℕ) (b : ℕ) (s : InValues open' t₀ bs r t) where
  value_more : (k : List ℕ) → open' ++ (b ∷ []) ≡ k → bs ++ (b ∷ []) ≡ head_text (head_of r) ++ values_text s.vs ++ k
  value_more k e =
      ap (◌++ (b ∷ [])) s.text
      ∙ append_assoc (head_text (head_of r) ++ values_text s.vs) open' (b ∷ [])
      ∙ ap (head_text (head_of r) ++ values_text s.vs ++◌) e

  pub value_spoils : (stage : Stage) → PastHead (bs ++ (b ∷ [])) (staged stage r)
  value_spoils stage =
      record {
        good = s.good;
        rest = values_text s.vs ++ (open' ++ (b ∷ []));
        text = value_more (open' ++ (b ∷ [])) refl ∙ append_assoc (head_text (head_of r)) (values_text s.vs) (open' ++ (b ∷ []));
      }

-- a byte of a value
module _ (t₀ bs : List ℕ) (r : Reader) (t : List ℕ) (b : ℕ) (stage : r.stage ≡ Stage.Value)
    (s : InValues (columns r.column r.shown) t₀ bs r t) where
  value-opened : (v : ℕ) → r.column < 20 → with_column_of r.shown b ≡ Some v
      → InValues (columns (r.column + 1) v) t₀ (bs ++ (b ∷ [])) (opened r v) t
  value-opened v h e =
      record {
        good = s.good;
        vs = s.vs;
        words = s.words;
        narrow = omega arith;
        small = column_small r.shown b v (column_of r.shown b v e);
        count = s.count;
        table = s.table;
        text = value_more (columns r.column r.shown) t₀ bs r t b s (columns (r.column + 1) v)
            (column_text r.column r.shown b v (column_of r.shown b v e) ∙ ap (λ (x : ℕ). columns x v) (sym (add-one r.column)));
      }

  value_closed : (n : ℕ) → 20 ≤ r.column → with_last_digit r.shown b ≡ Some n → InValues (number n) t₀ (bs ++ (b ∷ [])) (with_value_of r n) t
  value_closed n h e =
      record {
        good = s.good;
        vs = s.vs;
        words = s.words;
        narrow = omega arith;
        small = (digit_of r.shown b n e).small;
        count = s.count;
        table = s.table;
        text = value_more (columns r.column r.shown) t₀ bs r t b s (number n)
            (ap (λ (x : ℕ). columns x r.shown ++ (b ∷ [])) last ∙ digit_text r.shown b n e);
      }
    where
      last : r.column ≡ 20
      last = omega (arith, s.narrow)

  pub value_next : AfterValue t₀ (bs ++ (b ∷ [])) t (value_byte_of r b)
  value_next = ⊎_elim (λ h. opens (with_column_of r.shown b) h refl) (λ h. closes (with_last_digit r.shown b) h refl) (lt_or_ge r.column 20)
    where
      opens : (f : Option ℕ) → r.column < 20 → with_column_of r.shown b ≡ f → AfterValue t₀ (bs ++ (b ∷ [])) t (value_byte_of r b)
      opens (Some v) h e =
          subst (AfterValue t₀ (bs ++ (b ∷ [])) t) (sym (value-opens r b v h e)) (goes_on stage (value-opened v h e))
      opens None h e =
          subst (AfterValue t₀ (bs ++ (b ∷ [])) t) (sym (value-opens-ill r b h e))
          (ends refl (value_spoils (columns r.column r.shown) t₀ bs r t b s Stage.IllValues))

      closes : (f : Option ℕ) → 20 ≤ r.column → with_last_digit r.shown b ≡ f → AfterValue t₀ (bs ++ (b ∷ [])) t (value_byte_of r b)
      closes (Some n) h e =
          subst (AfterValue t₀ (bs ++ (b ∷ [])) t) (sym (value-closes r b n h e)) (is_whole refl (value_closed n h e))
      closes None h e =
          subst (AfterValue t₀ (bs ++ (b ∷ [])) t) (sym (value-closes-ill r b h e))
          (ends refl (value_spoils (columns r.column r.shown) t₀ bs r t b s Stage.IllValues))

-- the end of its line
pub value-line_ends : (t₀ bs : List ℕ) (r : Reader) (t : List ℕ) → InValues (number r.shown) t₀ bs r t
    → InValues (columns 0 0) t₀ (bs ++ (10 ∷ [])) (reader Stage.Value 0 0 r.got r.head (counted (length t) r.count)) (set t r.count r.shown)
unfolding columns line numbers
value-line_ends t₀ bs r t s =
    record {
      good = s.good;
      vs = s.vs ++ (r.shown ∷ []);
      words = words_snoc s.vs r.shown s.words s.small;
      narrow = omega arith;
      small = omega arith;
      count = ap₂ counted (ap length s.table ∙ length_stored t₀ 0 s.vs) s.count ∙ sym (counted-snoc (length t₀) 0 s.vs r.shown);
      table = ap₂ (λ (x : List ℕ) (y : ℕ). set x y r.shown) s.table s.count ∙ sym (stored_snoc t₀ 0 s.vs r.shown);
      text = value_more (number r.shown) t₀ bs r t 10 s (line (r.shown ∷ [])) (ap (◌++ (10 ∷ [])) (sym (append-nil (number r.shown))))
          ∙ append_assoc (head_text (head_of r)) (values_text s.vs) (line (r.shown ∷ []))
          ∙ ap (head_text (head_of r) ++◌) (sym (values_snoc s.vs r.shown))
          ∙ sym (append-nil (head_text (head_of r) ++ values_text (s.vs ++ (r.shown ∷ []))));
    }

-- What the reader finds of a whole input is what its bytes say: `read_as`; first lines that it has found ill-formed are so whatever follows: `ill_head_stays`.
-- A text of the layout leads the reader to what it says (the runs), and what the reader holds is the text of the bytes that it was fed (its standing);
-- where it found an ill-formed line no text of the layout can have been fed, since such a text would have led elsewhere.
use Rattle.std.specs.Prelude.{◌≡◌, Bool, true, false, ℕ, suc, ◌+◌, ◌≤◌, ◌<◌, min, length, set, Option, Some, None, Ok, Err, ⊤, Result, refl, List, [], ◌∷◌, ◌++◌}
use Rattle.std.proofs.Common.{ap, subst, sym, ◌∙◌, ap₂, ⊎_elim, add-one, arith, eq-eqb, ne_eqb, lt-ltb, le-ltb, append_assoc, append-nil}
use Rattle.std.proofs.lemmas.List.Edits.{sets}
use Rattle.std.proofs.Math.Seq.{set_out}
use Rattle.bench_file.specs.Text.{columns, number}
use Rattle.bench_file.specs.Columns.{with_last_digit, with_column_of}
use Rattle.bench_file.specs.Layout.{Head, Words, GoodHead, head_text, values_text, ill_head, Says, says_ill_head, says_ill_values, says_whole}
use Rattle.bench_file.specs.Steps.{reader, none_read, value_byte_of, State, state, step, fed, head_of, reading_at, reading_of}
use Rattle.bench_file.specs.StepLaws.{step_value, step-line-end, step_ill_values, value-opens, value-opens-ill, value-closes, value-closes-ill, line-end_ill, line-end_stores, fed-append, fed_ill_head}
use Rattle.bench_file.specs.Runs.{counted_all, stored_all, head_read, fed_head, fed_values}
use Rattle.bench_file.specs.HeadLines.{lt_or_ge, eq_or_ne}
use Rattle.bench_file.specs.ValueLines.{InValues}
use Rattle.bench_file.specs.Reading.{ReadAs, read_ill_head, read_ill_values, read_whole}
use Rattle.bench_file.specs.Standing.{StandsAt, stands_none, stands_fed}
use Rattle.bench_file.specs.declared.reader.Stage.{Stage}
use Rattle.bench_file.specs.declared.reader.Reader.{Reader}
use Rattle.bench_file.specs.declared.reader.IllFormed.{IllFormed}

pub false_is_not_true : false ≡ true → ⊥
false_is_not_true e = let z : ◌≡◌ {A = ℕ} 0 1 = cc in omega arith

-- the first two lines are behind
abbrev pub past : Stage → Bool
past Stage.FirstLine = false
past Stage.SecondLine = false
past Stage.Value = true
past Stage.LineEnd = true
past Stage.IllHead = false
past Stage.IllValues = true

-- and stay so
past_value : (r : Reader) (b : ℕ) → r.stage ≡ Stage.Value → past (value_byte_of r b).stage ≡ true
past_value r b e = ⊎_elim (λ h. opens (with_column_of r.shown b) h refl) (λ h. closes (with_last_digit r.shown b) h refl) (lt_or_ge r.column 20)
  where
    opens : (f : Option ℕ) → r.column < 20 → with_column_of r.shown b ≡ f → past (value_byte_of r b).stage ≡ true
    opens (Some v) h q = ap (λ (x : Reader). past x.stage) (value-opens r b v h q) ∙ ap past e
    opens None h q = ap (λ (x : Reader). past x.stage) (value-opens-ill r b h q)

    closes : (f : Option ℕ) → 20 ≤ r.column → with_last_digit r.shown b ≡ f → past (value_byte_of r b).stage ≡ true
    closes (Some n) h q = ap (λ (x : Reader). past x.stage) (value-closes r b n h q)
    closes None h q = ap (λ (x : Reader). past x.stage) (value-closes-ill r b h q)

pub past-step : (s : State) (b : ℕ) → past s.reader.stage ≡ true → past (step s b).reader.stage ≡ true
past-step s b p = go s.reader.stage refl p
  where
    go : (stage : Stage) → s.reader.stage ≡ stage → past stage ≡ true → past (step s b).reader.stage ≡ true
    go Stage.FirstLine e p = absurd (false_is_not_true p)
    go Stage.SecondLine e p = absurd (false_is_not_true p)
    go Stage.Value e p = ap (λ (x : State). past x.reader.stage) (step_value s.reader s.values b e) ∙ past_value s.reader b e
    go Stage.LineEnd e p =
        ap (λ (x : State). past x.reader.stage) (step-line-end s.reader s.values b e)
        ∙ ⊎_elim (λ (h : b ≡ 10). ap (λ (x : State). past x.reader.stage) (line-end_stores s.reader s.values b h))
        (λ (h : b ≡ 10 → ⊥). ap (λ (x : State). past x.reader.stage) (line-end_ill s.reader s.values b h)) (eq_or_ne b 10)
    go Stage.IllHead e p = absurd (false_is_not_true p)
    go Stage.IllValues e p = ap (λ (x : State). past x.reader.stage) (step_ill_values s.reader s.values b e) ∙ ap past e

past-fed : (s : State) (bs : List ℕ) → past s.reader.stage ≡ true → past (fed s bs).reader.stage ≡ true
unfolding fed
past-fed s [] p = p
past-fed s (b ∷ bs) p = past-fed (step s b) bs (past-step s b p)

-- the reading at each stage
module _ (r : Reader) where
  pub reading_first : r.stage ≡ Stage.FirstLine → reading_of r ≡ Err IllFormed.Head
  unfolding reading_at
  reading_first e = ap (λ (x : Stage). reading_at x r) e

  pub reading_second : r.stage ≡ Stage.SecondLine → reading_of r ≡ Err IllFormed.Head
  unfolding reading_at
  reading_second e = ap (λ (x : Stage). reading_at x r) e

  pub reading_value : r.stage ≡ Stage.Value → r.column ≡ 0 → reading_of r ≡ Ok tt
  unfolding reading_at
  reading_value e z = ap (λ (x : Stage). reading_at x r) e ∙ simp (eq-eqb r.column 0 z)

  pub reading_open : r.stage ≡ Stage.Value → (r.column ≡ 0 → ⊥) → reading_of r ≡ Err IllFormed.Values
  unfolding reading_at
  reading_open e z = ap (λ (x : Stage). reading_at x r) e ∙ simp (ne_eqb r.column 0 z)

  pub reading_line-end : r.stage ≡ Stage.LineEnd → reading_of r ≡ Err IllFormed.Values
  unfolding reading_at
  reading_line-end e = ap (λ (x : Stage). reading_at x r) e

  pub reading_ill_head : r.stage ≡ Stage.IllHead → reading_of r ≡ Err IllFormed.Head
  unfolding reading_at
  reading_ill_head e = ap (λ (x : Stage). reading_at x r) e

  pub reading_ill_values : r.stage ≡ Stage.IllValues → reading_of r ≡ Err IllFormed.Values
  unfolding reading_at
  reading_ill_values e = ap (λ (x : Stage). reading_at x r) e

-- counts and places
pub counted-all : (vs : List ℕ) (size count : ℕ) → count ≤ suc size → counted_all size count vs ≡ min (count + length vs) (suc size)
unfolding counted_all
counted-all [] size count h = omega arith
counted-all (v ∷ vs) size count h =
    ⊎_elim
    (λ (k : count < size). rw (lt-ltb count size k) (counted-all vs size (count + 1) (omega arith) ∙ omega arith))
    (λ (k : size ≤ count). rw (le-ltb count size k) (counted-all vs size (size + 1) (omega arith) ∙ omega arith))
    (lt_or_ge count size)

stored_out : (vs t : List ℕ) (count : ℕ) → length t ≤ count → stored_all t count vs ≡ t
unfolding stored_all
stored_out [] t count h = refl
stored_out (v ∷ vs) t count h =
    rw (set_out t count v h, le-ltb count (length t) h) (stored_out vs t (length t + 1) (omega arith))

sets_out : (vs t : List ℕ) (count : ℕ) → length t ≤ count → sets t count vs ≡ t
sets_out [] t count h = refl
sets_out (v ∷ vs) t count h = rw (set_out t count v h) (sets_out vs t (suc count) (omega arith))

pub stored_all_lem : (vs t : List ℕ) (count : ℕ) → stored_all t count vs ≡ sets t count vs
unfolding stored_all
stored_all_lem [] t count = refl
stored_all_lem (v ∷ vs) t count =
    ⊎_elim
    (λ (k : count < length t). rw (lt-ltb count (length t) k, add-one count) (stored_all_lem vs (set t count v) (suc count)))
    (λ (k : length t ≤ count). stored_out (v ∷ vs) t count k ∙ sym (sets_out (v ∷ vs) t count k))
    (lt_or_ge count (length t))

-- a text of the layout is read back
pub read_back : (t : List ℕ) (h : Head) (vs : List ℕ) → GoodHead h → Words vs
    → fed (state none_read t) (head_text h ++ values_text vs)
    ≡ state (reader Stage.Value 0 0 (4 + length h.support) (head_read h).head (min (length vs) (suc (length t)))) (sets t 0 vs)
read_back t h vs good words =
    fed-append (state none_read t) (head_text h) (values_text vs)
    ∙ ap (λ (x : State). fed x (values_text vs)) (fed_head h t good)
    ∙ fed_values vs (4 + length h.support) (head_read h).head 0 t words
    ∙ ap₂ (λ (x : ℕ) (y : List ℕ). state (reader Stage.Value 0 0 (4 + length h.support) (head_read h).head x) y)
    (counted-all vs (length t) 0 (omega arith) ∙ omega arith) (stored_all_lem vs t 0)

module _ (t₀ bs : List ℕ) where
  -- the state after all the bytes
  abbrev end : State
  end = fed (state none_read t₀) bs

  no_head : past end.reader.stage ≡ false → (h : Head) (rest : List ℕ) → GoodHead h → bs ≡ head_text h ++ rest → ⊥
  no_head p h rest good e =
      false_is_not_true
      (sym p
      ∙ ap (λ (x : List ℕ). past (fed (state none_read t₀) x).reader.stage) e
      ∙ ap (λ (x : State). past x.reader.stage) (fed-append (state none_read t₀) (head_text h) rest)
      ∙ ap (λ (x : State). past (fed x rest).reader.stage) (fed_head h t₀ good)
      ∙ past-fed (state (head_read h) t₀) rest refl)

  no_values : reading_of end.reader ≡ (Err IllFormed.Values) → (h : Head) (rest : List ℕ) → GoodHead h → bs ≡ head_text h ++ rest
      → (vs : List ℕ) → Words vs → rest ≡ values_text vs → ⊥
  no_values p h rest good e vs words q =
      let whole : (Err IllFormed.Values) ≡ (Ok tt) =
      sym p
      ∙ ap (λ (x : List ℕ). reading_of (fed (state none_read t₀) x).reader) (e ∙ ap (head_text h ++◌) q)
      ∙ ap (λ (x : State). reading_of x.reader) (read_back t₀ h vs good words)
      ∙ reading_value (reader Stage.Value 0 0 (4 + length h.support) (head_read h).head (min (length vs) (suc (length t₀)))) refl refl in
      let z : ◌≡◌ {A = ℕ} 0 1 = cc in omega arith

  -- what the reader finds is what the bytes say
  pub read_as : ReadAs t₀ bs end (reading_of end.reader)
  unfolding columns
  read_as = go end.reader.stage refl (stands_fed t₀ [] (state none_read t₀) bs (stands_none t₀))
    where
      is : (x : Result ⊤ IllFormed) → reading_of end.reader ≡ x → ReadAs t₀ bs end x → ReadAs t₀ bs end (reading_of end.reader)
      is x e a = subst (ReadAs t₀ bs end) (sym e) a

      ill-values-of : (rest : List ℕ) → GoodHead (head_of end.reader) → bs ≡ head_text (head_of end.reader) ++ rest
          → reading_of end.reader ≡ (Err IllFormed.Values) → ReadAs t₀ bs end (reading_of end.reader)
      ill-values-of rest good e p =
          is (Err IllFormed.Values) p (read_ill_values (says_ill_values rest good e (no_values p (head_of end.reader) rest good e)))

      values_of : (o : List ℕ) → InValues o t₀ bs end.reader end.values → reading_of end.reader ≡ Err IllFormed.Values
          → ReadAs t₀ bs end (reading_of end.reader)
      values_of o s p =
          ill-values-of (values_text s.vs ++ o) s.good
          (s.text ∙ append_assoc (head_text (head_of end.reader)) (values_text s.vs) o) p

      whole_of : InValues (columns end.reader.column end.reader.shown) t₀ bs end.reader end.values → end.reader.stage ≡ Stage.Value
          → end.reader.column ≡ 0 → ReadAs t₀ bs end (reading_of end.reader)
      whole_of s e z =
          is (Ok tt) (reading_value end.reader e z)
          (read_whole s.vs
          (says_whole s.good s.words
          (s.text
          ∙ ap (λ (x : ℕ). head_text (head_of end.reader) ++ values_text s.vs ++ columns x end.reader.shown) z
          ∙ append-nil (head_text (head_of end.reader) ++ values_text s.vs)))
          (s.count ∙ counted-all s.vs (length t₀) 0 (omega arith) ∙ omega arith)
          (s.table ∙ stored_all_lem s.vs t₀ 0))

      ill-head-of : past end.reader.stage ≡ false → reading_of end.reader ≡ (Err IllFormed.Head) → ReadAs t₀ bs end (reading_of end.reader)
      ill-head-of p e = is (Err IllFormed.Head) e (read_ill_head (says_ill_head (no_head p)))

      go : (stage : Stage) → end.reader.stage ≡ stage → StandsAt stage t₀ bs end.reader end.values
          → ReadAs t₀ bs end (reading_of end.reader)
      go Stage.FirstLine e s = ill-head-of (ap past e) (reading_first end.reader e)
      go Stage.SecondLine e s = ill-head-of (ap past e) (reading_second end.reader e)
      go Stage.Value e s =
          ⊎_elim (λ (z : end.reader.column ≡ 0). whole_of s e z)
          (λ (z : end.reader.column ≡ 0 → ⊥).
          values_of (columns end.reader.column end.reader.shown) s (reading_open end.reader e z))
          (eq_or_ne end.reader.column 0)
      go Stage.LineEnd e s = values_of (number end.reader.shown) s (reading_line-end end.reader e)
      go Stage.IllHead e s = ill-head-of (ap past e) (reading_ill_head end.reader e)
      go Stage.IllValues e s = ill-values-of s.rest s.good s.text (reading_ill_values end.reader e)

-- where the reader has found the first two lines ill-formed, the bytes say so whatever follows them
module _ (t₀ bs : List ℕ) (ill : (fed (state none_read t₀) bs).reader.stage ≡ Stage.IllHead) (more : List ℕ) where
  pub fed_more : fed (state none_read t₀) (bs ++ more) ≡ fed (state none_read t₀) bs
  fed_more = fed-append (state none_read t₀) bs more ∙ fed_ill_head (end t₀ bs).reader (end t₀ bs).values more ill

  pub ill_head_stays : Says (bs ++ more) ill_head
  ill_head_stays = says_ill_head (no_head t₀ (bs ++ more) (ap (λ (s : State). past s.reader.stage) fed_more ∙ ap past ill))

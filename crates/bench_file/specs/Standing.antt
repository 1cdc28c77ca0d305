-- What the reader knows of the bytes so far, at every stage, and that every byte keeps it.
use Rattle.std.specs.Prelude.{◌≡◌, refl, List, [], ◌∷◌, ◌++◌, ℕ, ◌+◌, ◌≤◌, ◌<◌, length, set}
use Rattle.std.proofs.Common.{sym, ◌∙◌, ap, append_assoc, append-nil, ⊎_elim, arith, subst}
use Rattle.meaning.specs.Tables.{at}
use Rattle.bench_file.specs.Text.{columns, number, numbers, line}
use Rattle.bench_file.specs.Layout.{Words, none, head_text, values_text}
use Rattle.bench_file.specs.Steps.{reader, none_read, staged, head_column_of, first_byte_of, second_byte_of, value_byte_of, line_end, counted, State, state, step, fed, head_of}
use Rattle.bench_file.specs.StepLaws.{step-first, step_second, step_value, step-line-end, step_ill_head, step_ill_values, first_inside, first_broken, first_other, first_ends, second_inside, second_broken, second_high, second_many, second_other, second_ends, line-end_ill, line-end_stores}
use Rattle.bench_file.specs.Runs.{counted_all, stored_all}
use Rattle.bench_file.specs.HeadLines.{lt_or_ge, eq_or_ne, InHead, AfterHead, head_next}
use Rattle.bench_file.specs.HeadEnds.{first-line_ends, second_line_ends}
use Rattle.bench_file.specs.ValueLines.{InValues, PastHead, AfterValue, goes_on, is_whole, ends, value_spoils, value_next, value-line_ends}
use Rattle.bench_file.specs.declared.reader.Stage.{Stage}
use Rattle.bench_file.specs.declared.reader.Reader.{Reader}

-- in the first line, with no value read and the table as it was
pub record InFirst (t₀ bs : List ℕ) (r : Reader) (t : List ℕ) : Type 0 where
  pub inside : InHead [] [] bs r
  pub count : r.count ≡ 0
  pub table : t ≡ t₀

-- in the second line
pub record InSecond (t₀ bs : List ℕ) (r : Reader) (t : List ℕ) : Type 0 where
  pub fs : List ℕ
  pub four : length fs ≡ 4
  pub words : Words fs
  pub inside : InHead (line fs) fs bs r
  pub count : r.count ≡ 0
  pub table : t ≡ t₀

-- t₀ is the table that was lent at first and t what it is now
abbrev pub StandsAt : Stage → List ℕ → List ℕ → Reader → List ℕ → Type 0
StandsAt Stage.FirstLine t₀ bs r t = InFirst t₀ bs r t
StandsAt Stage.SecondLine t₀ bs r t = InSecond t₀ bs r t
StandsAt Stage.Value t₀ bs r t = InValues (columns r.column r.shown) t₀ bs r t
StandsAt Stage.LineEnd t₀ bs r t = InValues (number r.shown) t₀ bs r t
StandsAt Stage.IllHead t₀ bs r t = Unit {0}
StandsAt Stage.IllValues t₀ bs r t = PastHead bs r

abbrev pub Stands : List ℕ → List ℕ → State → Type 0
Stands t₀ bs s = StandsAt s.reader.stage t₀ bs s.reader s.values

pub stands_none : (t : List ℕ) → Stands t [] (state none_read t)
unfolding numbers columns
stands_none t =
    record {
      inside = record {
        ns = [];
        words = none;
        size = refl;
        count = refl;
        room = omega arith;
        front = refl;
        narrow = omega arith;
        small = omega arith;
        text = refl;
      };
      count = refl;
      table = refl;
    }

module _ (t₀ bs : List ℕ) (r : Reader) (t : List ℕ) (b : ℕ) where
  -- the bytes with one more, and the state after it
  abbrev Next : State → Type 0
  Next s = Stands t₀ (bs ++ (b ∷ [])) s

  stands_as : (stage : Stage) (r' : Reader) → r'.stage ≡ stage → StandsAt stage t₀ (bs ++ (b ∷ [])) r' t → Next (state r' t)
  stands_as stage r' e s = subst (λ (x : Stage). StandsAt x t₀ (bs ++ (b ∷ [])) r' t) (sym e) s

  -- a byte inside the first two lines
  head_keeps : (stage : Stage) (done fs : List ℕ) → r.stage ≡ stage
      → ((r' : Reader) → r'.count ≡ r.count → InHead done fs (bs ++ (b ∷ [])) r' → StandsAt stage t₀ (bs ++ (b ∷ [])) r' t)
      → (r' : Reader) → AfterHead done fs (bs ++ (b ∷ [])) r r' → Next (state r' t)
  head_keeps stage done fs e k r' (AfterHead.goes_on p q s) = stands_as stage r' (p ∙ e) (k r' q s)
  head_keeps stage done fs e k r' (AfterHead.ends p) = stands_as Stage.IllHead r' p tt

  first_keeps : r.stage ≡ Stage.FirstLine → InFirst t₀ bs r t → Next (step (state r t) b)
  first_keeps e s = subst Next (sym (step-first r t b e)) (⊎_elim newline inside (eq_or_ne b 10))
    where
      becomes : (r' : Reader) → first_byte_of r b ≡ r' → Next (state r' t) → Next (state (first_byte_of r b) t)
      becomes r' q n = subst (λ (x : Reader). Next (state x t)) (sym q) n

      inside : (b ≡ 10 → ⊥) → Next (state (first_byte_of r b) t)
      inside h =
          becomes (head_column_of r b) (first_inside r b h)
          (head_keeps Stage.FirstLine [] [] e (λ r' q x. record { inside = x; count = q ∙ s.count; table = s.table }) (head_column_of r b)
          (head_next [] [] bs r b s.inside))

      ended : b ≡ 10 → r.column ≡ 0 → r.got ≡ 4 → Next (state (first_byte_of r b) t)
      ended h z g =
          becomes (staged Stage.SecondLine r) (first_ends r b h z g)
          (record {
            fs = s.inside.ns;
            four = omega (arith, s.inside.count);
            words = s.inside.words;
            inside = subst (λ (x : ℕ). InHead (line s.inside.ns) s.inside.ns (bs ++ (x ∷ [])) (staged Stage.SecondLine r)) (sym h)
                (first-line_ends bs r s.inside z);
            count = s.count;
            table = s.table;
          })

      at-start : b ≡ 10 → r.column ≡ 0 → Next (state (first_byte_of r b) t)
      at-start h z =
          ⊎_elim (λ (g : r.got ≡ 4). ended h z g)
          (λ (g : r.got ≡ 4 → ⊥). becomes (staged Stage.IllHead r) (first_other r b h z g) tt)
          (eq_or_ne r.got 4)

      newline : b ≡ 10 → Next (state (first_byte_of r b) t)
      newline h =
          ⊎_elim (λ (z : r.column ≡ 0). at-start h z)
          (λ (z : r.column ≡ 0 → ⊥). becomes (staged Stage.IllHead r) (first_broken r b h z) tt)
          (eq_or_ne r.column 0)

  second_keeps : r.stage ≡ Stage.SecondLine → InSecond t₀ bs r t → Next (step (state r t) b)
  unfolding columns values_text counted_all stored_all
  second_keeps e s = subst Next (sym (step_second r t b e)) (⊎_elim newline inside (eq_or_ne b 10))
    where
      becomes : (r' : Reader) → second_byte_of r b ≡ r' → Next (state r' t) → Next (state (second_byte_of r b) t)
      becomes r' q n = subst (λ (x : Reader). Next (state x t)) (sym q) n

      inside : (b ≡ 10 → ⊥) → Next (state (second_byte_of r b) t)
      inside h =
          becomes (head_column_of r b) (second_inside r b h)
          (head_keeps Stage.SecondLine (line s.fs) s.fs e
          (λ r' q x. record { fs = s.fs; four = s.four; words = s.words; inside = x; count = q ∙ s.count; table = s.table })
          (head_column_of r b) (head_next (line s.fs) s.fs bs r b s.inside))

      ended : b ≡ 10 → r.column ≡ 0 → at r.head 2 ≤ 255 → at r.head 3 ≤ 20 → r.got ≡ at r.head 3 + 4
          → Next (state (second_byte_of r b) t)
      ended h z d m g =
          let read = second_line_ends bs r z d m g s.fs s.four s.words s.inside in
          becomes (staged Stage.Value r) (second_ends r b h z d m g)
          (record {
            good = read.good;
            vs = [];
            words = none;
            narrow = s.inside.narrow;
            small = s.inside.small;
            count = s.count;
            table = s.table;
            text = ap (λ (x : ℕ). bs ++ (x ∷ [])) h
                ∙ read.text
                ∙ sym (append-nil (head_text (head_of r)))
                ∙ sym (append-nil (head_text (head_of r) ++ []))
                ∙ ap (λ (x : ℕ). head_text (head_of r) ++ [] ++ columns x r.shown) (sym z);
          })

      counts : b ≡ 10 → r.column ≡ 0 → at r.head 2 ≤ 255 → at r.head 3 ≤ 20 → Next (state (second_byte_of r b) t)
      counts h z d m =
          ⊎_elim (λ (g : r.got ≡ at r.head 3 + 4). ended h z d m g)
          (λ (g : r.got ≡ at r.head 3 + 4 → ⊥). becomes (staged Stage.IllHead r) (second_other r b h z d m g) tt)
          (eq_or_ne r.got (at r.head 3 + 4))

      few : b ≡ 10 → r.column ≡ 0 → at r.head 2 ≤ 255 → Next (state (second_byte_of r b) t)
      few h z d =
          ⊎_elim (λ (m : 20 < at r.head 3). becomes (staged Stage.IllHead r) (second_many r b h z d m) tt)
          (λ (m : at r.head 3 ≤ 20). counts h z d m)
          (lt_or_ge 20 (at r.head 3))

      low : b ≡ 10 → r.column ≡ 0 → Next (state (second_byte_of r b) t)
      low h z =
          ⊎_elim (λ (d : 255 < at r.head 2). becomes (staged Stage.IllHead r) (second_high r b h z d) tt)
          (λ (d : at r.head 2 ≤ 255). few h z d)
          (lt_or_ge 255 (at r.head 2))

      newline : b ≡ 10 → Next (state (second_byte_of r b) t)
      newline h =
          ⊎_elim (λ (z : r.column ≡ 0). low h z)
          (λ (z : r.column ≡ 0 → ⊥). becomes (staged Stage.IllHead r) (second_broken r b h z) tt)
          (eq_or_ne r.column 0)

  value_keeps : r.stage ≡ Stage.Value → InValues (columns r.column r.shown) t₀ bs r t → Next (step (state r t) b)
  value_keeps e s = subst Next (sym (step_value r t b e)) (go (value_byte_of r b) (value_next t₀ bs r t b e s))
    where
      go : (r' : Reader) → AfterValue t₀ (bs ++ (b ∷ [])) t r' → Next (state r' t)
      go r' (goes_on p x) = stands_as Stage.Value r' p x
      go r' (is_whole p x) = stands_as Stage.LineEnd r' p x
      go r' (ends p x) = stands_as Stage.IllValues r' p x

  line-end_keeps : r.stage ≡ Stage.LineEnd → InValues (number r.shown) t₀ bs r t → Next (step (state r t) b)
  line-end_keeps e s = subst Next (sym (step-line-end r t b e)) (⊎_elim newline other (eq_or_ne b 10))
    where
      newline : b ≡ 10 → Next (line_end (state r t) b)
      newline h =
          subst Next (sym (line-end_stores r t b h))
          (subst (λ (x : ℕ). InValues (columns 0 0) t₀ (bs ++ (x ∷ []))
          (reader Stage.Value 0 0 r.got r.head (counted (length t) r.count)) (set t r.count r.shown)) (sym h) (value-line_ends t₀ bs r t s))

      other : (b ≡ 10 → ⊥) → Next (line_end (state r t) b)
      other h =
          subst Next (sym (line-end_ill r t b h)) (value_spoils (number r.shown) t₀ bs r t b s Stage.IllValues)

  ill_keeps : r.stage ≡ Stage.IllHead → Next (step (state r t) b)
  ill_keeps e = subst Next (sym (step_ill_head r t b e)) (stands_as Stage.IllHead r e tt)

  past_keeps : r.stage ≡ Stage.IllValues → PastHead bs r → Next (step (state r t) b)
  past_keeps e s =
      subst Next (sym (step_ill_values r t b e))
      (stands_as Stage.IllValues r e
      (record {
        good = s.good;
        rest = s.rest ++ (b ∷ []);
        text = ap (◌++ (b ∷ [])) s.text ∙ append_assoc (head_text (head_of r)) s.rest (b ∷ []);
      }))

  -- every byte keeps it
  pub stands_step : Stands t₀ bs (state r t) → Stands t₀ (bs ++ (b ∷ [])) (step (state r t) b)
  stands_step s = go r.stage refl s
    where
      go : (stage : Stage) → r.stage ≡ stage → StandsAt stage t₀ bs r t → Next (step (state r t) b)
      go Stage.FirstLine e s = first_keeps e s
      go Stage.SecondLine e s = second_keeps e s
      go Stage.Value e s = value_keeps e s
      go Stage.LineEnd e s = line-end_keeps e s
      go Stage.IllHead e s = ill_keeps e
      go Stage.IllValues e s = past_keeps e s

-- and so does every piece
pub stands_fed : (t₀ bs : List ℕ) (s : State) (cs : List ℕ) → Stands t₀ bs s → Stands t₀ (bs ++ cs) (fed s cs)
unfolding fed
stands_fed t₀ bs s [] h = subst (λ (x : List ℕ). Stands t₀ x s) (sym (append-nil bs)) h
stands_fed t₀ bs s (c ∷ cs) h =
    subst (λ (x : List ℕ). Stands t₀ x (fed (step s c) cs)) (append_assoc bs (c ∷ []) cs)
    (stands_fed t₀ (bs ++ (c ∷ [])) (step s c) cs (stands_step t₀ bs s.reader s.values c h))

-- The bytes of a file say one thing only.
use Rattle.std.specs.Prelude.{◌≡◌, refl, true, List, [], ◌∷◌, ◌++◌, ℕ, suc, ◌+◌, ◌≤◌, ◌<◌, min, length, take, drop, Option, Some, None}
use Rattle.std.proofs.Common.{sym, ◌∙◌, ap, ap₂, ⊎_elim, arith, length-append, take_at}
use Rattle.std.proofs.lemmas.List.Edits.{sets, sets-eq}
use Rattle.std.proofs.Math.Seq.{drop-append_seam}
use Rattle.bench_file.specs.Columns.{with_last_digit, with_column_of}
use Rattle.bench_file.specs.Layout.{Head, Words, GoodHead, head_text, values_text, Content, ill_head, ill_values, whole, Says, says_ill_head, says_ill_values, says_whole}
use Rattle.bench_file.specs.Steps.{reader, none_read, value_byte_of, State, state, step, fed, head_of}
use Rattle.bench_file.specs.StepLaws.{step_value, step-line-end, step_ill_values, value-opens, value-opens-ill, value-closes, value-closes-ill, line-end_ill, line-end_stores, fed-append}
use Rattle.bench_file.specs.Runs.{head_read, head_of_held, fed_head}
use Rattle.bench_file.specs.HeadLines.{lt_or_ge, eq_or_ne}
use Rattle.bench_file.specs.ReaderLaws.{past, past-step, false_is_not_true, read_back}
use Rattle.bench_file.specs.declared.reader.Stage.{Stage}
use Rattle.bench_file.specs.declared.reader.Reader.{Reader}

-- after the first two lines the reader keeps their numbers
keeps_value : (r : Reader) (b : ℕ) → (value_byte_of r b).head ≡ r.head
keeps_value r b = ⊎_elim (λ h. opens (with_column_of r.shown b) h refl) (λ h. closes (with_last_digit r.shown b) h refl) (lt_or_ge r.column 20)
  where
    opens : (f : Option ℕ) → r.column < 20 → with_column_of r.shown b ≡ f → (value_byte_of r b).head ≡ r.head
    opens (Some v) h q = ap (λ (x : Reader). x.head) (value-opens r b v h q)
    opens None h q = ap (λ (x : Reader). x.head) (value-opens-ill r b h q)

    closes : (f : Option ℕ) → 20 ≤ r.column → with_last_digit r.shown b ≡ f → (value_byte_of r b).head ≡ r.head
    closes (Some n) h q = ap (λ (x : Reader). x.head) (value-closes r b n h q)
    closes None h q = ap (λ (x : Reader). x.head) (value-closes-ill r b h q)

keeps_step : (s : State) (b : ℕ) → past s.reader.stage ≡ true → (step s b).reader.head ≡ s.reader.head
keeps_step s b p = go s.reader.stage refl p
  where
    go : (stage : Stage) → s.reader.stage ≡ stage → past stage ≡ true → (step s b).reader.head ≡ s.reader.head
    go Stage.FirstLine e p = absurd (false_is_not_true p)
    go Stage.SecondLine e p = absurd (false_is_not_true p)
    go Stage.Value e p = ap (λ (x : State). x.reader.head) (step_value s.reader s.values b e) ∙ keeps_value s.reader b
    go Stage.LineEnd e p =
        ap (λ (x : State). x.reader.head) (step-line-end s.reader s.values b e)
        ∙ ⊎_elim (λ (h : b ≡ 10). ap (λ (x : State). x.reader.head) (line-end_stores s.reader s.values b h))
        (λ (h : b ≡ 10 → ⊥). ap (λ (x : State). x.reader.head) (line-end_ill s.reader s.values b h)) (eq_or_ne b 10)
    go Stage.IllHead e p = absurd (false_is_not_true p)
    go Stage.IllValues e p = ap (λ (x : State). x.reader.head) (step_ill_values s.reader s.values b e)

keeps_fed : (s : State) (bs : List ℕ) → past s.reader.stage ≡ true → (fed s bs).reader.head ≡ s.reader.head
unfolding fed
keeps_fed s [] p = refl
keeps_fed s (b ∷ bs) p = keeps_fed (step s b) bs (past-step s b p) ∙ keeps_step s b p

-- the head of a text is what the reader holds at the end
head_held : (h : Head) (rest : List ℕ) → GoodHead h → head_of (fed (state none_read []) (head_text h ++ rest)).reader ≡ h
head_held h rest good =
    ap (λ (x : List ℕ). head_of (reader Stage.Value 0 0 0 x 0))
    (ap (λ (x : State). x.reader.head) (fed-append (state none_read []) (head_text h) rest ∙ ap (λ (x : State). fed x rest) (fed_head h [] good))
    ∙ keeps_fed (state (head_read h) []) rest refl)
    ∙ head_of_held h good.few

-- so that there is only one
pub one_head : (h h' : Head) (rest rest' : List ℕ) → GoodHead h → GoodHead h' → head_text h ++ rest ≡ head_text h' ++ rest' → h ≡ h'
one_head h h' rest rest' good good' e =
    sym (head_held h rest good) ∙ ap (λ (x : List ℕ). head_of (fed (state none_read []) x).reader) e ∙ head_held h' rest' good'

one-rest : (h h' : Head) (rest rest' : List ℕ) → h ≡ h' → head_text h ++ rest ≡ head_text h' ++ rest' → rest ≡ rest'
one-rest h h' rest rest' q e =
    sym (drop-append_seam (head_text h) rest)
    ∙ ap (drop (length (head_text h))) (e ∙ ap (λ (x : Head). head_text x ++ rest') (sym q))
    ∙ drop-append_seam (head_text h) rest'

-- and only one list of values: a table with room for both would end with both
in_table : (xs t : List ℕ) → length xs ≤ length t → take (length xs) (sets t 0 xs) ≡ xs
in_table xs t h = ap (take (length xs)) (sets-eq xs t 0 (omega arith)) ∙ take_at xs (drop (0 + length xs) t) (length xs) refl

values_in : (t : List ℕ) (h : Head) (vs ws : List ℕ) → length vs ≤ length t → length ws ≤ length t → GoodHead h → Words vs → Words ws
    → head_text h ++ values_text vs ≡ head_text h ++ values_text ws → vs ≡ ws
values_in t h vs ws rv rw' good wv ww e =
    let both = sym (read_back t h vs good wv) ∙ ap (fed (state none_read t)) e ∙ read_back t h ws good ww in
    let count : min (length vs) (suc (length t)) ≡ min (length ws) (suc (length t)) = ap (λ (x : State). x.reader.count) both in
    let same : length vs ≡ length ws = omega arith in
    sym (in_table vs t rv) ∙ ap₂ take same (ap (λ (x : State). x.values) both) ∙ in_table ws t rw'

pub one_values : (h : Head) (vs ws : List ℕ) → GoodHead h → Words vs → Words ws → head_text h ++ values_text vs ≡ head_text h ++ values_text ws → vs ≡ ws
one_values h vs ws = values_in (vs ++ ws) h vs ws (simp length-append (omega arith)) (simp length-append (omega arith))

pub one_content : (bs : List ℕ) (c d : Content) → Says bs c → Says bs d → c ≡ d
one_content bs ill_head ill_head (says_ill_head n) (says_ill_head m) = refl
one_content bs ill_head (ill_values h) (says_ill_head n) (says_ill_values rest g e m) = absurd (n h rest g e)
one_content bs ill_head (whole h vs) (says_ill_head n) (says_whole g w e) = absurd (n h (values_text vs) g e)
one_content bs (ill_values h) ill_head (says_ill_values rest g e n) (says_ill_head m) = absurd (m h rest g e)
one_content bs (ill_values h) (ill_values k) (says_ill_values rest g e n) (says_ill_values rest' g' e' m) =
    ap ill_values (one_head h k rest rest' g g' (sym e ∙ e'))
one_content bs (ill_values h) (whole k ws) (says_ill_values rest g e n) (says_whole g' w e') =
    absurd (n ws w (one-rest h k rest (values_text ws) (one_head h k rest (values_text ws) g g' (sym e ∙ e')) (sym e ∙ e')))
one_content bs (whole h vs) ill_head (says_whole g w e) (says_ill_head m) = absurd (m h (values_text vs) g e)
one_content bs (whole h vs) (ill_values k) (says_whole g w e) (says_ill_values rest' g' e' m) =
    absurd (m vs w (one-rest k h rest' (values_text vs) (one_head k h rest' (values_text vs) g' g (sym e' ∙ e)) (sym e' ∙ e)))
one_content bs (whole h vs) (whole k ws) (says_whole g w e) (says_whole g' w' e') =
    let same = one_head h k (values_text vs) (values_text ws) g g' (sym e ∙ e') in
    ap₂ whole same (one_values h vs ws g w w' (sym e ∙ e' ∙ ap (λ (x : Head). head_text x ++ values_text ws) (sym same)))

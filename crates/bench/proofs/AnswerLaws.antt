-- From the answers of the calls to the text of the layout.
use Rattle.std.specs.Prelude.{Ok, Err, ⊤, Result, MatchResult, IsOkAnd, ◌≡◌, refl, Bool, true, false, ◌&&◌, cond, List, [], ◌++◌, ℕ, zero, suc, ◌+◌, ◌-◌, ◌≤◌, min, eqb, length, take, drop}
use Rattle.std.proofs.Common.{sym, ◌∙◌, ap, ap₂, subst, append-nil, ⊎_elim, suc-ne-zero, arith, length-append, take_at, length-take-le}
use Rattle.std.proofs.Math.Seq.{sets, sets-eq}
use borrow.Author.Tests.{eq-eqb, ne_eqb}
use Rattle.std.specs.declared.option.Option.{Option}
use Rattle.std.specs.Result.{result_unwrap_or}
use Rattle.answers.specs.declared.Refusal.{Refusal}
use Rattle.answers.specs.Said.{said, said_number}
use Rattle.std.specs.Io.KnownBytes.{Consumes, Keeps}
use Rattle.std.proofs.KnownBytes.{Consumes-nil, Consumes-trans, Consumes-kept}
use Rattle.meaning.specs.Tables.{tabulate}
use Rattle.meaning.specs.Boxes.{cells}
use Rattle.meaning.specs.Replies.{Reply, told}
use Rattle.meaning.specs.Settings.{table_limit, byte_limit, fits_width, cube, settings_number, limited_number, call_number, first}
use Rattle.meaning.specs.Recovery.{accepts, answer}
use Rattle.meaning.specs.Calls.{reply, left, in_out_number, recovery_number, recovery_left}
use Rattle.theory.specs.AcceptedCalls.{number-reply}
use Rattle.settings.specs.Causes.{passes, passes_higher, settings-cells-le}
use Rattle.theory.specs.Ranges.{width_high}
use Rattle.bench_file.specs.Layout.{Head, longest_file, ill_head, ill_values, whole, degrees_of, head_number, bench_number, refused_text, bench_text}
use Rattle.bench_file.specs.Verdict.{verdict, narrowed}
use Rattle.bench_file.specs.VerdictLaws.{narrowed_width, narrowed-total}
use Rattle.bench_file.specs.Steps.{State, state, none_read, fed}
use Rattle.bench_file.specs.StepLaws.{fed-append}
use Rattle.bench_file.specs.HeadLines.{eq_or_ne}
use Rattle.bench_file.specs.declared.reader.Reader.{Reader}
use Rattle.settings.specs.declared.Settings.{Settings}
use Rattle.bench.specs.Answers.{LedFrom, asked, asked_by, text_for, number_of, text_of}
use Rattle.bench_file.specs.declared.reader.IllFormed.{IllFormed}

-- the number in a text is not 0
pub text_for_pos : (n : ℕ) (ds cs : List ℕ) → (n ≡ 0 → ⊥) → text_for n ds cs ≡ refused_text n
text_for_pos n ds cs e = simp (ne_eqb n 0 e)

-- a refusal's text does not depend on the coefficients
text_no_table : (n : ℕ) (ds cs ks : List ℕ) → (n ≡ 0 → ⊥) → text_for n ds cs ≡ text_for n ds ks
text_no_table n ds cs ks e = text_for_pos n ds cs e ∙ sym (text_for_pos n ds ks e)

-- a number of the settings is said alone, and so is recovery's 6
verdict_stops : (x : Result ⊤ IllFormed) (n : ℕ) (a b : Bool) (k m : ℕ) → verdict x (suc n) a k ≡ verdict x (suc n) b m
unfolding verdict
verdict_stops (Err IllFormed.Head) n a b k m = refl
verdict_stops (Err IllFormed.Values) n a b k m = refl
verdict_stops (Ok tt) n a b k m = refl

verdict_pos : (x : Result ⊤ IllFormed) (n : ℕ) (a : Bool) (k : ℕ) → verdict x (suc n) a k ≡ 0 → ⊥
unfolding verdict
verdict_pos (Err IllFormed.Head) n a k e = suc-ne-zero 11 e
verdict_pos (Err IllFormed.Values) n a k e = suc-ne-zero n e
verdict_pos (Ok tt) n a k e = suc-ne-zero n e

verdict_six : (x : Result ⊤ IllFormed) (n : ℕ) (a : Bool) → verdict x n a 6 ≡ 0 → ⊥
unfolding verdict
verdict_six x (suc n) a e = verdict_pos x n a 6 e
verdict_six (Err IllFormed.Head) zero a e = suc-ne-zero 11 e
verdict_six (Err IllFormed.Values) zero a e = suc-ne-zero 11 e
verdict_six (Ok tt) zero true e = suc-ne-zero 5 e
verdict_six (Ok tt) zero false e = suc-ne-zero 8 e

-- the first two lines' numbers, and the calls on them
module _ (w total d : ℕ) (support : List ℕ) where
  abbrev h : Head
  h = asked w total d support

  abbrev ds : List ℕ
  ds = cube support d

  -- settings that pass
  module _ (pass : head_number h ≡ 0) where
    pub head_settings : settings_number true total (fits_width w) support ds ≡ 0
    unfolding head_number
    head_settings = passes_higher byte_limit true total (fits_width w) support ds pass table_limit (omega arith)

    pub head_cells : cells ds ≤ byte_limit
    unfolding head_number
    head_cells = settings-cells-le byte_limit true total (fits_width w) support ds pass

    pub head_width : narrowed w ≡ w
    head_width =
        let k = width_high w (passes table_limit true total (fits_width w) support ds head_settings).width in
        omega arith

    -- recovery then has all it needs
    pub in_out : (v z : List ℕ) → length v ≡ cells ds → length z ≡ cells ds → in_out_number true total w support ds v z ≡ 0
    unfolding call_number
    in_out v z a b =
        ap (λ (n : ℕ). first n (cond (eqb (length v) (cells ds) && eqb (length z) (cells ds)) 0 9)) head_settings
        ∙ simp (eq-eqb (length v) (cells ds) a, eq-eqb (length z) (cells ds) b)

    pub recovered_number : (v z : List ℕ) → length v ≡ cells ds → length z ≡ cells ds
        → recovery_number total w support ds v z ≡ cond (accepts w ds v) 0 6
    unfolding recovery_number
    recovered_number v z a b = ap (λ (n : ℕ). first n (cond (accepts w ds v) 0 6)) (in_out v z a b)

    pub recovered_left : (v z : List ℕ) → length v ≡ cells ds → length z ≡ cells ds
        → recovery_left total w support ds v z ≡ cond (accepts w ds v) (answer w ds v) (tabulate (cells ds) (λ n. 0))
    unfolding recovery_left
    recovered_left v z a b =
        ap (λ (n : ℕ). left n (cond (accepts w ds v) (answer w ds v) (tabulate (cells ds) (λ n. 0))) z) (in_out v z a b)

  -- the number and the size that are told of the settings
  module _ (settings size : ℕ) (says : told settings size ≡ reply (head_number h) (cells ds)) where
    pub told-number : settings ≡ head_number h
    told-number = ap (λ (r : Reply). r.number) says ∙ number-reply (head_number h) (cells ds)

    pub told_size : head_number h ≡ 0 → size ≡ cells ds
    told_size e = ap (λ (r : Reply). r.value) says ∙ ap (λ (n : ℕ). (reply n (cells ds)).value) e

    pub size_le : size ≤ 4096
    size_le = go (head_number h) refl
      where
        go : (n : ℕ) → head_number h ≡ n → size ≤ 4096
        go zero e = omega (arith, told_size e, head_cells e)
        go (suc n) e =
            let z : size ≡ 0 = ap (λ (r : Reply). r.value) says ∙ ap (λ (n : ℕ). (reply n (cells ds)).value) e in
            omega arith

    -- the text after recovery on the values `v` and a table `z` for the coefficients
    abbrev recovered : Result ⊤ IllFormed → Bool → List ℕ → List ℕ → List ℕ
    recovered x exact v z = text_for (verdict x settings exact (recovery_number total w support ds v z)) ds (recovery_left total w support ds v z)

    -- recovery on the first `size` values
    module _ (x : Result ⊤ IllFormed) (count : ℕ) (t z : List ℕ) (room : length t ≡ 4096) (same : length z ≡ size) where
      -- settings that pass: the number is the one of the definition, and where it is 0 the coefficients are too
      text_passing : head_number h ≡ 0 → recovered x (eqb count size) (take size t) z ≡ text_of x h count t
      unfolding text_of number_of
      text_passing e =
          let s = told_size e in
          let a : length (take size t) ≡ cells ds = length-take-le size t (omega (arith, size_le, room)) ∙ s in
          ap₂ (λ (n k : ℕ). text_for (verdict x n (eqb count size) k) ds (recovery_left total w support ds (take size t) z))
          told-number (recovered_number e (take size t) z a (same ∙ s))
          ∙ ap (text_for (verdict x (head_number h) (eqb count size) (cond (accepts w ds (take size t)) 0 6)) ds)
          (recovered_left e (take size t) z a (same ∙ s))
          ∙ go (accepts w ds (take size t))
          ∙ ap (λ (n : ℕ). text_for (verdict x (head_number h) (eqb count n) (cond (accepts w ds (take n t)) 0 6)) ds (answer w ds (take n t))) s
        where
          go : (b : Bool) → text_for (verdict x (head_number h) (eqb count size) (cond b 0 6)) ds
              (cond b (answer w ds (take size t)) (tabulate (cells ds) (λ n. 0)))
              ≡ text_for (verdict x (head_number h) (eqb count size) (cond b 0 6)) ds (answer w ds (take size t))
          go true = refl
          go false =
              text_no_table (verdict x (head_number h) (eqb count size) 6) ds (tabulate (cells ds) (λ n. 0)) (answer w ds (take size t))
              (verdict_six x (head_number h) (eqb count size))

      -- settings that do not pass: nothing else counts
      text_stopping : (n : ℕ) → head_number h ≡ suc n → recovered x (eqb count size) (take size t) z ≡ text_of x h count t
      unfolding text_of number_of
      text_stopping n e =
          let v = take size t in
          let k = recovery_number total w support ds v z in
          let m : ℕ = cond (accepts w ds (take (cells ds) t)) 0 6 in
          ap (λ (s : ℕ). text_for (verdict x s (eqb count size) k) ds (recovery_left total w support ds v z)) (told-number ∙ e)
          ∙ text_no_table (verdict x (suc n) (eqb count size) k) ds (recovery_left total w support ds v z)
          (answer w ds (take (cells ds) t)) (verdict_pos x n (eqb count size) k)
          ∙ ap (λ (s : ℕ). text_for s ds (answer w ds (take (cells ds) t))) (verdict_stops x n (eqb count size) (eqb count (cells ds)) k m)
          ∙ sym (ap (λ (s : ℕ). text_for (verdict x s (eqb count (cells ds)) m) ds (answer w ds (take (cells ds) t))) e)

      pub text_recovered : recovered x (eqb count size) (take size t) z ≡ text_of x h count t
      text_recovered = go (head_number h) refl
        where
          go : (n : ℕ) → head_number h ≡ n → recovered x (eqb count size) (take size t) z ≡ text_of x h count t
          go zero e = text_passing e
          go (suc n) e = text_stopping n e

-- an outcome without its number
pub mapped : (F : ℕ → ⊤ → Type 0) (a : Result ℕ Refusal) (b : Result ⊤ Refusal)
    → MatchResult a (λ x. IsOkAnd b (F x)) (λ r. b ≡ Err r)
    → said_number b ≡ (said a).number
mapped F (Ok n) (Ok u) m = refl
mapped F (Ok n) (Err r) m = absurd m
mapped F (Err q) b m = ap said_number m

-- what a check of settings said, as an outcome and the cells, or 0
module _ (s : Settings) (a : Result ℕ Refusal) (size : ℕ) (says : said a ≡ reply (head_number (asked_by s)) (cells (degrees_of (asked_by s))))
    (sized : size ≡ result_unwrap_or a 0) where
  value : size ≡ (said a).value
  value = sized ∙ go a
    where
      go : (a : Result ℕ Refusal) → result_unwrap_or a 0 ≡ (said a).value
      go (Ok n) = refl
      go (Err r) = refl

  pub small_cells : size ≤ 4096
  small_cells = size_le s.bitwidth s.total s.max_degree s.support.now (said a).number size (ap (told (said a).number) value ∙ says)

  pub told_said : (b : Result ⊤ Refusal) → said_number b ≡ (said a).number
      → told (said_number b) size ≡ reply (head_number (asked_by s)) (cells (degrees_of (asked_by s)))
  told_said b outcome = ap₂ told outcome value ∙ says

-- the settings as the calls take them, in 32 bits: larger ones are turned down either way
module _ (w total d : ℕ) (support : List ℕ) where
  abbrev given : Head
  given = asked w total d support

  abbrev cut : Head
  cut = asked (narrowed w) (narrowed total) d support

  head-narrowed : head_number cut ≡ head_number given
  unfolding head_number
  head-narrowed =
      ap (λ (b : Bool). limited_number byte_limit true (narrowed total) b support (degrees_of given)) (narrowed_width w)
      ∙ narrowed-total byte_limit true total (fits_width w) support (degrees_of given)

  pub text-narrowed : (x : Result ⊤ IllFormed) (count : ℕ) (t : List ℕ) → text_of x cut count t ≡ text_of x given count t
  unfolding text_of number_of
  text-narrowed x count t = go (head_number given) refl
    where
      v : List ℕ
      v = take (cells (degrees_of given)) t

      same : Bool
      same = eqb count (cells (degrees_of given))

      go : (n : ℕ) → head_number given ≡ n → text_of x cut count t ≡ text_of x given count t
      go zero e =
          ap₂ (λ (n k : ℕ). text_for (verdict x n same (cond (accepts k (degrees_of given) v) 0 6)) (degrees_of given) (answer k (degrees_of given) v))
          head-narrowed (head_width w total d support e)
      go (suc n) e =
          let ds = degrees_of given in
          let less : ℕ = cond (accepts (narrowed w) ds v) 0 6 in
          let more : ℕ = cond (accepts w ds v) 0 6 in
          ap (λ (s : ℕ). text_for (verdict x s same less) ds (answer (narrowed w) ds v)) (head-narrowed ∙ e)
          ∙ text_no_table (verdict x (suc n) same less) ds (answer (narrowed w) ds v) (answer w ds v) (verdict_pos x n same less)
          ∙ ap (λ (s : ℕ). text_for s ds (answer w ds v)) (verdict_stops x n same same less more)
          ∙ sym (ap (λ (s : ℕ). text_for (verdict x s same more) ds (answer w ds v)) e)

-- ---- from what the reader holds to what the bytes say

module _ (h : Head) (t : List ℕ) where
  -- first lines that are ill-formed
  pub text_ill_head : (count : ℕ) → text_of (Err IllFormed.Head) h count t ≡ bench_text ill_head
  unfolding text_of number_of verdict bench_text bench_number
  text_ill_head count = refl

  -- values that are
  pub text_ill_values : (count : ℕ) → text_of (Err IllFormed.Values) h count t ≡ bench_text (ill_values h)
  unfolding text_of number_of verdict bench_text bench_number
  text_ill_values count = go (head_number h)
    where
      go : (n : ℕ) → text_for (first n 12) (degrees_of h) (answer h.width (degrees_of h) (take (cells (degrees_of h)) t)) ≡ refused_text (first n 12)
      go zero = refl
      go (suc n) = text_for_pos (suc n) (degrees_of h) (answer h.width (degrees_of h) (take (cells (degrees_of h)) t)) (suc-ne-zero n)

  -- all is well-formed: the table begins with the values, as far as it reaches
  module _ (vs : List ℕ) (count : ℕ) (t₀ : List ℕ) (size : length t₀ ≡ 4096) (table : t ≡ sets t₀ 0 vs)
      (counts : count ≡ min (length vs) (suc (length t₀))) where
    abbrev c : ℕ
    c = cells (degrees_of h)

    whole_exact : head_number h ≡ 0 → length vs ≡ c → text_of (Ok tt) h count t ≡ bench_text (whole h vs)
    unfolding text_of number_of verdict bench_text bench_number
    whole_exact e q =
        let few = head_cells h.width h.total h.degree h.support e in
        let same : count ≡ c = omega (arith, counts, size, few, q) in
        let first-ones : take c t ≡ vs =
        ap₂ take (sym q) table ∙ ap (take (length vs)) (sets-eq vs t₀ 0 (omega (arith, size, few, q)))
        ∙ take_at vs (drop (0 + length vs) t₀) (length vs) refl in
        ap₂ (λ (b : Bool) (v : List ℕ). text_for (first (head_number h) (cond b (cond (accepts h.width (degrees_of h) v) 0 6) 9))
        (degrees_of h) (answer h.width (degrees_of h) v)) (eq-eqb count c same ∙ sym (eq-eqb (length vs) c q)) first-ones

    whole_wrong : head_number h ≡ 0 → (length vs ≡ c → ⊥) → text_of (Ok tt) h count t ≡ bench_text (whole h vs)
    unfolding text_of number_of verdict bench_text bench_number
    whole_wrong e q =
        let few = head_cells h.width h.total h.degree h.support e in
        let other : count ≡ c → ⊥ = λ (p : count ≡ c). q (omega (arith, counts, size, few, p)) in
        let a = answer h.width (degrees_of h) (take c t) in
        let b = answer h.width (degrees_of h) vs in
        ap₂ (λ (n : ℕ) (x : Bool). text_for (first n (cond x (cond (accepts h.width (degrees_of h) (take c t)) 0 6) 9)) (degrees_of h) a)
        e (ne_eqb count c other)
        ∙ text_no_table 9 (degrees_of h) a b (suc-ne-zero 8)
        ∙ sym (ap₂ (λ (n : ℕ) (x : Bool). text_for (first n (cond x (cond (accepts h.width (degrees_of h) vs) 0 6) 9)) (degrees_of h) b)
        e (ne_eqb (length vs) c q))

    whole_stopping : (n : ℕ) → head_number h ≡ suc n → text_of (Ok tt) h count t ≡ bench_text (whole h vs)
    unfolding text_of number_of verdict bench_text bench_number
    whole_stopping n e =
        let a = answer h.width (degrees_of h) (take c t) in
        let b = answer h.width (degrees_of h) vs in
        ap (λ (n : ℕ). text_for (first n (cond (eqb count c) (cond (accepts h.width (degrees_of h) (take c t)) 0 6) 9)) (degrees_of h) a) e
        ∙ text_no_table (suc n) (degrees_of h) a b (suc-ne-zero n)
        ∙ sym (ap (λ (n : ℕ). text_for (first n (cond (eqb (length vs) c) (cond (accepts h.width (degrees_of h) vs) 0 6) 9)) (degrees_of h) b) e)

    pub text_whole : text_of (Ok tt) h count t ≡ bench_text (whole h vs)
    text_whole = go (head_number h) refl
      where
        go : (n : ℕ) → head_number h ≡ n → text_of (Ok tt) h count t ≡ bench_text (whole h vs)
        go zero e = ⊎_elim (whole_exact e) (whole_wrong e) (eq_or_ne (length vs) c)
        go (suc n) e = whole_stopping n e

-- ---- pieces of the input

pub led_none : (a : Option (List ℕ)) (t : List ℕ) (r : Reader) → r ≡ none_read → LedFrom a a t r t longest_file
unfolding fed
led_none a t r e = (record { bytes = []; led = ap (λ (x : Reader). state x t) e; unread = refl }, Consumes-nil a)

pub led_next : (a b c : Option (List ℕ)) (t₀ : List ℕ) (r : Reader) (t : List ℕ) (left : ℕ) (piece : List ℕ) (q : Reader) (u : List ℕ) (left' : ℕ)
    → LedFrom a b t₀ r t left → Consumes b c piece → state q u ≡ fed (state r t) piece → left' ≡ left - length piece → LedFrom a c t₀ q u left'
led_next a b c t₀ r t left piece q u left' l k e f = (
  record {
    bytes = l.0.bytes ++ piece;
    led = e ∙ ap (λ (s : State). fed s piece) l.0.led ∙ sym (fed-append (state none_read t₀) l.0.bytes piece);
    unread = omega (arith, f, l.0.unread, length-append l.0.bytes piece);
  },
  Consumes-trans a b c l.0.bytes piece l.1 k,
)

-- a read that gave no bytes, at the end or with an error
pub led_end : (a b c : Option (List ℕ)) (t₀ : List ℕ) (r : Reader) (t : List ℕ) (left : ℕ) (n : ℕ) (buf : List ℕ) → LedFrom a b t₀ r t left → n ≡ 0
    → Consumes b c (take n buf) → LedFrom a c t₀ r t left
led_end a b c t₀ r t left n buf l e k = (
  l.0,
  subst (λ (bs : List ℕ). Consumes a c bs) (ap (λ (n : ℕ). l.0.bytes ++ take n buf) e ∙ append-nil l.0.bytes)
      (Consumes-trans a b c l.0.bytes (take n buf) l.1 k),
)

-- a read that failed, which took nothing
pub led_failed : (a b c : Option (List ℕ)) (t₀ : List ℕ) (r : Reader) (t : List ℕ) (left : ℕ) → LedFrom a b t₀ r t left → Keeps b c
    → LedFrom a c t₀ r t left
led_failed a b c t₀ r t left l k = (l.0, Consumes-kept a b c l.0.bytes l.1 k)

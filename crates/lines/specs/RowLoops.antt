-- A block of lines of degree 3: four rows of s numbers. A loop takes the lines by their offset in the rows, one a turn.
use Rattle.std.specs.Prelude.{◌≡◌, ℕ, zero, suc, ◌+◌, ◌*◌, ◌/◌, ◌%◌, ◌<◌, ◌≤◌, ◌≢◌, ◌⊎◌, List, length, [], ◌∷◌, refl}
use Rattle.std.proofs.Common.{sym, ap, arith, ◌∙◌, inl, inr, add-one, eq-or-lt_of_le, le_of_suc-le-suc, lt_of_lt_of_le, not-suc-le-zero, mod-lt, div-add-mod'}
use Rattle.meaning.specs.Tables.{tabulate, at}
use Rattle.theory.specs.Tables.{eq-tabulate}
use Rattle.lines.specs.FlatTables.{Local, lined}
use Rattle.theory.specs.AlongEach.{Line}
use Rattle.lines.specs.InPlace.{lined-at, index_lt}
use Rattle.lines.specs.FourWrites.{written, length-written, at-other, at-first, at-second, at-third, at-last}

-- the lines with offsets below i are done
pub record Rows (line : Line) (s : ℕ) (t₀ t : List ℕ) (i : ℕ) : Type 0 where
  pub same : length t ≡ length t₀
  pub done : (x r : ℕ) → x ≤ 3 → r < i → r < s → at t (x * s + r) ≡ lined line s 3 (at t₀) (x * s + r)
  pub kept : (x r : ℕ) → x ≤ 3 → i ≤ r → r < s → at t (x * s + r) ≡ at t₀ (x * s + r)

module _ (line : Line) (s : ℕ) (t₀ : List ℕ) where
  pub rows_start : Rows line s t₀ t₀ 0
  rows_start = record { same = refl; done = λ x r h p. absurd (not-suc-le-zero p); kept = λ x r h p q. refl }

  module _ (whole : length t₀ ≡ s * 4) where
    -- all lines are done
    pub rows_done : (t : List ℕ) (i : ℕ) → Rows line s t₀ t i → s ≤ i → t ≡ tabulate (length t₀) (lined line s 3 (at t₀))
    rows_done t i r h =
        eq-tabulate t (length t₀) (lined line s 3 (at t₀)) r.same λ p l.
        let pos : 0 < s = omega (arith, whole) in
        let low : p % s < s = mod-lt p pos in
        let row : p / s ≤ 3 = le_of_suc-le-suc (index_lt s pos 4 p (rw whole at l)) in
        rw (div-add-mod' p s) at (r.done (p / s) (p % s) row (lt_of_lt_of_le low h) low)

    -- one line
    module _ (t : List ℕ) (i : ℕ) (r : Rows line s t₀ t i) (h : i < s) where
      pos : 0 < s
      pos = omega (arith, h)

      -- its numbers
      abbrev number : ℕ → ℕ
      number x = at t₀ (x * s + i)

      pub second_number : at t (s + i) ≡ number 1
      second_number = let e : s + i ≡ 1 * s + i = omega arith in ap (at t) e ∙ r.kept 1 i (omega arith) (omega arith) h

      pub third_number : at t (s + s + i) ≡ number 2
      third_number = let e : s + s + i ≡ 2 * s + i = omega arith in ap (at t) e ∙ r.kept 2 i (omega arith) (omega arith) h

      pub last_number : at t (s + s + s + i) ≡ number 3
      last_number = let e : s + s + s + i ≡ 3 * s + i = omega arith in ap (at t) e ∙ r.kept 3 i (omega arith) (omega arith) h

      pub first-number : at t i ≡ number 0
      first-number = let e : i ≡ 0 * s + i = omega arith in ap (at t) e ∙ r.kept 0 i (omega arith) (omega arith) h

      -- a table in which the line is done and the others are as they were
      pub next_rows : (after : List ℕ) → length after ≡ length t → ((x q : ℕ) → x ≤ 3 → q < s → q ≢ i → at after (x * s + q) ≡ at t (x * s + q))
          → ((x : ℕ) → x ≤ 3 → at after (x * s + i) ≡ line 3 number x) → Rows line s t₀ after (i + 1)
      next_rows after long stays here =
          record {
            same = long ∙ r.same;
            done = λ x q l p z. go x q l z (eq-or-lt_of_le (le_of_suc-le-suc (rw (add-one i) at p)));
            kept = λ x q l p z. stays x q l z (omega arith) ∙ r.kept x q l (omega arith) z;
          }
        where
          go : (x q : ℕ) → x ≤ 3 → q < s → (q ≡ i) ⊎ (q < i) → at after (x * s + q) ≡ lined line s 3 (at t₀) (x * s + q)
          go x q l z (inl e) = rw e (here x l ∙ sym (lined-at s pos line 3 (at t₀) x h))
          go x q l z (inr p) = stays x q l z (omega arith) ∙ r.done x q l p z

      -- its four numbers are written
      pub rows_step : Local line → (four : List ℕ)
          → ((j : ℕ) → j ≤ 3 → at four j ≡ line 3 (at (at t i ∷ at t (s + i) ∷ at t (s + s + i) ∷ at t (s + s + s + i) ∷ [])) j)
          → Rows line s t₀ (written t i (s + i) (s + s + i) (s + s + s + i) (at four 0) (at four 1) (at four 2) (at four 3)) (i + 1)
      rows_step local four e = next_rows after (length-written t i (s + i) (s + s + i) (s + s + s + i) _ _ _ _) stays here
        where
          after : List ℕ
          after = written t i (s + i) (s + s + i) (s + s + s + i) (at four 0) (at four 1) (at four 2) (at four 3)

          same : (x : ℕ) → x ≤ 3 → at (at t i ∷ at t (s + i) ∷ at t (s + s + i) ∷ at t (s + s + s + i) ∷ []) x ≡ number x
          same zero l = first-number
          same (suc zero) l = second_number
          same (suc (suc zero)) l = third_number
          same (suc (suc (suc zero))) l = last_number
          same (suc (suc (suc (suc x)))) l = absurd (omega arith)

          new : (x : ℕ) → x ≤ 3 → at four x ≡ line 3 number x
          new x l = e x l ∙ local 3 _ number same x l

          other : (p : ℕ) → p ≢ i → p ≢ s + i → p ≢ s + s + i → p ≢ s + s + s + i → at after p ≡ at t p
          other p = at-other t i (s + i) (s + s + i) (s + s + s + i) _ _ _ _ p

          stays : (x q : ℕ) → x ≤ 3 → q < s → q ≢ i → at after (x * s + q) ≡ at t (x * s + q)
          stays zero q l z u = other (0 * s + q) (omega arith) (omega arith) (omega arith) (omega arith)
          stays (suc zero) q l z u = other (1 * s + q) (omega arith) (omega arith) (omega arith) (omega arith)
          stays (suc (suc zero)) q l z u = other (2 * s + q) (omega arith) (omega arith) (omega arith) (omega arith)
          stays (suc (suc (suc zero))) q l z u = other (3 * s + q) (omega arith) (omega arith) (omega arith) (omega arith)
          stays (suc (suc (suc (suc x)))) q l z u = absurd (omega arith)

          here : (x : ℕ) → x ≤ 3 → at after (x * s + i) ≡ line 3 number x
          here zero l =
              let p : 0 * s + i ≡ i = omega arith in
              ap (at after) p
              ∙ at-first t i (s + i) (s + s + i) (s + s + s + i) _ _ _ _ (omega arith) (omega arith) (omega arith) (omega (arith, r.same))
              ∙ new 0 l
          here (suc zero) l =
              let p : 1 * s + i ≡ s + i = omega arith in
              ap (at after) p ∙ at-second t i (s + i) (s + s + i) (s + s + s + i) _ _ _ _ (omega arith) (omega (arith, r.same)) ∙ new 1 l
          here (suc (suc zero)) l =
              let p : 2 * s + i ≡ s + s + i = omega arith in
              ap (at after) p ∙ at-third t i (s + i) (s + s + i) (s + s + s + i) _ _ _ _ (omega (arith, r.same)) ∙ new 2 l
          here (suc (suc (suc zero))) l =
              let p : 3 * s + i ≡ s + s + s + i = omega arith in
              ap (at after) p ∙ at-last t i (s + i) (s + s + i) (s + s + s + i) _ _ _ _ (omega arith) (omega arith) (omega (arith, r.same)) ∙ new 3 l
          here (suc (suc (suc (suc x)))) l = absurd (omega arith)

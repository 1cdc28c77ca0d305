-- The longest text has 1,122,347 bytes: 4,096 lines of 12 exponents and a coefficient, after the first line.
use Rattle.std.specs.Prelude.{◌≡◌, refl, Bool, true, false, ◌||◌, cond, List, ℕ, zero, suc, ◌+◌, ◌*◌, ◌-◌, ◌≤◌, ◌<◌, eqb, ltb, length, replicate}
use Rattle.std.proofs.Common.{ap, subst, true≢false, ⊎_elim, suc-ne-zero, mul-le-mul_left, arith}
use Rattle.std.proofs.Math.ListN.{length-replicate}
use borrow.Author.Tests.{eqb-false, eqb-true}
use Rattle.meaning.specs.Boxes.{cells}
use Rattle.meaning.specs.Settings.{fits_width, some, limited_number, settings_number}
use Rattle.meaning.specs.Recovery.{answer}
use Rattle.theory.specs.Tables.{length-tabulate}
use Rattle.bench_file.specs.Layout.{Head, Content, ill_head, ill_values, whole, degrees_of, head_number, bench_number, non_zeros, accepted_text, refused_text, bench_text}
use Rattle.bench_file.specs.PrintLaws.{length-accepted, length-refused, non_zeros_few}
use Rattle.bench_file.specs.HeadLines.{lt_or_ge}
use Rattle.theory.specs.AcceptedCalls.{first-zero}
use Rattle.bench.proofs.AnswerLaws.{head_settings, head_cells}

-- no degree is 0 where strict settings pass
no_zero_degree : (total : ℕ) (fits : Bool) (support ds : List ℕ) → settings_number true total fits support ds ≡ 0 → some (eqb 0) ds ≡ false
unfolding limited_number
no_zero_degree total fits support ds = go (eqb (length support) 0) (ltb 20 total) fits (some (eqb 0) ds) _
  where
    go : (a b c e : Bool) (n : ℕ) → cond a 1 (cond b 2 (cond c (cond e 4 n) 3)) ≡ 0 → e ≡ false
    go a b c false n q = refl
    go true b c true n q = absurd (suc-ne-zero 0 q)
    go false true c true n q = absurd (suc-ne-zero 1 q)
    go false false true true n q = absurd (suc-ne-zero 3 q)
    go false false false true n q = absurd (suc-ne-zero 2 q)

either_false : (a b : Bool) → (a || b) ≡ false → (a ≡ false) × (b ≡ false)
either_false true b e = absurd (true≢false e)
either_false false b e = (refl, e)

-- two to the power of the number of variables, as the cells are counted
unfoldable doubled : ℕ → ℕ
doubled zero = 1
doubled (suc k) = doubled k * 2

-- the cells of k variables of degree d, which is not 0, are at least that
many_cells : (k d : ℕ) → some (eqb 0) (replicate k d) ≡ false → doubled k ≤ cells (replicate k d)
unfolding some cells doubled
many_cells zero d e = omega arith
many_cells (suc k) d e =
    let both = either_false (eqb 0 d) (some (eqb 0) (replicate k d)) e in
    let c = cells (replicate k d) in
    let pos : 2 ≤ suc d = omega (arith, eqb-false 0 d both.0) in
    let more : c * 2 ≤ c * suc d = mul-le-mul_left c pos in
    omega (arith, many_cells k d both.1, more)

doubled_13 : (j : ℕ) → 8192 ≤ doubled (j + 13)
unfolding doubled
doubled_13 zero = let h : doubled 13 ≡ 8192 = refl in omega (arith, h)
doubled_13 (suc j) =
    let next : suc j + 13 ≡ suc (j + 13) = omega arith in
    let e : doubled (suc j + 13) ≡ doubled (j + 13) * 2 = ap doubled next in
    omega (arith, doubled_13 j, e)

few_variables : (k d : ℕ) → some (eqb 0) (replicate k d) ≡ false → cells (replicate k d) ≤ 4096 → k ≤ 12
few_variables k d e h = ⊎_elim many (λ (l : k ≤ 12). l) (lt_or_ge 12 k)
  where
    many : 12 < k → k ≤ 12
    many l =
        let same : k - 13 + 13 ≡ k = omega arith in
        let large : 8192 ≤ doubled k = subst (λ (n : ℕ). 8192 ≤ doubled n) same (doubled_13 (k - 13)) in
        absurd (omega (arith, many_cells k d e, large, h))

-- an answer is accepted only where the settings pass
head_passes : (h : Head) (vs : List ℕ) → bench_number (whole h vs) ≡ 0 → head_number h ≡ 0
unfolding bench_number
head_passes h vs e = (first-zero (head_number h) _ e).0

length-answer : (w : ℕ) (ds v : List ℕ) → length (answer w ds v) ≡ cells ds
unfolding answer
length-answer w ds v = length-tabulate (cells ds) _

-- the text of an answer
accepted_room : (w k d : ℕ) (v : List ℕ) → k ≤ 12 → cells (replicate k d) ≤ 4096
    → length (accepted_text (replicate k d) (answer w (replicate k d) v)) ≤ 1122347
accepted_room w k d v l h =
    let ds = replicate k d in
    let cs = answer w ds v in
    let terms : non_zeros cs ≤ 4096 = omega (arith, non_zeros_few cs, length-answer w ds v, h) in
    let size : 21 * length ds + 22 ≤ 274 = omega (arith, length-replicate {0} {A = ℕ} k d, l) in
    let most : non_zeros cs * (21 * length ds + 22) ≤ non_zeros cs * 274 = mul-le-mul_left (non_zeros cs) size in
    omega (arith, length-accepted ds cs, terms, most)

pub text_room_lem : (x : Content) → length (bench_text x) ≤ 1122347
unfolding bench_text
text_room_lem ill_head = omega (arith, length-refused (bench_number ill_head))
text_room_lem (ill_values h) = omega (arith, length-refused (bench_number (ill_values h)))
text_room_lem (whole h vs) = go (eqb (bench_number (whole h vs)) 0) refl
  where
    room : bench_number (whole h vs) ≡ 0 → length (accepted_text (degrees_of h) (answer h.width (degrees_of h) vs)) ≤ 1122347
    room e =
        let pass = head_passes h vs e in
        let few = head_cells h.width h.total h.degree h.support pass in
        accepted_room h.width (length h.support) h.degree vs
        (few_variables (length h.support) h.degree
        (no_zero_degree h.total (fits_width h.width) h.support (degrees_of h)
        (head_settings h.width h.total h.degree h.support pass)) few) few

    go : (b : Bool) → eqb (bench_number (whole h vs)) 0 ≡ b
        → length (cond b (accepted_text (degrees_of h) (answer h.width (degrees_of h) vs)) (refused_text (bench_number (whole h vs)))) ≤ 1122347
    go true e = room (eqb-true (bench_number (whole h vs)) 0 e)
    go false e = omega (arith, length-refused (bench_number (whole h vs)))

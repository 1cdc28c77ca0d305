-- The lines of an answer, stored number by number.
use Rattle.std.specs.Prelude.{◌≡◌, refl, List, [], ◌∷◌, ◌++◌, ℕ, zero, suc, ◌+◌, ◌*◌, ◌-◌, ◌/◌, ◌≤◌, ◌<◌, length, drop, set, replicate, Some, None}
use Rattle.std.proofs.Common.{sym, ◌∙◌, ap, ap₂, append-nil, ⊎_elim, div-lt_iff_lt-mul, arith, le-leb, length-append}
use Rattle.std.proofs.lemmas.Bool.{lt-leb}
use Rattle.std.proofs.lemmas.List.{length-replicate}
use Rattle.std.proofs.lemmas.List.Edits.{sets}
use Rattle.meaning.specs.Tables.{at}
use Rattle.meaning.specs.Boxes.{digits}
use Rattle.bench_file.specs.Text.{number, numbers, line}
use Rattle.bench_file.specs.HeadLines.{numbers-append, lt_or_ge}
use Rattle.bench_file.specs.Layout.{non_zeros, term_lines, accepted_text, refused_text}
use Rattle.bench_file.specs.Printed.{printed, printed_size, term_text, Writes}
use Rattle.bench_file.specs.PrintLaws.{sets_then, length-numbers, length-line, length_digits, length-term, terms_next, length-accepted}
use Rattle.bench_file.specs.declared.answer.Printer.{Printer}

-- the text fits, or it does not
pub printed_whole : (text out : List ℕ) → length text ≤ length out → printed text out ≡ sets out 0 text
printed_whole text out h = simp (le-leb (length text) (length out) h)

pub printed_size_lem : (text out : List ℕ) → length text ≤ length out → printed_size text out ≡ Some (length text)
printed_size_lem text out h = simp (le-leb (length text) (length out) h)

pub printed_none : (text out : List ℕ) → length out < length text → printed text out ≡ out
printed_none text out h = simp (lt-leb (length text) (length out) h)

pub printed_no_size : (text out : List ℕ) → length out < length text → printed_size text out ≡ None
printed_no_size text out h = simp (lt-leb (length text) (length out) h)

-- a text was written from the beginning of a buffer with room for it
module _ (a b : Printer) (text out left : List ℕ) (w : Writes a b text) (start : a.size ≡ 0) where
  pub writes-size : length text ≤ length out → Some b.size ≡ printed_size text out
  writes-size room = ap Some (omega (arith, w.size, start)) ∙ sym (printed_size_lem text out room)

  pub writes-whole : a.out.now ≡ out → left ≡ b.out.now → length text ≤ length out → left ≡ printed text out
  writes-whole lent back room =
      back ∙ w.leaves ∙ ap₂ (λ (l : List ℕ) (k : ℕ). sets l k text) lent start ∙ sym (printed_whole text out room)

-- one number more, and the end of the line
pub numbers-one-more : (ns : List ℕ) (c : ℕ) → numbers ns ++ number c ≡ numbers (ns ++ (c ∷ []))
unfolding numbers
numbers-one-more ns c = ap (numbers ns ++◌) (sym (append-nil (number c))) ∙ sym (numbers-append ns (c ∷ []))

pub number_stored : (ns : List ℕ) (c : ℕ) (out out₁ out₂ : List ℕ) (i k : ℕ) → out₁ ≡ sets out i (numbers ns) → k ≡ i + 21 * length ns
    → out₂ ≡ sets out₁ k (number c) → out₂ ≡ sets out i (numbers (ns ++ (c ∷ [])))
number_stored ns c out out₁ out₂ i k e h f =
    f
    ∙ ap (λ (x : List ℕ). sets x k (number c)) e
    ∙ sets_then (numbers ns) (number c) out i k (omega (arith, h, length-numbers ns))
    ∙ ap (sets out i) (numbers-one-more ns c)

pub line_stored : (ns out out₁ : List ℕ) (i k : ℕ) → out₁ ≡ sets out i (numbers ns) → k ≡ i + 21 * length ns → set out₁ k 10 ≡ sets out i (line ns)
unfolding line
line_stored ns out out₁ i k e h =
    ap (λ (x : List ℕ). set x k 10) e ∙ sets_then (numbers ns) (10 ∷ []) out i k (omega (arith, h, length-numbers ns))

-- the line of a coefficient
pub term_of_zero : (ds : List ℕ) (n c : ℕ) → c ≡ 0 → term_text ds n c ≡ []
term_of_zero ds n c e = ap (term_text ds n) e

pub term_of_pos : (ds : List ℕ) (n c : ℕ) → (c ≡ 0 → ⊥) → term_text ds n c ≡ line (digits ds n ++ (c ∷ []))
term_of_pos ds n zero h = absurd (h refl)
term_of_pos ds n (suc c) h = refl

pub length-term-cube : (k d n c : ℕ) → (c ≡ 0 → ⊥) → length (term_text (replicate k d) n c) ≡ 21 * k + 22
length-term-cube k d n zero h = absurd (h refl)
length-term-cube k d n (suc c) h = length-term (replicate k d) n c ∙ ap (λ (x : ℕ). 21 * x + 22) (length-replicate k d)

pub term_line : (ds : List ℕ) (n c : ℕ) → (c ≡ 0 → ⊥) → (numbers (digits ds n) ++ number c) ++ (10 ∷ []) ≡ term_text ds n c
unfolding line
term_line ds n c h = ap (◌++ (10 ∷ [])) (numbers-one-more (digits ds n) c) ∙ sym (term_of_pos ds n c h)

pub term_stored : (k d n c : ℕ) (out out₁ out₂ : List ℕ) (i middle end : ℕ) → (c ≡ 0 → ⊥)
    → out₁ ≡ sets out i (numbers (digits (replicate k d) n)) → middle ≡ i + 21 * k → out₂ ≡ sets out₁ middle (number c) → end ≡ middle + 21
    → set out₂ end 10 ≡ sets out i (term_text (replicate k d) n c)
term_stored k d n c out out₁ out₂ i middle end h e m f g =
    let size : length (digits (replicate k d) n) ≡ k = length_digits (replicate k d) n ∙ length-replicate k d in
    line_stored (digits (replicate k d) n ++ (c ∷ [])) out out₂ i end
    (number_stored (digits (replicate k d) n) c out out₁ out₂ i middle e (omega arith) f)
    (simp length-append (omega arith))
    ∙ ap (sets out i) (sym (term_of_pos (replicate k d) n c h))

-- the terms from a cell on
pub terms_stored : (ds cs : List ℕ) (i : ℕ) (out out₁ : List ℕ) (j k : ℕ) → i < length cs
    → out₁ ≡ sets out j (term_text ds i (at cs i)) → k ≡ j + length (term_text ds i (at cs i))
    → sets out j (term_lines ds i (drop i cs)) ≡ sets out₁ k (term_lines ds (i + 1) (drop (i + 1) cs))
terms_stored ds cs i out out₁ j k h e f =
    ap (sets out j) (terms_next ds cs i h)
    ∙ sym (sets_then (term_text ds i (at cs i)) (term_lines ds (i + 1) (drop (i + 1) cs)) out j k f)
    ∙ ap (λ (x : List ℕ). sets x k (term_lines ds (i + 1) (drop (i + 1) cs))) (sym e)

-- a refusal, and the first line of an accepted answer
pub refused_line : (n : ℕ) → number n ++ (10 ∷ []) ≡ refused_text n
unfolding refused_text line numbers
refused_line n = ap (◌++ (10 ∷ [])) (sym (append-nil (number n)))

pub accepted_lines : (ds cs : List ℕ) → ((number 0 ++ number (non_zeros cs)) ++ (10 ∷ [])) ++ term_lines ds 0 cs ≡ accepted_text ds cs
unfolding accepted_text line numbers
accepted_lines ds cs = ap (λ (x : List ℕ). ((number 0 ++ x) ++ (10 ∷ [])) ++ term_lines ds 0 cs) (sym (append-nil (number (non_zeros cs))))

pub refused_stored : (n : ℕ) (out out₁ : List ℕ) (end : ℕ) → out₁ ≡ sets out 0 (number n) → end ≡ 0 + 21 → set out₁ end 10 ≡ sets out 0 (refused_text n)
unfolding refused_text numbers
refused_stored n out out₁ end e h =
    line_stored (n ∷ []) out out₁ 0 end (number_stored [] n out out out₁ 0 0 refl (omega arith) e) (omega arith)

pub accepted_stored : (ds cs : List ℕ) (out out₁ out₂ out₃ : List ℕ) (first second end : ℕ) → out₁ ≡ sets out 0 (number 0) → first ≡ 0 + 21
    → out₂ ≡ sets out₁ first (number (non_zeros cs)) → second ≡ first + 21 → out₃ ≡ sets (set out₂ second 10) (second + 1) (term_lines ds 0 cs)
    → out₃ ≡ sets out 0 (accepted_text ds cs)
unfolding accepted_text numbers
accepted_stored ds cs out out₁ out₂ out₃ first second end e f g h k =
    k
    ∙ ap (λ (x : List ℕ). sets x (second + 1) (term_lines ds 0 cs))
    (line_stored (0 ∷ non_zeros cs ∷ []) out out₂ 0 second
    (number_stored (0 ∷ []) (non_zeros cs) out out₁ out₂ 0 first (number_stored [] 0 out out out₁ 0 0 refl (omega arith) e) (omega arith) g)
    (omega arith))
    ∙ sets_then (line (0 ∷ non_zeros cs ∷ [])) (term_lines ds 0 cs) out 0 (second + 1) (omega (arith, length-line (0 ∷ non_zeros cs ∷ [])))

-- room for it
pub accepted_terms : (ds cs : List ℕ) → length (accepted_text ds cs) ≡ 43 + length (term_lines ds 0 cs)
unfolding accepted_text
accepted_terms ds cs =
    length-append (line (0 ∷ non_zeros cs ∷ [])) (term_lines ds 0 cs) ∙ ap (◌+ length (term_lines ds 0 cs)) (length-line (0 ∷ non_zeros cs ∷ []))

module _ (k d : ℕ) (cs : List ℕ) (size : ℕ) where
  length-accepted-cube : length (accepted_text (replicate k d) cs) ≡ non_zeros cs * (k * 21 + 22) + 43
  length-accepted-cube =
      let one : 21 * length (replicate k d) + 22 ≡ k * 21 + 22 = omega (arith, length-replicate k d) in
      length-accepted (replicate k d) cs ∙ ap (λ (x : ℕ). non_zeros cs * x + 43) one

  pub accepted-short : size < 43 → size < length (accepted_text (replicate k d) cs)
  accepted-short h = omega (arith, length-accepted-cube)

  pub accepted_no_room : 43 ≤ size → (size - 43) / (k * 21 + 22) < non_zeros cs → size < length (accepted_text (replicate k d) cs)
  accepted_no_room h g =
      let pos : 0 < k * 21 + 22 = omega arith in
      let more : size - 43 < non_zeros cs * (k * 21 + 22) = (div-lt_iff_lt-mul pos).0 g in
      omega (arith, length-accepted-cube)

  pub accepted_room : 43 ≤ size → non_zeros cs ≤ (size - 43) / (k * 21 + 22) → length (accepted_text (replicate k d) cs) ≤ size
  accepted_room h g = ⊎_elim over within (lt_or_ge (size - 43) (non_zeros cs * (k * 21 + 22)))
    where
      pos : 0 < k * 21 + 22
      pos = omega arith

      over : size - 43 < non_zeros cs * (k * 21 + 22) → length (accepted_text (replicate k d) cs) ≤ size
      over m = let less = (div-lt_iff_lt-mul pos).1 m in absurd (omega arith)

      within : non_zeros cs * (k * 21 + 22) ≤ size - 43 → length (accepted_text (replicate k d) cs) ≤ size
      within m = omega (arith, length-accepted-cube)

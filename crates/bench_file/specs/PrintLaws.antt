-- Texts stored one after the other, and their lengths.
use Rattle.std.specs.Prelude.{◌≡◌, refl, List, [], ◌∷◌, ◌++◌, ℕ, zero, suc, ◌+◌, ◌*◌, ◌-◌, ◌/◌, ◌%◌, ◌≤◌, ◌<◌, length, take, drop, set, replicate, eqb, cond, not, count_by}
use Rattle.std.proofs.Common.{subst, suc-ne-zero, ne_eqb, sym, ◌∙◌, ap, ap₂, append_assoc, add-zero, suc-mul, add_comm, add-one, arith, length-append, drop_of_length-le, eq-eqb, drop-cons, drop-drop}
use Rattle.theory.specs.Parts.{part, put, length_part}
use Rattle.std.proofs.lemmas.List.Edits.{sets, sets-eq}
use Rattle.std.proofs.Math.Seq.{length-sets}
use Rattle.std.proofs.lemmas.List.{length-replicate}
use Rattle.std.proofs.lemmas.List.Recursion.{is_count_by}
use Rattle.meaning.specs.Tables.{at}
use Rattle.meaning.specs.Boxes.{digits}
use Rattle.bench_file.specs.Text.{number, numbers, line}
use Rattle.bench_file.specs.NumberLaws.{length-number}
use Rattle.bench_file.specs.Layout.{Head, GoodHead, head_text, values_text, longest_file, non_zeros, term_lines, accepted_text, refused_text}
use Rattle.bench_file.specs.Printed.{term_text, one_term_of, Writes}
use Rattle.bench_file.specs.declared.answer.Printer.{Printer}

-- two texts one after the other
pub sets_append : (xs ys l : List ℕ) (i : ℕ) → sets l i (xs ++ ys) ≡ sets (sets l i xs) (i + length xs) ys
sets_append [] ys l i = ap (λ (k : ℕ). sets l k ys) (sym (add-zero i))
sets_append (x ∷ xs) ys l i = sets_append xs ys (set l i x) (suc i) ∙ ap (λ (k : ℕ). sets (sets (set l i x) (suc i) xs) k ys) (omega arith)

-- the same where the length of the first is given
pub sets_then : (xs ys l : List ℕ) (i k : ℕ) → k ≡ i + length xs → sets (sets l i xs) k ys ≡ sets l i (xs ++ ys)
sets_then xs ys l i k e = ap (λ (n : ℕ). sets (sets l i xs) n ys) e ∙ sym (sets_append xs ys l i)

-- lengths
pub length-numbers : (ns : List ℕ) → length (numbers ns) ≡ 21 * length ns
unfolding numbers
length-numbers [] = refl
length-numbers (n ∷ ns) = length-append (number n) (numbers ns) ∙ omega (arith, length-number n, length-numbers ns)

pub length-line : (ns : List ℕ) → length (line ns) ≡ 21 * length ns + 1
unfolding line
length-line ns = length-append (numbers ns) (10 ∷ []) ∙ ap (◌+ 1) (length-numbers ns)

pub length_digits : (ds : List ℕ) (n : ℕ) → length (digits ds n) ≡ length ds
unfolding digits
length_digits [] n = refl
length_digits (d ∷ ds) n = ap suc (length_digits ds (n / suc d))

pub length-exponents : (k d n : ℕ) → length (numbers (digits (replicate k d) n)) ≡ 21 * k
length-exponents k d n = length-numbers (digits (replicate k d) n) ∙ simp (length_digits, length-replicate)

pub length-term : (ds : List ℕ) (n c : ℕ) → length (term_text ds n (suc c)) ≡ 21 * length ds + 22
length-term ds n c =
    length-line (digits ds n ++ (suc c ∷ [])) ∙ simp (length-append, length_digits) (omega arith)

-- the terms from a cell on
pub term_lines_next : (ds : List ℕ) (n c : ℕ) (cs : List ℕ) → term_lines ds n (c ∷ cs) ≡ term_text ds n c ++ term_lines ds (suc n) cs
unfolding term_lines
term_lines_next ds n zero cs = refl
term_lines_next ds n (suc c) cs = refl

pub length_terms : (ds : List ℕ) (n : ℕ) (cs : List ℕ) → length (term_lines ds n cs) ≡ non_zeros cs * (21 * length ds + 22)
unfolding term_lines non_zeros
length_terms ds n [] = omega arith
length_terms ds n (zero ∷ cs) = length_terms ds (suc n) cs
length_terms ds n (suc c ∷ cs) =
    length-append (term_text ds n (suc c)) (term_lines ds (suc n) cs)
    ∙ ap₂ ◌+◌ (length-term ds n c) (length_terms ds (suc n) cs)
    ∙ sym (suc-mul (non_zeros cs) (21 * length ds + 22) ∙ add_comm (non_zeros cs * (21 * length ds + 22)) (21 * length ds + 22))

pub length-accepted : (ds cs : List ℕ) → length (accepted_text ds cs) ≡ non_zeros cs * (21 * length ds + 22) + 43
unfolding accepted_text
length-accepted ds cs =
    length-append (line (0 ∷ non_zeros cs ∷ [])) (term_lines ds 0 cs)
    ∙ omega (arith, length-line (0 ∷ non_zeros cs ∷ []), length_terms ds 0 cs)

pub length-refused : (n : ℕ) → length (refused_text n) ≡ 22
unfolding refused_text
length-refused n = length-line (n ∷ [])

-- the text of a file
length_values : (vs : List ℕ) → length (values_text vs) ≡ length vs * 22
unfolding values_text
length_values [] = refl
length_values (v ∷ vs) = length-append (line (v ∷ [])) (values_text vs) ∙ omega (arith, length-line (v ∷ []), length_values vs)

pub length_file : (h : Head) (vs : List ℕ) → GoodHead h → length vs ≤ 4096 → length (head_text h ++ values_text vs) ≤ longest_file
unfolding head_text
length_file h vs good few =
    let ns = h.width ∷ h.total ∷ h.degree ∷ length h.support ∷ [] in
    let all = length-append (line ns ++ line h.support) (values_text vs) in
    omega (arith, all, length-append (line ns) (line h.support), length-line ns, length-line h.support, length_values vs, good.few, few)

-- one exponent more
pub digits_next : (d k n : ℕ) → numbers (digits (replicate (suc k) d) n) ≡ number (n % suc d) ++ numbers (digits (replicate k d) (n / suc d))
unfolding digits numbers
digits_next d k n = refl

-- the count from a place on
pub one-term_of_pos : (c : ℕ) → (c ≡ 0 → ⊥) → 1 ≡ one_term_of c
one-term_of_pos zero h = absurd (h refl)
one-term_of_pos (suc c) h = refl

pub non_zeros_next : (cs : List ℕ) (i : ℕ) → i < length cs → non_zeros (drop i cs) ≡ one_term_of (at cs i) + non_zeros (drop (i + 1) cs)
unfolding non_zeros
non_zeros_next cs i h = rw (add-one i, drop-cons cs i 0 h) (go (at cs i))
  where
    go : (c : ℕ) → non_zeros (c ∷ drop (suc i) cs) ≡ one_term_of c + non_zeros (drop (suc i) cs)
    go zero = omega arith
    go (suc c) = omega arith

pub non_zeros-end : (cs : List ℕ) (i : ℕ) → length cs ≤ i → non_zeros (drop i cs) ≡ 0
unfolding non_zeros
non_zeros-end cs i h = rw (drop_of_length-le cs h)

-- the count by a test
pub non_zeros_count : (cs : List ℕ) → non_zeros cs ≡ count_by (λ c. not (eqb c 0)) cs
unfolding non_zeros
non_zeros_count = is_count_by non_zeros (λ c. not (eqb c 0)) refl step
  where
    step : (c : ℕ) (cs : List ℕ) → non_zeros (c ∷ cs) ≡ cond (not (eqb c 0)) (1 + non_zeros cs) (non_zeros cs)
    step zero cs = refl
    step (suc c) cs = let other : (suc c ≡ 0 → ⊥) = λ e. suc-ne-zero c e in simp (ne_eqb (suc c) 0 other) (omega arith)

pub non_zeros_few : (cs : List ℕ) → non_zeros cs ≤ length cs
unfolding non_zeros
non_zeros_few [] = omega arith
non_zeros_few (zero ∷ cs) = omega (arith, non_zeros_few cs)
non_zeros_few (suc c ∷ cs) = omega (arith, non_zeros_few cs)

-- the terms from a cell on, in a list from a place on
pub terms_next : (ds cs : List ℕ) (i : ℕ) → i < length cs → term_lines ds i (drop i cs) ≡ term_text ds i (at cs i) ++ term_lines ds (i + 1) (drop (i + 1) cs)
terms_next ds cs i h = rw (add-one i, drop-cons cs i 0 h) (term_lines_next ds i (at cs i) (drop (suc i) cs))

pub terms_end : (ds cs : List ℕ) (i : ℕ) → length cs ≤ i → term_lines ds i (drop i cs) ≡ []
unfolding term_lines
terms_end ds cs i h = rw (drop_of_length-le cs h)

pub terms_next_length : (ds cs : List ℕ) (i : ℕ) → i < length cs
    → length (term_lines ds i (drop i cs)) ≡ length (term_text ds i (at cs i)) + length (term_lines ds (i + 1) (drop (i + 1) cs))
terms_next_length ds cs i h = ap length (terms_next ds cs i h) ∙ length-append (term_text ds i (at cs i)) (term_lines ds (i + 1) (drop (i + 1) cs))

-- a number in a lent part of 21 bytes
pub number-in-part : (t : List ℕ) (a n : ℕ) (ys : List ℕ) → a + 21 ≤ length t
    → ys ≡ cond (eqb (length (part a (a + 21) t)) 21) (number n) (part a (a + 21) t)
    → put a (a + 21) t ys ≡ sets t a (number n)
number-in-part t a n ys h e =
    let size : length (part a (a + 21) t) ≡ 21 = length_part a (a + 21) t h ∙ omega arith in
    let whole : ys ≡ number n = e ∙ simp (eq-eqb (length (part a (a + 21) t)) 21 size) in
    let there : a + (a + 21 - a) ≡ a + length (number n) = omega (arith, length-number n) in
    ap₂ (λ (x y : List ℕ). take a t ++ (x ++ y)) whole (drop-drop (a + 21 - a) a t ∙ ap (λ (k : ℕ). drop k t) there)
    ∙ sym (append_assoc (take a t) (number n) (drop (a + length (number n)) t))
    ∙ sym (sets-eq (number n) t a (omega (arith, length-number n)))

-- one exponent more, and none
pub digits_turn : (d base left after rest : ℕ) → base ≡ d + 1 → left ≡ after + 1
    → number (rest % base) ++ numbers (digits (replicate after d) (rest / base)) ≡ numbers (digits (replicate left d) rest)
digits_turn d base left after rest e h = rw (e, h, add-one d, add-one after) (sym (digits_next d after rest))

pub digits_none : (d left rest : ℕ) → left ≤ 0 → [] ≡ numbers (digits (replicate left d) rest)
unfolding digits numbers
digits_none d zero rest h = refl
digits_none d (suc k) rest h = absurd (omega arith)

-- one exponent more, as the loop has it
pub exponents_next : (out : List ℕ) (next d left rest : ℕ) → 0 < left
    → sets out next (numbers (digits (replicate left d) rest))
    ≡ sets (sets out next (number (rest % (d + 1)))) (next + 21) (numbers (digits (replicate (left - 1) d) (rest / (d + 1))))
exponents_next out next d zero rest h = absurd (omega arith)
exponents_next out next d (suc k) rest h =
    let down : suc k - 1 ≡ k = omega arith in
    rw (down, add-one d)
    (ap (sets out next) (digits_next d k rest)
    ∙ sym
    (sets_then (number (rest % suc d)) (numbers (digits (replicate k d) (rest / suc d))) out next (next + 21)
    (ap (next +◌) (sym (length-number (rest % suc d))))))

pub exponents_end : (out : List ℕ) (next d left rest : ℕ) → left ≤ 0 → sets out next (numbers (digits (replicate left d) rest)) ≡ out
unfolding digits numbers
exponents_end out next d zero rest h = refl
exponents_end out next d (suc k) rest h = absurd (omega arith)

-- nothing is written, one text after the other, and a text with another name
pub writes_none : (a : Printer) → Writes a a []
writes_none a = record { same_buffer = refl; size = sym (add-zero a.size); leaves = refl }

pub writes_then : (a b c : Printer) (xs ys : List ℕ) → Writes a b xs → Writes b c ys → Writes a c (xs ++ ys)
writes_then a b c xs ys v w =
    record {
      same_buffer = w.same_buffer ∙ v.same_buffer;
      size = omega (arith, v.size, w.size, length-append xs ys);
      leaves = w.leaves ∙ ap₂ (λ (l : List ℕ) (k : ℕ). sets l k ys) v.leaves v.size ∙ sym (sets_append xs ys a.out.now a.size);
    }

pub writes_same : (a b : Printer) (xs ys : List ℕ) → xs ≡ ys → Writes a b xs → Writes a b ys
writes_same a b xs ys e w = subst (Writes a b) e w

-- the buffer keeps its length
pub writes_length : (a b : Printer) (xs : List ℕ) → Writes a b xs → length b.out.now ≡ length a.out.now
writes_length a b xs w = ap length w.leaves ∙ length-sets a.out.now a.size xs

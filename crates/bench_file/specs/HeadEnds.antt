-- The ends of the first two lines.
use Rattle.std.specs.Prelude.{◌≡◌, ℕ, ◌+◌, ◌≤◌, ◌<◌, length, take, drop, List, [], ◌∷◌, ◌++◌}
use Rattle.std.proofs.Common.{sym, ap, subst, ◌∙◌, add_comm, arith, length-take, get_or-take, take-add, drop_at, append_assoc, append-nil}
use Rattle.meaning.specs.Tables.{at}
use Rattle.bench_file.specs.Text.{columns, numbers, line}
use Rattle.bench_file.specs.Layout.{Words, none, next, GoodHead, head_text}
use Rattle.bench_file.specs.Steps.{staged, head_of}
use Rattle.bench_file.specs.HeadLines.{InHead}
use Rattle.bench_file.specs.declared.reader.Stage.{Stage}
use Rattle.bench_file.specs.declared.reader.Reader.{Reader}

-- the bytes with the end of the line
line_text : (done ns bs : List ℕ) (c v : ℕ) → c ≡ 0 → bs ≡ done ++ numbers ns ++ columns c v → bs ++ (10 ∷ []) ≡ done ++ line ns
unfolding columns line
line_text done ns bs c v z e =
    ap (◌++ (10 ∷ [])) (e ∙ ap (λ (x : ℕ). done ++ numbers ns ++ columns x v) z ∙ append-nil (done ++ numbers ns))
    ∙ append_assoc done (numbers ns) (10 ∷ [])

-- the first line
pub first-line_ends : (bs : List ℕ) (r : Reader) (s : InHead [] [] bs r) → r.column ≡ 0
    → InHead (line s.ns) s.ns (bs ++ (10 ∷ [])) (staged Stage.SecondLine r)
unfolding numbers columns
first-line_ends bs r s z =
    record {
      ns = [];
      words = none;
      size = s.size;
      count = omega (arith, s.count);
      room = s.room;
      front = s.front ∙ sym (append-nil s.ns);
      narrow = s.narrow;
      small = s.small;
      text = line_text [] s.ns bs r.column r.shown z s.text
          ∙ sym (append-nil (line s.ns))
          ∙ sym (append-nil (line s.ns ++ []))
          ∙ ap (λ (x : ℕ). line s.ns ++ [] ++ columns x r.shown) (sym z);
    }

-- the second line: the lines are those of what the reader holds
pub record HeadRead (bs : List ℕ) (r : Reader) : Type 0 where
  pub good : GoodHead (head_of r)
  pub text : bs ≡ head_text (head_of r)

module _ (bs : List ℕ) (r : Reader) (z : r.column ≡ 0) (low : at r.head 2 ≤ 255) (few : at r.head 3 ≤ 20)
    (whole : r.got ≡ at r.head 3 + 4) where
  four_read : (a b c d : ℕ) → Words (a ∷ b ∷ c ∷ d ∷ []) → InHead (line (a ∷ b ∷ c ∷ d ∷ [])) (a ∷ b ∷ c ∷ d ∷ []) bs r
      → HeadRead (bs ++ (10 ∷ [])) r
  unfolding head_text
  four_read a b c d (next wa (next wb (next wc (next wd none)))) s =
      record {
        good = subst GoodHead (sym same)
            (record { width_word = wa; total_word = wb; low = omega (arith, degree); few = omega (arith, fourth, count); words = s.words });
        text = line_text (line (a ∷ b ∷ c ∷ d ∷ [])) s.ns bs r.column r.shown z s.text
            ∙ ap (λ (x : ℕ). line (a ∷ b ∷ c ∷ x ∷ []) ++ line s.ns) count
            ∙ sym (ap head_text same);
      }
    where
      entry : (i : ℕ) → i < r.got → at r.head i ≡ at (a ∷ b ∷ c ∷ d ∷ s.ns) i
      entry i h = sym (get_or-take r.got r.head i 0 h) ∙ ap (λ (x : List ℕ). at x i) s.front

      degree : at r.head 2 ≡ c
      degree = entry 2 (omega arith)

      fourth : at r.head 3 ≡ d
      fourth = entry 3 (omega arith)

      size : r.got ≡ 4 + length s.ns
      size = s.count

      count : d ≡ length s.ns
      count = omega (arith, fourth, size)

      front : take 4 r.head ++ take (at r.head 3) (drop 4 r.head) ≡ a ∷ b ∷ c ∷ d ∷ s.ns
      front = sym (take-add 4 (at r.head 3) r.head) ∙ ap (λ (x : ℕ). take x r.head) (add_comm 4 (at r.head 3) ∙ sym whole) ∙ s.front

      support : take (at r.head 3) (drop 4 r.head) ≡ s.ns
      support =
          sym (drop_at (take 4 r.head) (take (at r.head 3) (drop 4 r.head)) 4 (simp length-take (omega (arith, s.size))))
          ∙ ap (drop 4) front

      same : head_of r ≡ record { width = a; total = b; degree = c; support = s.ns }
      same = λ i. record { width = entry 0 (omega arith) i; total = entry 1 (omega arith) i; degree = degree i; support = support i }

  pub second_line_ends : (fs : List ℕ) → length fs ≡ 4 → Words fs → InHead (line fs) fs bs r → HeadRead (bs ++ (10 ∷ [])) r
  second_line_ends [] e w s = absurd (omega arith)
  second_line_ends (a ∷ []) e w s = absurd (omega arith)
  second_line_ends (a ∷ b ∷ []) e w s = absurd (omega arith)
  second_line_ends (a ∷ b ∷ c ∷ []) e w s = absurd (omega arith)
  second_line_ends (a ∷ b ∷ c ∷ d ∷ []) e w s = four_read a b c d w s
  second_line_ends (a ∷ b ∷ c ∷ d ∷ f ∷ fs) e w s = absurd (omega arith)

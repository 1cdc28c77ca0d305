-- A table copied, transformed modulo 2^64 and cut to a width is the box transformed at the width. At width 64 there is nothing to cut.
use Rattle.std.specs.Prelude.{◌≡◌, refl, ℕ, ◌%◌, ◌^◌, ◌≤◌, ◌<◌, min, cond, List, eqb, length}
use Rattle.std.proofs.Common.{sym, ap, ◌∙◌, mod-eq_of_lt}
use Rattle.std.proofs.Math.Nat.{min-eq_left, min-eq_right}
use borrow.Author.Tests.{eq-eqb}
use Rattle.meaning.specs.Tables.{tabulate, at}
use Rattle.meaning.specs.Boxes.{cells}
use Rattle.theory.specs.Tables.{eq-tabulate}
use Rattle.theory.specs.AlongEach.{Line}
use Rattle.lines.specs.Transforms.{transformed, box_of, OfMul}
use Rattle.lines.specs.TransformLaws.{cut-transformed}

-- each number modulo 2^w
abbrev cut : ℕ → List ℕ → List ℕ
cut w u = tabulate (length u) (λ i. at u i % 2 ^ min w 64)

module _ (line : ℕ → Line) (of_mul : OfMul line) (w : ℕ) (ds c : List ℕ) {t u : List ℕ} (h : w ≤ 64) (whole : length c ≡ cells ds) (first : t ≡ c)
    (second : u ≡ cond (eqb (length t) (cells ds)) (transformed line (2 ^ 64) ds t) t) where
  pub box_of_cut : cut w u ≡ box_of line (2 ^ w) ds c
  box_of_cut =
      ap (λ (k : ℕ). tabulate (length u) (λ i. at u i % 2 ^ k)) (min-eq_left h)
      ∙ ap (λ (u : List ℕ). tabulate (length u) (λ i. at u i % 2 ^ w)) (second ∙ all)
      ∙ cut-transformed line of_mul w ds c h whole
    where
      all : cond (eqb (length t) (cells ds)) (transformed line (2 ^ 64) ds t) t ≡ transformed line (2 ^ 64) ds c
      all = rw (first, eq-eqb (length c) (cells ds) whole)

  pub box_of_words : 64 ≤ w → ((i : ℕ) → at u i < 2 ^ 64) → u ≡ box_of line (2 ^ w) ds c
  box_of_words l small =
      eq-tabulate u (length u) (λ i. at u i % 2 ^ min w 64) refl
      (λ i p. sym (ap (λ (k : ℕ). at u i % 2 ^ k) (min-eq_right l) ∙ mod-eq_of_lt (small i)))
      ∙ box_of_cut

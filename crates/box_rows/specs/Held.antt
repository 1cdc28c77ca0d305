-- What the calls leave and answer for tables of a box, one number for each cell, of 65,536 cells at most, and widths to 64.
use Rattle.std.specs.Prelude.{◌≡◌, ℕ, ◌≤◌, min, Bool, true, cond, ◌&&◌, List, length, ◌==◌}
use Rattle.std.proofs.Common.{sym, ◌∙◌, ap, ap₂, le_trans, le_of_eq, le-leb, eq-eqb}
use Rattle.std.proofs.Math.Nat.{min-eq_left}
use Rattle.meaning.specs.Boxes.{cells}
use Rattle.meaning.specs.Values.{bound, box_total, box_reduced}
use Rattle.meaning.specs.Recovery.{every}
use Rattle.box_rows.specs.Rows.{holds}
use Rattle.box_rows.specs.Bounds.{is_below, is_equal}

pub holds_of : (ds : List ℕ) (n : ℕ) → n ≡ cells ds → cells ds ≤ 65536 → holds ds n ≡ true
holds_of ds n e h = ap₂ ◌&&◌ (le-leb n 65536 (le_trans (le_of_eq e) h)) (eq-eqb n (cells ds) e)

module _ (ds : List ℕ) (w : ℕ) (small : cells ds ≤ 65536) (width : w ≤ 64) where
  pub sum-held : (a b out left : List ℕ) → length a ≡ cells ds → length b ≡ cells ds → length out ≡ cells ds
      → left ≡ cond (length a == length out && length b == length out && holds ds (length out)) (box_total (bound (min w 64)) ds a b) out
      → left ≡ box_total (bound w) ds a b
  sum-held a b out left x y z e =
      let both : (length a == length out && length b == length out) ≡ true =
      ap₂ ◌&&◌ (eq-eqb (length a) (length out) (x ∙ sym z)) (eq-eqb (length b) (length out) (y ∙ sym z)) in
      e
      ∙ ap₂ (λ (p q : Bool). cond (p && q) (box_total (bound (min w 64)) ds a b) out) both (holds_of ds (length out) z small)
      ∙ ap (λ (k : ℕ). box_total (bound k) ds a b) (min-eq_left width)

  pub reduce_held : (t left : List ℕ) → length t ≡ cells ds → left ≡ cond (holds ds (length t)) (box_reduced (bound (min w 64)) ds t) t
      → left ≡ box_reduced (bound w) ds t
  reduce_held t left x e =
      e
      ∙ ap (λ (p : Bool). cond p (box_reduced (bound (min w 64)) ds t) t) (holds_of ds (length t) x small)
      ∙ ap (λ (k : ℕ). box_reduced (bound k) ds t) (min-eq_left width)

  pub bounded_held : (c : List ℕ) (r : Bool) → length c ≡ cells ds → r ≡ (holds ds (length c) && every (cells ds) (is_below (min w 64) ds c))
      → r ≡ every (cells ds) (is_below w ds c)
  bounded_held c r x e =
      e
      ∙ ap (◌&& every (cells ds) (is_below (min w 64) ds c)) (holds_of ds (length c) x small)
      ∙ ap (λ (k : ℕ). every (cells ds) (is_below k ds c)) (min-eq_left width)

  pub agree_held : (a b : List ℕ) (r : Bool) → length a ≡ cells ds → length b ≡ cells ds
      → r ≡ (length b == length a && holds ds (length a) && every (cells ds) (is_equal (min w 64) ds a b)) → r ≡ every (cells ds) (is_equal w ds a b)
  agree_held a b r x y e =
      e
      ∙ ap₂ (λ (p q : Bool). p && q && every (cells ds) (is_equal (min w 64) ds a b)) (eq-eqb (length b) (length a) (y ∙ sym x))
      (holds_of ds (length a) x small)
      ∙ ap (λ (k : ℕ). every (cells ds) (is_equal k ds a b)) (min-eq_left width)

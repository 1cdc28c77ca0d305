-- The chunks of the values: a table that is read from a place on gives the part there, and then the rest behind it.
use Rattle.std.proofs.Common.{◌≡◌, ℕ, ◌+◌, ◌-◌, ◌≤◌, List, ◌++◌, length, take, drop, sym, ap, ◌∙◌, arith, length-append, length-drop}
use Rattle.std.proofs.Math.Seq.{take-append_seam, drop-append_seam}
use Rattle.std.proofs.lemmas.List.{drop-drop}
use Rattle.theory.specs.Parts.{part}

module _ (v x rest : List ℕ) (from size : ℕ) (within : from ≤ length v) (read : drop from v ≡ x ++ rest) (long : length x ≡ size) where
  pub chunk_fits : from + size ≤ length v
  chunk_fits = omega (arith, length-drop from v, ap length read, length-append x rest, long)

  pub chunk_part : x ≡ part from (from + size) v
  chunk_part =
      let e : length x ≡ from + size - from = omega (arith, long) in
      sym (take-append_seam x rest) ∙ ap (take (length x)) (sym read) ∙ ap (λ (n : ℕ). take n (drop from v)) e

  pub chunk_rest : rest ≡ drop (from + size) v
  chunk_rest =
      sym (drop-append_seam x rest) ∙ ap (drop (length x)) (sym read) ∙ drop-drop (length x) from v ∙ ap (λ (n : ℕ). drop (from + n) v) long

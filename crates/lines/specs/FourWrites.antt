-- The four numbers of a line of degree 3, written to four places of a table: the first and the last one before the others.
use Rattle.std.specs.Prelude.{◌≡◌, ℕ, ◌<◌, ◌≢◌, List, length, slice_set}
use Rattle.std.proofs.Common.{◌∙◌, length-set, get_or-set_same, get_or-set_other}
use Rattle.meaning.specs.Tables.{at}

module _ (t : List ℕ) (p q r s a b c d : ℕ) where
  abbrev pub written : List ℕ
  written = slice_set (slice_set (slice_set (slice_set t p a) s d) q b) r c

  pub length-written : length written ≡ length t
  length-written = simp length-set

  pub at-other : (x : ℕ) → x ≢ p → x ≢ q → x ≢ r → x ≢ s → at written x ≡ at t x
  at-other x u v w z = get_or-set_other _ r x c 0 w ∙ get_or-set_other _ q x b 0 v ∙ get_or-set_other _ s x d 0 z ∙ get_or-set_other t p x a 0 u

  pub at-first : p ≢ q → p ≢ r → p ≢ s → p < length t → at written p ≡ a
  at-first v w z h = get_or-set_other _ r p c 0 w ∙ get_or-set_other _ q p b 0 v ∙ get_or-set_other _ s p d 0 z ∙ get_or-set_same t p a 0 h

  pub at-second : q ≢ r → q < length t → at written q ≡ b
  at-second w h = get_or-set_other _ r q c 0 w ∙ get_or-set_same _ q b 0 (simp length-set h)

  pub at-third : r < length t → at written r ≡ c
  at-third h = get_or-set_same _ r c 0 (simp length-set h)

  pub at-last : s ≢ q → s ≢ r → s < length t → at written s ≡ d
  at-last v w h = get_or-set_other _ r s c 0 w ∙ get_or-set_other _ q s b 0 v ∙ get_or-set_same (slice_set t p a) s d 0 (rw (length-set t p a) h)

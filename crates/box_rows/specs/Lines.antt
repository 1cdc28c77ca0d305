-- The bits and the mask along a line: from one entry to the next they lose the twos in its number.
use Rattle.std.specs.Prelude.{◌≡◌, ℕ, ◌+◌, ◌-◌, ◌/◌, ◌^◌, ◌≤◌, min, refl}
use Rattle.std.proofs.Common.{◌∙◌, ap, arith}
use Rattle.std.proofs.Math.Nat.{min-eq_left}
use Rattle.meaning.specs.Factorials.{factorial, twos_of, twos}
use Rattle.theory.specs.Twos.{twos-factorial}
use Rattle.box_rows.specs.Rows.{mask-less}

-- the bits that are left at entry i of a line, and the mask
abbrev pub LineBits : ℕ → ℕ → ℕ → Type 0
LineBits w i bits = bits ≡ w - twos (factorial i)

abbrev pub LineMask : ℕ → ℕ → ℕ → Type 0
LineMask w i mask = mask ≡ 2 ^ (w - twos (factorial i)) - 1

pub line_full : (w : ℕ) → LineBits w 0 w
unfolding factorial twos twos_of
line_full w = omega arith

pub line-start : (w mask : ℕ) → w ≤ 64 → mask ≡ 2 ^ min w 64 - 1 → LineMask w 0 mask
line-start w mask h e = e ∙ ap (λ (k : ℕ). 2 ^ k - 1) (min-eq_left h ∙ line_full w)

pub line_bits : (w i bits more : ℕ) → LineBits w i bits → more ≡ bits - twos (i + 1) → LineBits w (i + 1) more
line_bits w i bits more e m = omega (arith, m, twos-factorial i)

pub line_next : (w i mask t : ℕ) → LineMask w i mask → t ≡ twos (i + 1) → LineMask w (i + 1) (mask / 2 ^ t)
line_next w i mask t e s =
    ap (◌/ 2 ^ t) e
    ∙ mask-less (w - twos (factorial i)) t
    ∙ ap (λ (k : ℕ). 2 ^ k - 1) (line_bits w i _ _ refl (ap (w - twos (factorial i) -◌) s))

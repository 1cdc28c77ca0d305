-- The bits of a coefficient that count.
use Rattle.std.specs.Prelude.{ℕ, ◌-◌, cond, nat_le, Option, None, Some}

-- the width less the weight, none where the weight is the width or more
abbrev pub precision : ℕ → ℕ → Option ℕ
precision weight width = cond (nat_le width weight) None (Some (width - weight))

-- the bits of an answer, 0 where there are none
abbrev pub bits_of : Option ℕ → ℕ
bits_of (Some n) = n
bits_of None = 0

-- What a call says: the number of its refusal, or 0, and a value, which is 0 with a refusal.
use Rattle.std.specs.Prelude.{ℕ, Bool, ◌&&◌, leb}

pub record Reply : Type 0 where
  pub number : ℕ
  pub value : ℕ

-- a returned number and a stored value
abbrev pub told : ℕ → ℕ → Reply
told n v = record { number = n; value = v }

-- the call is accepted, with the value v
abbrev pub accepted : ℕ → Reply
accepted v = record { number = 0; value = v }

-- the call is turned down with the number n
abbrev pub refused : ℕ → Reply
refused n = record { number = n; value = 0 }

-- low ≤ n ≤ high
abbrev pub between : ℕ → ℕ → ℕ → Bool
between low high n = leb low n && leb n high

-- Factorials, falling factorials, and the twos and the odd part of a number.
use Rattle.std.specs.Prelude.{ℕ, zero, suc, ◌*◌, ◌-◌, ◌/◌, ◌%◌, ◌^◌, true, false, leb}

-- 1 × 2 × .. × n
unfoldable pub factorial : ℕ → ℕ
factorial zero = 1
factorial (suc n) = suc n * factorial n

-- x (x - 1) .. (x - n + 1), for a natural number x. Where n is above x the factor 0 is among them, so that a difference cut at 0 does no harm.
unfoldable pub falling : ℕ → ℕ → ℕ
falling x zero = 1
falling x (suc n) = falling x n * (x - n)

-- the least number of leading factors of x (x - 1) (x - 2) .. whose product is zero modulo m, from i on and with n tries at most
unfoldable pub taken_from : ℕ → ℕ → ℕ → ℕ → ℕ
unfolding falling
taken_from m x zero i = i
taken_from m x (suc n) i = elim (falling x i % m) [ zero ↦ i | suc r ↦ taken_from m x n (suc i) ]

-- how many of n factors are taken: the least number of leading ones whose product is zero modulo 2^w, or all n where there is none
unfoldable pub taken : ℕ → ℕ → ℕ → ℕ
unfolding taken_from
taken w x n = taken_from (2 ^ w) x n 0

-- how often 2 divides n, looking at d binary digits at most
unfoldable pub twos_of : ℕ → ℕ → ℕ
twos_of zero n = 0
twos_of (suc d) n = elim (n % 2) [ zero ↦ suc (twos_of d (n / 2)) | suc r ↦ 0 ]

-- how often 2 divides n. A number n above 0 has at most n digits.
unfoldable pub twos : ℕ → ℕ
unfolding twos_of
twos n = twos_of n n

-- what is left of n without its twos
unfoldable pub odd_part : ℕ → ℕ
odd_part n = n / 2 ^ twos n

-- the least d, from i on and with n tries at most, whose factorial has w twos
unfoldable pub cap_from : ℕ → ℕ → ℕ → ℕ
cap_from w zero i = i
cap_from w (suc n) i = elim (leb w (twos (factorial i))) [ true ↦ i | false ↦ cap_from w n (suc i) ]

-- the least d whose factorial has w twos: every second factor is even, so that 2 w is enough
unfoldable pub degree_cap_of : ℕ → ℕ
unfolding cap_from
degree_cap_of w = cap_from w (2 * w) 0

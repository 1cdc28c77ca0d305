-- Products of a table's numbers, of which a table of inverses makes the inverses of cells.
use Rattle.std.specs.Prelude.{◌≡◌, ℕ, ◌*◌, ◌%◌, ◌^◌, ◌<◌, List, [], ◌∷◌, ◌++◌, get_or, refl}
use Rattle.std.proofs.Common.{ap, sym, ◌∙◌, mul-one, arith, mod-eq_of_lt}
use Rattle.std.proofs.Math.Pow.{pow-lt}
use Rattle.meaning.specs.Factorials.{factorial, twos_of, twos, odd_part}
use Rattle.meaning.specs.Inverses.{inverse}
use Rattle.theory.specs.Congruence.{cong_refl}
use Rattle.theory.specs.Inverses.{inverse_unique}
use Rattle.multivar_poly_recovery.specs.Extracted.{Inverses}

-- v times the entries of t at the exponents, modulo 2^64; an exponent past its end changes nothing
abbrev pub times : List ℕ → ℕ → List ℕ → ℕ
times t v [] = v
times t v (e ∷ es) = times t ((v * get_or t e 1) % 2 ^ 64) es

-- one exponent more at the end
pub times_more : (t : List ℕ) (v : ℕ) (es : List ℕ) (e : ℕ) → times t v (es ++ (e ∷ [])) ≡ (times t v es * get_or t e 1) % 2 ^ 64
times_more t v [] e = refl
times_more t v (x ∷ es) e = times_more t ((v * get_or t x 1) % 2 ^ 64) es e

times_small : (t : List ℕ) (v : ℕ) (es : List ℕ) → v < 2 ^ 64 → times t v es < 2 ^ 64
times_small t v [] h = h
times_small t v (e ∷ es) h = times_small t ((v * get_or t e 1) % 2 ^ 64) es (omega arith)

-- 1 is its own inverse
pub inverse_one : 1 ≡ inverse 1 64
inverse_one = inverse_unique 1 64 1 refl (record { unit = cong_refl 1; small = pow-lt {i = 0} {j = 64} (omega arith) })

-- where t has inverses, the exponent 0 changes nothing
zeroth_entry : (t : List ℕ) → Inverses t → get_or t 0 1 ≡ 1
unfolding factorial twos twos_of odd_part
zeroth_entry [] serve = refl
zeroth_entry (x ∷ t) serve = serve 0 (omega arith) ∙ sym inverse_one

pub times_zeroth : (t : List ℕ) → Inverses t → (es : List ℕ) → times t 1 (es ++ (0 ∷ [])) ≡ times t 1 es
times_zeroth t serve es =
    times_more t 1 es 0
    ∙ ap (λ (v : ℕ). (times t 1 es * v) % 2 ^ 64) (zeroth_entry t serve)
    ∙ ap (◌% 2 ^ 64) (mul-one (times t 1 es))
    ∙ mod-eq_of_lt (times_small t 1 es (omega arith))

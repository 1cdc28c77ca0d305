-- Lines that are left as they are, such as those of degree 0 and 1 by both conversions, whose only pass has the difference 0.
use Rattle.std.specs.Prelude.{◌≡◌, ℕ, zero, suc, ◌+◌, ◌*◌, ◌/◌, ◌%◌, ◌^◌, ◌<◌, ◌≤◌, List, length, refl}
use Rattle.std.proofs.Common.{sym, ap, ◌∙◌, add_assoc, div-add-mod', mod-lt, mod-eq_of_lt, zero-lt-suc, le_of_suc-le-suc, arith, pow_pos}
use Rattle.meaning.specs.Tables.{tabulate, at}
use Rattle.meaning.specs.Stirling.{falling_line, power_line}
use Rattle.theory.specs.Tables.{eq-tabulate}
use Rattle.theory.specs.AlongEach.{Line}
use Rattle.lines.specs.FlatTables.{blocked, in_block}
use Rattle.theory.specs.Nodes.{passed, rewritten}
use Rattle.lines.specs.NodeConversions.{to_falling, to_powers, minus-zero, node_line-falling, node_line_power}

-- a change of nodes whose first difference is 0
rewritten-low : (d : ℕ) (δ : ℕ → ℕ → ℕ) (c : ℕ → ℕ) (j : ℕ) → δ 0 0 ≡ 0 → d ≤ 1 → rewritten d δ c j ≡ c j
unfolding rewritten passed
rewritten-low zero δ c j none low = refl
rewritten-low (suc zero) δ c zero none low = omega (arith, ap (◌* c 1) none)
rewritten-low (suc zero) δ c (suc j) none low = refl
rewritten-low (suc (suc d)) δ c j none low = absurd (omega arith)

-- lines of degree d are left
abbrev pub Leaves : Line → ℕ → Type 0
Leaves line d = (c : ℕ → ℕ) (j : ℕ) → j ≤ d → line d c j ≡ c j % 2 ^ 64

-- by a conversion
pub falling_low : (d : ℕ) → d ≤ 1 → Leaves (falling_line (2 ^ 64)) d
falling_low d low c j h = sym (node_line-falling (2 ^ 64) d c j h) ∙ ap (◌% 2 ^ 64) (rewritten-low d to_falling c j refl low)

pub power_low : (d : ℕ) → d ≤ 1 → Leaves (power_line (2 ^ 64)) d
power_low d low c j h =
    sym (node_line_power (pow_pos 64) d c j h) ∙ ap (◌% 2 ^ 64) (rewritten-low d (to_powers (2 ^ 64)) c j (minus-zero (2 ^ 64)) low)

-- a table of words is left along a variable whose lines are left
pub left-blocked : (line : Line) (s d : ℕ) (t : List ℕ) → Leaves line d → 0 < s → ((i : ℕ) → at t i < 2 ^ 64)
    → t ≡ tabulate (length t) (blocked line s d (at t))
unfolding blocked
left-blocked line s d t left pos small =
    eq-tabulate t (length t) (blocked line s d (at t)) refl λ i p.
    sym
    (left _ (i / s % suc d) (le_of_suc-le-suc (mod-lt (i / s) (zero-lt-suc d)))
    ∙ ap (λ (j : ℕ). at t j % 2 ^ 64) (place i)
    ∙ mod-eq_of_lt (small i))
  where
    place : (i : ℕ) → i / (s * suc d) * (s * suc d) + i / s % suc d * s + i % s ≡ i
    place i = add_assoc _ _ _ ∙ ap (λ (r : ℕ). i / (s * suc d) * (s * suc d) + r) (sym (in_block s d pos i)) ∙ div-add-mod' i (s * suc d)

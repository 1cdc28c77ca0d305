-- The numbers that a pass of a conversion sets, with the product reduced first.
use Rattle.std.specs.Prelude.{◌≡◌, ℕ, suc, ◌+◌, ◌*◌, ◌%◌, ◌<◌, List}
use Rattle.std.proofs.Common.{ap, ◌∙◌, add-one}
use Rattle.meaning.specs.Tables.{tabulate}
use Rattle.meaning.specs.Differences.{minus}
use Rattle.theory.specs.Congruence.{cong_refl, cong_add-left, mod-cong, minus_cong}
use Rattle.theory.specs.Tables.{eq-tabulate}
use Rattle.lines.specs.InPlace.{Shows}
use Rattle.lines.specs.NodeConversions.{minus-mul}

-- by a factor k
pub sum_with_product : {p v : ℕ} (m k a x : ℕ) → p ≡ (k * x) % m → v ≡ (a + p) % m → v ≡ (a + k * x) % m
sum_with_product m k a x e h = h ∙ ap (λ y. (a + y) % m) e ∙ (cong_add-left a (mod-cong m (k * x))).same

pub difference_with_product : {p v : ℕ} (m k a x : ℕ) → 0 < m → p ≡ (k * x) % m → v ≡ minus m a p → v ≡ (a + minus m 0 k * x) % m
difference_with_product m k a x pos e h = h ∙ ap (minus m a) e ∙ minus_cong pos (cong_refl a) (mod-cong m (k * x)) ∙ minus-mul pos a k x

-- by the factor k + 1
pub sum_of_product : {p v : ℕ} (m k a x : ℕ) → p ≡ ((k + 1) * x) % m → v ≡ (a + p) % m → v ≡ (a + suc k * x) % m
sum_of_product m k a x e = sum_with_product m (suc k) a x (e ∙ ap (λ y. (y * x) % m) (add-one k))

pub difference_of_product : {p v : ℕ} (m k a x : ℕ) → 0 < m → p ≡ ((k + 1) * x) % m → v ≡ minus m a p → v ≡ (a + minus m 0 (suc k) * x) % m
difference_of_product m k a x pos e = difference_with_product m (suc k) a x pos (e ∙ ap (λ y. (y * x) % m) (add-one k))

-- a table that shows a function is its table
pub eq-tabulate_of_shows : {f : ℕ → ℕ} {n : ℕ} {t : List ℕ} → Shows f n t → t ≡ tabulate n f
eq-tabulate_of_shows {f} {n} {t} r = eq-tabulate t n f r.same r.entry

-- The limits and the steps of a row of partners.
use Rattle.std.specs.Prelude.{List, ℕ, map}
use Rattle.sameness.specs.declared.partner.Partner.{Partner}

abbrev pub limits_of : List Partner → List ℕ
limits_of ps = map (λ p. p.limit) ps

abbrev pub steps_of : List Partner → List ℕ
steps_of ps = map (λ p. p.step) ps

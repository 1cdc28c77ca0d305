-- What is lent to a walk.
use Rattle.std.specs.Prelude.{◌≡◌, List, ℕ, ◌+◌, ◌*◌, ◌≤◌, ◌<◌, length}
use Rattle.meaning.specs.Boxes.{cells}
use Rattle.sameness.specs.Places.{far}

-- a degree for each of 1 to 20 support variables, and a coefficient for each of at most 65,536 cells
pub record Boxed (support ds c : List ℕ) : Type 0 where
  pub some : 0 < length support
  pub few : length support ≤ 20
  pub each : length ds ≡ length support
  pub whole : length c ≡ cells ds
  pub size : cells ds ≤ 65536

-- a box with a limit and a step for each variable, and a place from which all places of the walk stay low
pub record Walkable (ds c limits steps : List ℕ) (bits place : ℕ) : Type 0 where
  pub some : 0 < length ds
  pub whole : length c ≡ cells ds
  pub size : length c ≤ 65536
  pub limited : length limits ≡ length ds
  pub stepped : length steps ≡ length ds
  pub few : bits ≤ 64
  pub low : place + length ds * far ≤ 20 * far

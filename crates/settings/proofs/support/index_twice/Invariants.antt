-- The loop keeps: some index stands twice exactly when one of the part from the place on is marked or stands twice in it. An index is below 20, so that it has a
-- mark.
use Rattle.std.specs.Prelude.{◌≡◌, length, drop}
use Rattle.meaning.specs.Settings.{repeated}
use Rattle.settings.specs.Indices.{again}
use Rattle.settings.proofs.support.index_twice.Given as goal

abbrev pub invariant-loop-index : goal.invariant-loop-index
invariant-loop-index l = (repeated l.support ≡ again l.seen (drop l.index-index l.support)) × (length l.seen ≡ 20)

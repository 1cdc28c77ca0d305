-- What becomes of a block when each of its lines is transformed, and the passes over it.
use Rattle.std.specs.Prelude.{ℕ, suc, ◌*◌, ◌^◌, List, length}
use Rattle.meaning.specs.Tables.{tabulate, at}
use Rattle.theory.specs.AlongEach.{Line}
use Rattle.lines.specs.declared.block.Block.{Block}
use Rattle.lines.specs.FlatTables.{lined}
use Rattle.lines.specs.NodePasses.{Passed}
use Rattle.lines.specs.NodeOrders.{Opened}

-- how many numbers a block has
abbrev pub size : Block → ℕ
size b = b.stride * suc b.degree

-- a block with its lines transformed
abbrev pub block_of : Line → Block → List ℕ → List ℕ
block_of line b t = tabulate (length t) (lined line b.stride b.degree (at t))

-- a change of nodes modulo 2^64, the first pass first: from the passes before k to those before l, whatever numbers f the block had before all of them
abbrev pub Passes : (ℕ → ℕ → ℕ) → Block → (k l : ℕ) → List ℕ → List ℕ → Type 0
Passes δ b k l t u =
    (f : ℕ → ℕ) → Passed (2 ^ 64) δ b.stride b.degree f (length t) k t → Passed (2 ^ 64) δ b.stride b.degree f (length t) l u

-- and the last one first: from the passes down to k to those down to l
abbrev pub Opens : (ℕ → ℕ → ℕ) → Block → (k l : ℕ) → List ℕ → List ℕ → Type 0
Opens δ b k l t u =
    (f : ℕ → ℕ) → Opened (2 ^ 64) δ b.stride b.degree f (length t) k t → Opened (2 ^ 64) δ b.stride b.degree f (length t) l u

-- passes follow passes
pub opens_follow : {δ : ℕ → ℕ → ℕ} (b : Block) {k l n : ℕ} {t u v : List ℕ} → Opens δ b k l t u → Opens δ b l n u v → Opens δ b k n t v
opens_follow b first second f r = let come = first f r in (rw come.shows.same at (second f)) come

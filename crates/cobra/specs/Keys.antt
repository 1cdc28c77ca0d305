-- What is asked of a key's table besides what `mono` asks.
use Rattle.std.specs.Prelude.{ℕ, Bool, cond, List, eqb, length}
use Rattle.meaning.specs.Replies.{Reply, refused}

-- 9 where the table does not have twenty bytes
abbrev pub twenty : List ℕ → ℕ
twenty key = cond (eqb (length key) 20) 0 9

-- 11 where the number of variables is out of range, then 9, then mono's reply
abbrev pub keyed : Bool → List ℕ → Reply → Reply
keyed fits key r = cond fits (cond (eqb (length key) 20) r (refused 9)) (refused 11)

-- The passes of a move: the number that a turn sets, with the products reduced first, two passes within a block, and the block when all passes are made.
use Rattle.std.proofs.Common.{◌≡◌, ℕ, suc, ◌+◌, ◌*◌, ◌/◌, ◌%◌, ◌^◌, ◌<◌, ◌≤◌, List, ◌∙◌, le_of_suc-le-suc}
use Rattle.meaning.specs.Tables.{tabulate}
use Rattle.theory.specs.Congruence.{cong_of_eq, cong_trans, cong_add, cong_add-left, mod-cong}
use Rattle.theory.specs.Tables.{eq-tabulate}
use Rattle.theory.specs.AlongEach.{Line}
use Rattle.theory.specs.Nodes.{node_line}
use Rattle.lines.specs.FlatTables.{lined}
use Rattle.lines.specs.InPlace.{Shows, index_lt}
use Rattle.theory.specs.MovedLines.{shift}
use Rattle.lines.specs.NodeOrders.{Opened, Opening, opens_done}
use Rattle.moves.specs.NodePairs.{Pairing}

pub sum_with_products : {p q v r : ℕ} (m k l a x y : ℕ) → p ≡ (k * x) % m → q ≡ (l * y) % m → r ≡ (p + q) % m → v ≡ (a + r) % m
    → v ≡ (a + (k * x + l * y)) % m
sum_with_products {p} {q} {v} {r} m k l a x y e f g h =
    h
    ∙ (cong_add-left a (cong_trans (cong_of_eq m g)
    (cong_trans (mod-cong m (p + q)) (cong_add (cong_trans (cong_of_eq m e) (mod-cong m (k * x))) (cong_trans (cong_of_eq m f) (mod-cong m (l * y))))))).same

-- two passes come from place i to place j of a block of n numbers, whatever numbers f it had before all passes
abbrev pub Come : (a s d n done i j : ℕ) → List ℕ → List ℕ → Type 0
Come a s d n done i j t u =
    (f : ℕ → ℕ) → Pairing (2 ^ 64) (shift (2 ^ 64) a) s d f n done i t → Pairing (2 ^ 64) (shift (2 ^ 64) a) s d f n done j u

-- a pass at a place that is written otherwise
pub opening_at : {m : ℕ} {δ : ℕ → ℕ → ℕ} {s d : ℕ} {f : ℕ → ℕ} {n k i j : ℕ} {t : List ℕ} → i ≡ j → Opening m δ s d f n k j t → Opening m δ s d f n k i t
opening_at e o = rw e o

-- after pass 0 the block is done, for every line that is the change of nodes
pub opened-lined : {m : ℕ} {δ : ℕ → ℕ → ℕ} {s d : ℕ} {f : ℕ → ℕ} {n : ℕ} {t : List ℕ} → 0 < s → n ≡ s * suc d → (line : Line)
    → ((c : ℕ → ℕ) (j : ℕ) → j ≤ d → node_line m δ d c j ≡ line d c j) → Opened m δ s d f n 0 t → t ≡ tabulate n (lined line s d f)
unfolding lined
opened-lined {m} {δ} {s} {d} {f} {n} {t} pos whole line alike r =
    let shown : Shows (lined (node_line m δ) s d f) n t = opens_done pos whole r in
    eq-tabulate t n _ shown.same
    (λ i p. shown.entry i p ∙ alike _ (i / s) (le_of_suc-le-suc (index_lt s pos (suc d) i (rw whole at p))))

-- Transforms of a line by a matrix of numbers modulo m, done along every variable of a box. Along all variables such a transform is the evaluation by
-- the matrix, so that each law follows from the law of one variable: it depends on the numbers modulo m only; modulo a multiple of n and then
-- reduced it is the transform modulo n; and where two matrices are inverse to one another, so are the transforms of a box.
use Rattle.std.specs.Prelude.{◌≡◌, ℕ, suc, ◌*◌, ◌%◌, ◌≤◌, ◌<◌, List, [], ◌∷◌}
use Rattle.std.proofs.Common.{ap, ◌∙◌, suc-le-suc, mod-lt, mod-eq_of_lt}
use Rattle.meaning.specs.Tables.{tabulate, at}
use Rattle.meaning.specs.Sums.{sum}
use Rattle.meaning.specs.Boxes.{cells, digits, Within, none, next, along}
use Rattle.meaning.specs.Values.{Bounded}
use Rattle.meaning.specs.Differences.{grid}
use Rattle.theory.specs.Congruence.{Cong, cong_of_eq, cong_sym, cong_trans, cong_of_mul, mod-cong, eq_of_cong}
use Rattle.theory.specs.Tables.{tabulate_cong, length-tabulate, at-tabulate}
use Rattle.theory.specs.Boxes.{digits-within, cell-digits}
use Rattle.theory.specs.StirlingNumbers.{delta, sum-delta}
use Rattle.theory.specs.Evaluation.{eval, eval-nil, eval-cons, eval_cong, eval_cong_function, eval_change, each_of_all}
use Rattle.theory.specs.Values.{entry, entry-tabulate}
use Rattle.theory.specs.BoxConversions.{along_cong_eval}

-- the transform of a line by the matrix t
abbrev pub matrix_line : (ℕ → ℕ → ℕ) → ℕ → ℕ → (ℕ → ℕ) → ℕ → ℕ
matrix_line t m d c j = sum (suc d) (λ e. t j e * c e) % m

-- the transform of a box
abbrev pub matrix_box : (ℕ → ℕ → ℕ) → ℕ → List ℕ → List ℕ → List ℕ
matrix_box t m ds c = tabulate (cells ds) (λ n. along (matrix_line t m) ds (grid m ds c) (digits ds n))

-- ---- along every variable

-- it is the evaluation by the matrix
along-eval : {m : ℕ} (t : ℕ → ℕ → ℕ) {ds es : List ℕ} (v : List ℕ → ℕ) → Within ds es → Cong m (along (matrix_line t m) ds v es) (eval t ds v es)
along-eval {m} t v w = along_cong_eval (matrix_line t m) t v (λ d f j. mod-cong m _) w

-- it is below m
along-lt : {m : ℕ} (t : ℕ → ℕ → ℕ) {ds es : List ℕ} (v : List ℕ → ℕ) → 0 < m → ((xs : List ℕ) → v xs < m) → Within ds es →
    along (matrix_line t m) ds v es < m
unfolding along
along-lt t v pos start none = start []
along-lt {m} t v pos start (next {d} {e} p w) =
    along-lt t (λ xs. matrix_line t m d (λ x. v (x ∷ xs)) e) pos (λ xs. mod-lt (sum (suc d) (λ x. t e x * v (x ∷ xs))) pos) w

-- it depends on the numbers within the box, modulo m
pub along_cong : {m : ℕ} (t : ℕ → ℕ → ℕ) {ds es : List ℕ} (v u : List ℕ → ℕ) → ((xs : List ℕ) → Within ds xs → Cong m (v xs) (u xs)) →
    Within ds es → Cong m (along (matrix_line t m) ds v es) (along (matrix_line t m) ds u es)
along_cong t {ds} {es} v u same w = cong_trans (along-eval t v w) (cong_trans (eval_cong t ds es same) (cong_sym (along-eval t u w)))

-- modulo a multiple of n it is, modulo n, that of the matrix modulo n
pub along_of_mul : (n k : ℕ) (t s : ℕ → ℕ → ℕ) {ds es : List ℕ} (v : List ℕ → ℕ) → ((j e : ℕ) → Cong n (t j e) (s j e)) →
    Within ds es → Cong n (along (matrix_line t (n * k)) ds v es) (along (matrix_line s n) ds v es)
along_of_mul n k t s {ds} {es} v same w =
    cong_trans (cong_of_mul n k (along-eval t v w))
    (cong_trans (eval_cong_function v (each_of_all ds es (λ d j e l. same j e))) (cong_sym (along-eval s v w)))

-- the evaluation by ones on the diagonal
eval-delta : {ds es : List ℕ} (a : List ℕ → ℕ) → Within ds es → eval (λ j k. delta k j) ds a es ≡ a es
eval-delta a none = eval-nil _ a []
eval-delta a (next {d} {e} {ds} {es} p w) =
    eval-cons (λ j k. delta k j) d ds a (e ∷ es)
    ∙ sum-delta (suc d) e (λ k. eval (λ j k. delta k j) ds (λ ks. a (k ∷ ks)) es) (suc-le-suc p)
    ∙ eval-delta (λ ks. a (e ∷ ks)) w

-- s undoes t
abbrev pub Undoes : ℕ → (ℕ → ℕ → ℕ) → (ℕ → ℕ → ℕ) → Type 0
Undoes m s t = (d x k : ℕ) → k ≤ d → Cong m (sum (suc d) (λ j. s x j * t j k)) (delta k x)

pub along_undo : {m : ℕ} (s t : ℕ → ℕ → ℕ) {ds es : List ℕ} (a : List ℕ → ℕ) → Undoes m s t → Within ds es →
    Cong m (along (matrix_line s m) ds (along (matrix_line t m) ds a) es) (a es)
along_undo {m} s t {ds} {es} a undoes w =
    cong_trans (along-eval s (along (matrix_line t m) ds a) w)
    (cong_trans (eval_cong s ds es (λ xs u. along-eval t a u))
    (cong_trans (eval_change s t (λ j k. delta k j) a (each_of_all ds es undoes)) (cong_of_eq m (eval-delta a w))))

-- ---- boxes

-- a table's function on the grid has the table's entries, modulo m
pub grid_cong : (m : ℕ) (ds c xs : List ℕ) → Cong m (grid m ds c xs) (entry ds c xs)
unfolding grid
grid_cong m ds c xs = mod-cong m (entry ds c xs)

grid-lt : {m : ℕ} (ds c xs : List ℕ) → 0 < m → grid m ds c xs < m
unfolding grid
grid-lt ds c xs p = mod-lt _ p

grid-digits : (m : ℕ) (ds c : List ℕ) (i : ℕ) → i < cells ds → grid m ds c (digits ds i) ≡ at c i % m
unfolding grid
grid-digits m ds c i p = ap (λ n. at c n % m) (cell-digits ds i p)

-- the entries of the transformed box
pub entry-matrix_box : (t : ℕ → ℕ → ℕ) (m : ℕ) (ds c es : List ℕ) → Within ds es →
    entry ds (matrix_box t m ds c) es ≡ along (matrix_line t m) ds (grid m ds c) es
entry-matrix_box t m ds c es w = entry-tabulate ds (along (matrix_line t m) ds (grid m ds c)) es w

matrix_box-lt : {m : ℕ} (t : ℕ → ℕ → ℕ) (ds c es : List ℕ) → 0 < m → Within ds es → along (matrix_line t m) ds (grid m ds c) es < m
matrix_box-lt {m} t ds c es pos w = along-lt t (grid m ds c) pos (λ xs. grid-lt ds c xs pos) w

pub matrix_box_bounded : {m : ℕ} (t : ℕ → ℕ → ℕ) (ds c : List ℕ) → 0 < m → Bounded (λ es. m) ds (matrix_box t m ds c)
matrix_box_bounded t ds c pos =
    record {
      whole = length-tabulate (cells ds) _;
      below = λ n l. rw (at-tabulate (cells ds) _ n l) (matrix_box-lt t ds c (digits ds n) pos (digits-within ds n));
    }

-- a box transformed modulo a multiple of n, cell by cell and then reduced
module _ (n k : ℕ) (t s : ℕ → ℕ → ℕ) (same : (j e : ℕ) → Cong n (t j e) (s j e)) (ds c : List ℕ) where
  pub cell_of_mul : (es : List ℕ) → Within ds es → Cong n (along (matrix_line t (n * k)) ds (entry ds c) es) (along (matrix_line s n) ds (grid n ds c) es)
  cell_of_mul es w =
      cong_trans (along_of_mul n k t s (entry ds c) same w) (along_cong s (entry ds c) (grid n ds c) (λ xs u. cong_sym (grid_cong n ds c xs)) w)

  pub matrix_box_of_mul : 0 < n → tabulate (cells ds) (λ i. along (matrix_line t (n * k)) ds (entry ds c) (digits ds i) % n) ≡ matrix_box s n ds c
  matrix_box_of_mul pos =
      tabulate_cong (cells ds) _ _ λ i p.
      (cell_of_mul (digits ds i) (digits-within ds i)).same ∙ mod-eq_of_lt (matrix_box-lt s ds c (digits ds i) pos (digits-within ds i))

-- a box transformed there and back
pub matrix_box_undo : {m : ℕ} (s t : ℕ → ℕ → ℕ) (ds c : List ℕ) → 0 < m → Undoes m s t →
    matrix_box s m ds (matrix_box t m ds c) ≡ tabulate (cells ds) (λ i. at c i % m)
matrix_box_undo {m} s t ds c pos undoes =
    tabulate_cong (cells ds) _ _ λ i p.
    let w = digits-within ds i in
    eq_of_cong (matrix_box-lt s ds (matrix_box t m ds c) (digits ds i) pos w) (mod-lt (at c i) pos)
    (cong_trans
    (along_cong s (grid m ds (matrix_box t m ds c)) (along (matrix_line t m) ds (grid m ds c))
    (λ xs u. cong_trans (grid_cong m ds (matrix_box t m ds c) xs) (cong_of_eq m (entry-matrix_box t m ds c xs u))) w)
    (cong_trans (along_undo s t (grid m ds c) undoes w) (cong_of_eq m (grid-digits m ds c i p))))

-- The lines of a first variable: a line whose passes are all made is the moved line, and a table whose parts of several lines come back moved is moved along
-- its first variable.
use Rattle.std.proofs.Common.{◌≡◌, ℕ, zero, suc, ◌+◌, ◌-◌, ◌*◌, ◌/◌, ◌%◌, ◌<◌, ◌≤◌, List, length, sym, ap, ◌∙◌, le_of_suc-le-suc, add-zero, mul-le-mul_right, mod-lt, zero-lt-suc, div-lt_iff_lt-mul, one-mul, div-add-mod', le-div_iff_mul-le, mul-one, div-one, arith}
use Rattle.std.proofs.Math.Path.{fun_ext}
use Rattle.std.proofs.Math.Nat.{mod-one}
use Rattle.meaning.specs.Tables.{tabulate, at}
use Rattle.theory.specs.Tables.{length-tabulate, at-tabulate, tabulate_cong}
use Rattle.theory.specs.Parts.{part, put, length_part, at_part, filled_part}
use Rattle.theory.specs.AlongEach.{Line}
use Rattle.theory.specs.MovedLines.{shift, moved_line, node_line-moved}
use Rattle.lines.specs.FlatTables.{lined, blocked}
use Rattle.lines.specs.Neighbours.{Neighbours, first-at}
use Rattle.lines.specs.NodeOrders.{Opened, opened_of_table, opens_done}
use Rattle.moves.specs.NodeLines.{EachLine, Passes, Moves, line_at}
use Rattle.moves.specs.MoveLaws.{moved_line_local}

-- a single line is a block of stride 1
pub unit : (d : ℕ) → d ≡ 1 * d
unit d = omega arith

lined-one : (line : Line) (d : ℕ) (f : ℕ → ℕ) (x : ℕ) → lined line 1 d f x ≡ line d f x
unfolding lined
lined-one line d f x = simp (mul-one, mod-one, div-one, add-zero)

-- and a table of one line
pub single_line : (line : Line) (d : ℕ) (t : List ℕ) → length t ≡ suc d
    → tabulate (length t) (lined line 1 d (at t)) ≡ tabulate (length t) (blocked line 1 d (at t))
single_line line d t long =
    tabulate_cong (length t) _ _ (λ x h.
    lined-one line d (at t) x
    ∙ ap (λ (v : ℕ → ℕ). line d v x) (fun_ext λ y. ap (at t) (none y))
    ∙ sym (first-at line d (at t) 0 x (le_of_suc-le-suc (rw long at h)))
    ∙ ap (blocked line 1 d (at t)) (sym (none x)))
  where
    none : (y : ℕ) → y ≡ 0 * suc d + y
    none y = omega arith

module _ {m d : ℕ} (a : ℕ) (positive : 0 < m) {t t' : List ℕ} where
  -- all passes of every line are made
  pub lines_moved : ((i : ℕ) → at t i < m) → EachLine d (Passes m a d d 0) t t' → EachLine d (Moves m a d) t t'
  lines_moved small r = record { same = r.same; line = λ c fits x h. number c x h (r.line c fits (at (line_at d c t)) (begun c)) }
    where
      long : (c : ℕ) → length (line_at d c t) ≡ suc d
      long c = length-tabulate (suc d) _

      entry : (c x : ℕ) → x < length (line_at d c t) → at (line_at d c t) x < m
      entry c x h = rw (at-tabulate (suc d) (λ y. at t (c * suc d + y)) x (rw (← long c) h)) (small (c * suc d + x))

      begun : (c : ℕ) → Opened m (shift m a) 1 d (at (line_at d c t)) (suc d) d (line_at d c t)
      begun c = rw (long c) at (opened_of_table (shift m a) d (line_at d c t) (zero-lt-suc 0) (long c ∙ sym (one-mul (suc d))) (entry c))

      number : (c x : ℕ) → x ≤ d → Opened m (shift m a) 1 d (at (line_at d c t)) (suc d) 0 (line_at d c t')
          → at (line_at d c t') x ≡ moved_line m a d (at (line_at d c t)) x
      number c x h o =
          (opens_done (zero-lt-suc 0) (sym (one-mul (suc d))) o).entry x (omega arith)
          ∙ lined-one _ d _ x
          ∙ node_line-moved positive a d (at (line_at d c t)) x h

-- the lines before place `from` of t are moved; then the lines from there to e, which come back as ys, are moved too
pub lines_put : (m a : ℕ) {d : ℕ} {t₀ t : List ℕ} {from : ℕ} (e n : ℕ) (ys : List ℕ)
    → Neighbours (moved_line m a) d t₀ t from → e ≡ from + n * suc d → e ≤ length t
    → EachLine d (Moves m a d) (part from e t) ys → Neighbours (moved_line m a) d t₀ (put from e t ys) e
lines_put m a {d} {t₀} {t} {from} e n ys r next fits moved =
    record {
      count = r.count + n;
      place = omega (arith, r.place);
      filled = filled_part _ t₀ t from e ys r.filled (omega arith) fits (moved.same ∙ length_part from e t fits) entry;
    }
  where
    size : e - from ≡ n * suc d
    size = omega arith

    -- number x of line c of the part
    number : (c x : ℕ) → c < n → x ≤ d → at ys (c * suc d + x) ≡ blocked (moved_line m a) 1 d (at t₀) (from + (c * suc d + x))
    number c x h l =
        sym (at-tabulate (suc d) (λ y. at ys (c * suc d + y)) x (omega arith))
        ∙ moved.line c (rw (length_part from e t fits, size) (omega (arith, mul-le-mul_right (suc d) h))) x l
        ∙ moved_line_local m a d _ _ same x l
        ∙ sym (first-at (moved_line m a) d (at t₀) (r.count + c) x l)
        ∙ ap (blocked (moved_line m a) 1 d (at t₀)) (omega (arith, r.place))
      where
        same : (y : ℕ) → y ≤ d → at (line_at d c (part from e t)) y ≡ at t₀ ((r.count + c) * suc d + y)
        same y p =
            at-tabulate (suc d) _ y (omega arith)
            ∙ at_part from e t fits (c * suc d + y) (omega (arith, size, mul-le-mul_right (suc d) h))
            ∙ r.filled.above (from + (c * suc d + y)) (omega arith)
            ∙ ap (at t₀) (omega (arith, r.place))

    entry : (i : ℕ) → i < e - from → at ys i ≡ blocked (moved_line m a) 1 d (at t₀) (from + i)
    entry i h =
        let there : i / suc d * suc d + i % suc d ≡ i = div-add-mod' i (suc d) in
        rw there at
        (number (i / suc d) (i % suc d) ((div-lt_iff_lt-mul (zero-lt-suc d)).1 (rw (← size) h)) (le_of_suc-le-suc (mod-lt i (zero-lt-suc d))))

-- what is left behind so many whole lines is whole lines
pub lines_left : (d from count n : ℕ) → from ≡ count * suc d → from ≤ n → n % suc d ≡ 0 → n ≡ from + (n / suc d - count) * suc d
lines_left d from count n place h whole =
    let k : ℕ = n / suc d - count in
    let less : count ≤ n / suc d = (le-div_iff_mul-le (zero-lt-suc d)).1 (rw place at h) in
    let all : n / suc d ≡ count + k = omega arith in
    omega (arith, div-add-mod' n (suc d), ap (◌* suc d) all, whole, place)

-- and there is one where something is left
pub line-left : (d from k n : ℕ) → n ≡ from + k * suc d → from < n → from + suc d ≤ n
line-left d from zero n e h = absurd (omega arith)
line-left d from (suc k) n e h = omega arith

-- The last variable is counted first. Then the loop keeps: the counts are those of the variables from i on. Each turn takes the variable before them.
use Rattle.std.proofs.Common.{◌≡◌, refl, sym, ap, ◌∙◌, List, ℕ, suc, ◌-◌, ◌≤◌, ◌<◌, min, le_trans, le_of_eq, arith, length, drop}
use Rattle.meaning.specs.Tables.{tabulate, at}
use Rattle.meaning.specs.Sums.{sum}
use Rattle.meaning.specs.Boxes.{cells}
use Rattle.meaning.specs.Fit.{columns}
use Rattle.theory.specs.Tables.{length-tabulate}
use Rattle.room.proofs.RunningSums.{list_counts, list_counts_le, list_counts_one, list_counts_next}
use Rattle.room.proofs.counts.count_lists.Goals as goal

-- the counts of the last variable
last-counted : (ds t : List ℕ) (m n : ℕ) → n ≡ m → 0 < length ds → t ≡ tabulate m (λ s. suc (min (at ds (length ds - 1)) s)) →
    t ≡ list_counts ds n (length ds - 1)
last-counted ds t m n p h e =
    e
    ∙ ap (λ (n : ℕ). tabulate n (λ s. suc (min (at ds (length ds - 1)) s))) (sym p)
    ∙ list_counts_one ds n (length ds - 1) (omega arith)

module _ (ds now : List ℕ) (n i : ℕ) (known : now ≡ list_counts ds n i) where
  long : length now ≡ n
  long = ap length known ∙ length-tabulate n (λ s. length (columns (drop i ds) s))

  low : cells ds ≤ 65536 → (j : ℕ) → at now j ≤ 65536
  low h j = le_trans (le_of_eq (ap (λ (t : List ℕ). at t j) known)) (le_trans (list_counts_le ds n i j) h)

  -- the counts with the variable of the turn
  taken : 0 < i → i ≤ length ds → (t : List ℕ) → t ≡ tabulate (length now) (λ s. sum (suc (min (at ds (i - 1)) s)) (λ e. at now (s - e)))
      → t ≡ list_counts ds n (i - 1)
  taken p h t e =
      let before : i ≡ suc (i - 1) = omega arith in
      let there : i - 1 < length ds = omega arith in
      e
      ∙ ap (λ (l : ℕ). tabulate l (λ s. sum (suc (min (at ds (i - 1)) s)) (λ e. at now (s - e)))) long
      ∙ ap (λ (l : List ℕ). tabulate n (λ s. sum (suc (min (at ds (i - 1)) s)) (λ e. at l (s - e)))) (known ∙ ap (list_counts ds n) before)
      ∙ list_counts_next ds n (i - 1) there

pub loop-i-init : goal.loop-i-init
loop-i-init c = (
  last-counted c.args.degrees.now _ (length c.args.counts.now) (length c.args.next.now) c.requires.0 c.requires.2 c.count_one.ensures,
  refl,
)

pub add_variable-requires : goal.add_variable-requires
add_variable-requires c =
    let ds = c.args.degrees.now in
    let n = length c.args.next.now in
    let known = c.loop-i.invariant.0 in
    (c.loop-i.invariant.1 ∙ sym (long ds c.loop-i.counts n c.loop-i.i known), low ds c.loop-i.counts n c.loop-i.i known c.requires.1)

pub loop-i-preserved : goal.loop-i-preserved
loop-i-preserved c = (
  taken c.args.degrees.now c.loop-i.counts (length c.args.next.now) c.loop-i.i c.loop-i.invariant.0 c.loop-i-test.true (omega (arith, c.loop-i.auto.i)) _
      c.add_variable.ensures,
  omega (arith, c.add_variable.auto.next, c.loop-i.invariant.1),
)

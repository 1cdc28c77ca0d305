-- The loop over the rows of a column: its first rows cleared, by a part of the pivot row or by the whole, whatever state the tables showed.
use Rattle.std.proofs.Common.{◌≡◌, ℕ, suc, ◌+◌, ◌-◌, ◌*◌, ◌/◌, ◌^◌, ◌<◌, ◌≤◌, Bool, false, cond, ltb, List, length, get_or, sym, refl, ap, ◌∙◌, subst, zero-le, lt_irrefl, arith}
use Rattle.meaning.specs.Tables.{at}
use Rattle.meaning.specs.Inverses.{inverse}
use Rattle.meaning.specs.Factorials.{twos_of}
use Rattle.meaning.specs.Elimination.{State, step}
use Rattle.two_adic_solver.specs.ShownStates.{Shows}
use Rattle.two_adic_solver.specs.Shown.{cleared_row, stepped, Behind, Clearing, PivotPart}
use Rattle.two_adic_solver.proofs.ClearedLaws.{between, between-low, between_mid, between-high, RowCleared, unused, pivot_stays, stepped_none, stepped-all, pivot_part, row_small, rows_start, rows_done, rows_step}

-- a state that the tables show from column b on after the step of column c; t are the twos of its pivot, and its columns from a to b are next
pub record Bounded (w cols c p a t : ℕ) (used : List Bool) (mat₀ rhs₀ : List ℕ) (s : State) (b : ℕ) : Type 0 where
  pub clearing : Clearing w (length rhs₀) c p used s
  pub twos_eq : t ≡ twos_of w (s.entry p c)
  pub order : a ≤ b
  pub column : c < b
  pub shows : Shows (length rhs₀) cols (stepped w (length rhs₀) s c (λ i. b)) mat₀ rhs₀

-- the first k rows cleared from column a to a state's bound, whatever state the tables showed
pub record Cleared (w cols c a : ℕ) (Before : State → ℕ → Type 0) (mat₀ rhs₀ mat rhs : List ℕ) (k : ℕ) : Type 0 where
  pub same_matrix : length mat ≡ length mat₀
  pub same_right : length rhs ≡ length rhs₀
  pub within : k ≤ length rhs₀
  pub so_far : (s : State) (b : ℕ) → Before s b → Shows (length rhs₀) cols (stepped w (length rhs₀) s c (λ i. cond (ltb i k) a b)) mat rhs

module _ (w cols c p a t : ℕ) (used : List Bool) (Before : State → ℕ → Type 0) (mat₀ rhs₀ : List ℕ) (lp : p < length rhs₀)
    (bounded : (s : State) (b : ℕ) → Before s b → Bounded w cols c p a t used mat₀ rhs₀ s b) where
  pub cleared_start : Cleared w cols c a Before mat₀ rhs₀ mat₀ rhs₀ 0
  cleared_start =
      record {
        same_matrix = refl;
        same_right = refl;
        within = zero-le;
        so_far =
            λ s b h.
            let z = bounded s b h in
            rows_start w (length rhs₀) c p used s z.clearing lp a b z.order z.column cols mat₀ rhs₀ z.shows;
      }

  pub cleared_step : (mat rhs mat' rhs' : List ℕ) (k : ℕ) → Cleared w cols c a Before mat₀ rhs₀ mat rhs k → k < length rhs
      → length mat' ≡ length mat → length rhs' ≡ length rhs
      → ((s : State) (b : ℕ) (u : State) → Before s b → Shows (length rhs) cols u mat rhs → ((j : ℕ) → u.entry p j ≡ s.entry p j)
      → ((j : ℕ) → u.entry k j < 2 ^ w) → RowCleared w (length rhs) cols c p a b t k (get_or used k false) s u mat' rhs')
      → Cleared w cols c a Before mat₀ rhs₀ mat' rhs' (k + 1)
  cleared_step mat rhs mat' rhs' k r lk em er f =
      record {
        same_matrix = em ∙ r.same_matrix;
        same_right = er ∙ r.same_right;
        within = omega (arith, r.same_right);
        so_far =
            λ s b h.
            let z = bounded s b h in
            let u = stepped w (length rhs₀) s c (λ i. cond (ltb i k) a b) in
            rows_step w (length rhs₀) c p used s z.clearing lp a b z.order z.column t k cols mat' rhs' z.twos_eq
            (omega (arith, r.same_right))
            (subst (λ (n : ℕ). RowCleared w n cols c p a b t k (get_or used k false) s u mat' rhs') r.same_right
            (f s b u h (subst (λ (n : ℕ). Shows n cols u mat rhs) (sym r.same_right) (r.so_far s b h))
            (pivot_stays w (length rhs₀) c p used s z.clearing lp _)
            (row_small w (length rhs₀) c p used s z.clearing lp a b z.order z.column k)));
      }

  pub cleared_done : (mat rhs : List ℕ) (k : ℕ) → Cleared w cols c a Before mat₀ rhs₀ mat rhs k → length rhs ≤ k
      → (s : State) (b : ℕ) → Before s b → Shows (length rhs₀) cols (stepped w (length rhs₀) s c (λ i. a)) mat rhs
  cleared_done mat rhs k r l s b h =
      let z = bounded s b h in
      rows_done w (length rhs₀) c p used s z.clearing lp a b z.order z.column cols k mat rhs (omega (arith, r.same_right)) (r.so_far s b h)

-- ---- a part of the column

-- a state of which the tables show the columns behind the part as after the step; v is the inverse of its pivot's odd part
pub record Next (w cols c p end side t v : ℕ) (used : List Bool) (mat₀ rhs₀ : List ℕ) (s : State) (b : ℕ) : Type 0 where
  pub clearing : Clearing w (length rhs₀) c p used s
  pub twos_eq : t ≡ twos_of w (s.entry p c)
  pub inverse_eq : v ≡ inverse (s.entry p c / 2 ^ t) (w - t)
  pub behind : Behind w (length rhs₀) cols c p end side b s mat₀ rhs₀

module _ (w cols c p a end side t v : ℕ) (used : List Bool) (mat₀ rhs₀ : List ℕ) (lp : p < length rhs₀) (lc : c ≤ a) (la : a < end) where
  bounded : (s : State) (b : ℕ) → Next w cols c p end side t v used mat₀ rhs₀ s b → Bounded w cols c p a t used mat₀ rhs₀ s b
  bounded s b h =
      record {
        clearing = h.clearing;
        twos_eq = h.twos_eq;
        order = omega (arith, h.behind.above);
        column = omega (arith, h.behind.above);
        shows = h.behind.shows;
      }

  -- a row more, by the copy of the pivot row's part
  module _ (le : end ≤ cols) (src : List ℕ) (size : length src ≡ end - a) (copied : (k : ℕ) → k < end - a → at src k ≡ at mat₀ (p * cols + a + k)) where
    row : (s : State) (b : ℕ) → Next w cols c p end side t v used mat₀ rhs₀ s b → (k n : ℕ) (u : State) (mat' rhs' : List ℕ)
        → ((e : ℕ) (part : ℕ → ℕ) → PivotPart w cols a e t v src side part
        → Shows n cols (cleared_row (get_or used k false) w t e part c k u) mat' rhs')
        → RowCleared w n cols c p a b t k (get_or used k false) s u mat' rhs'
    row s b h k n u mat' rhs' f =
        record {
          pivot = s.entry p c;
          part = between a b (s.entry p);
          pivot_eq = refl;
          low = between-low a b (s.entry p);
          mid = between_mid a b (s.entry p);
          high = λ j l m. between-high a b (s.entry p) j (omega (arith, (bounded s b h).order)) l;
          shows =
              f (s.entry p c) (between a b (s.entry p))
              (pivot_part w (length rhs₀) c p used s h.clearing lp cols a end side b t v mat₀ rhs₀ src h.behind la le h.inverse_eq size copied);
        }

    pub part_step : (mat rhs mat' rhs' : List ℕ) (k : ℕ)
        → Cleared w cols c a (Next w cols c p end side t v used mat₀ rhs₀) mat₀ rhs₀ mat rhs k → k < length rhs
        → length mat' ≡ length mat → length rhs' ≡ length rhs
        → ((u : State) (e : ℕ) (part : ℕ → ℕ) → Shows (length rhs) cols u mat rhs → PivotPart w cols a e t v src side part
        → ((j : ℕ) → u.entry k j < 2 ^ w) → Shows (length rhs) cols (cleared_row (get_or used k false) w t e part c k u) mat' rhs')
        → Cleared w cols c a (Next w cols c p end side t v used mat₀ rhs₀) mat₀ rhs₀ mat' rhs' (k + 1)
    part_step mat rhs mat' rhs' k r lk em er f =
        cleared_step w cols c p a t used (Next w cols c p end side t v used mat₀ rhs₀) mat₀ rhs₀ lp bounded mat rhs mat' rhs' k r lk em er
        (λ s b u h g stays small. row s b h k (length rhs) u mat' rhs' (λ e part z. f u e part g z small))

  pub part_done : (mat rhs : List ℕ) (k : ℕ) → Cleared w cols c a (Next w cols c p end side t v used mat₀ rhs₀) mat₀ rhs₀ mat rhs k → length rhs ≤ k
      → (s : State) (b : ℕ) → Next w cols c p end side t v used mat₀ rhs₀ s b → Shows (length rhs₀) cols (stepped w (length rhs₀) s c (λ i. a)) mat rhs
  part_done = cleared_done w cols c p a t used (Next w cols c p end side t v used mat₀ rhs₀) mat₀ rhs₀ lp bounded

-- ---- the whole column at once

-- a state that the tables show; right sides are behind the columns
pub record Whole (w cols c p : ℕ) (used : List Bool) (mat₀ rhs₀ : List ℕ) (s : State) (b : ℕ) : Type 0 where
  pub shows : Shows (length rhs₀) cols s mat₀ rhs₀
  pub clearing : Clearing w (length rhs₀) c p used s
  pub bound : b ≡ suc cols

module _ (w cols c p t v x : ℕ) (used : List Bool) (mat₀ rhs₀ : List ℕ) (lp : p < length rhs₀) (lc : c < cols)
    (ex : x ≡ at mat₀ (p * cols + c)) (et : t ≡ twos_of w x) (ev : v ≡ inverse (x / 2 ^ t) (w - t)) where
  pivot_shown : (s : State) (b : ℕ) → Whole w cols c p used mat₀ rhs₀ s b → x ≡ s.entry p c
  pivot_shown s b h = ex ∙ h.shows.entries p c lp lc

  bounded-whole : (s : State) (b : ℕ) → Whole w cols c p used mat₀ rhs₀ s b → Bounded w cols c p c t used mat₀ rhs₀ s b
  bounded-whole s b h =
      record {
        clearing = h.clearing;
        twos_eq = et ∙ ap (twos_of w) (pivot_shown s b h);
        order = omega (arith, h.bound);
        column = omega (arith, h.bound);
        shows = stepped_none w (length rhs₀) c p used s h.clearing lp cols b mat₀ rhs₀ (omega (arith, h.bound)) h.shows;
      }

  whole_row : (s : State) (b : ℕ) → Whole w cols c p used mat₀ rhs₀ s b → (k n : ℕ) (u : State) (mat' rhs' : List ℕ)
      → ((j : ℕ) → u.entry p j ≡ s.entry p j)
      → (v ≡ inverse (u.entry p c / 2 ^ t) (w - t) → ((j : ℕ) → j < c → u.entry p j ≡ 0)
      → Shows n cols (cleared_row (get_or used k false) w t (u.entry p c) (u.entry p) c k u) mat' rhs')
      → RowCleared w n cols c p c b t k (get_or used k false) s u mat' rhs'
  whole_row s b h k n u mat' rhs' stays f =
      let zeros : (j : ℕ) → j < c → u.entry p j ≡ 0 = λ j l. stays j ∙ unused w (length rhs₀) c p used s h.clearing lp j l in
      record {
        pivot = u.entry p c;
        part = u.entry p;
        pivot_eq = stays c;
        low = zeros;
        mid = λ j l m. stays j;
        high = λ j l m. absurd (lt_irrefl j (omega (arith, l, m, h.bound)));
        shows = f (ev ∙ ap (λ (y : ℕ). inverse (y / 2 ^ t) (w - t)) (pivot_shown s b h ∙ sym (stays c))) zeros;
      }

  pub whole_start : Cleared w cols c c (Whole w cols c p used mat₀ rhs₀) mat₀ rhs₀ mat₀ rhs₀ 0
  whole_start = cleared_start w cols c p c t used (Whole w cols c p used mat₀ rhs₀) mat₀ rhs₀ lp bounded-whole

  pub whole_step : (mat rhs mat' rhs' : List ℕ) (k : ℕ) → Cleared w cols c c (Whole w cols c p used mat₀ rhs₀) mat₀ rhs₀ mat rhs k → k < length rhs
      → length mat' ≡ length mat → length rhs' ≡ length rhs
      → ((u : State) → Shows (length rhs) cols u mat rhs → v ≡ inverse (u.entry p c / 2 ^ t) (w - t) → ((j : ℕ) → u.entry k j < 2 ^ w)
      → ((j : ℕ) → j < c → u.entry p j ≡ 0)
      → Shows (length rhs) cols (cleared_row (get_or used k false) w t (u.entry p c) (u.entry p) c k u) mat' rhs')
      → Cleared w cols c c (Whole w cols c p used mat₀ rhs₀) mat₀ rhs₀ mat' rhs' (k + 1)
  whole_step mat rhs mat' rhs' k r lk em er f =
      cleared_step w cols c p c t used (Whole w cols c p used mat₀ rhs₀) mat₀ rhs₀ lp bounded-whole mat rhs mat' rhs' k r lk em er
      (λ s b u h g stays small. whole_row s b h k (length rhs) u mat' rhs' stays (λ e zeros. f u g e small zeros))

  -- the bound at the column itself
  pub whole_done : (mat rhs : List ℕ) (k : ℕ) → Cleared w cols c c (Whole w cols c p used mat₀ rhs₀) mat₀ rhs₀ mat rhs k → length rhs ≤ k
      → (s : State) → Shows (length rhs₀) cols s mat₀ rhs₀ → Clearing w (length rhs₀) c p used s → Shows (length rhs₀) cols (step w (length rhs₀) s c) mat rhs
  whole_done mat rhs k r l s g z =
      stepped-all w (length rhs₀) c p used s z lp cols c mat rhs (omega arith) (λ j l m. absurd (lt_irrefl j (omega (arith, l, m))))
      (cleared_done w cols c p c t used (Whole w cols c p used mat₀ rhs₀) mat₀ rhs₀ lp bounded-whole mat rhs k r l s (suc cols)
      (record { shows = g; clearing = z; bound = refl }))

-- A column cleared part after part of its pivot row, the last one first: tables that show a state then show the next one.
use Rattle.std.proofs.Common.{◌≡◌, ℕ, suc, ◌+◌, ◌-◌, ◌*◌, ◌/◌, ◌^◌, ◌<◌, ◌≤◌, Bool, List, length, sym, refl, ap, ◌∙◌, subst, le_refl, lt_irrefl, lt_of_not-le, arith}
use Rattle.std.proofs.Math.Nat.{zero-mod}
use Rattle.std.proofs.Math.Decide.{dec_le}
use Rattle.meaning.specs.Tables.{at}
use Rattle.meaning.specs.Factorials.{twos_of}
use Rattle.meaning.specs.Inverses.{inverse}
use Rattle.meaning.specs.Elimination.{State, step}
use Rattle.theory.specs.Trailing.{twos_of_full}
use Rattle.theory.specs.Parts.{part}
use Rattle.two_adic_solver.specs.ShownStates.{Shows}
use Rattle.two_adic_solver.specs.Shown.{stepped, Behind, Clearing}
use Rattle.two_adic_solver.proofs.RowLaws.{span_zeros}
use Rattle.two_adic_solver.proofs.ClearedLaws.{stepped_none, stepped-all}

-- the parts behind `end` are done
pub record Cut (w rows cols c p end side : ℕ) (s : State) (mat rhs : List ℕ) : Type 0 where
  pub bound : ℕ
  pub behind : Behind w rows cols c p end side bound s mat rhs

-- and so for whatever state the tables showed
pub record Parted (w cols c p : ℕ) (used : List Bool) (mat₀ rhs₀ mat rhs : List ℕ) (side end : ℕ) : Type 0 where
  pub same_matrix : length mat ≡ length mat₀
  pub same_right : length rhs ≡ length rhs₀
  pub low : c ≤ end
  pub high : end ≤ cols
  pub so_far : (s : State) → Shows (length rhs₀) cols s mat₀ rhs₀ → Clearing w (length rhs₀) c p used s → Cut w (length rhs₀) cols c p end side s mat rhs

module _ (w cols c p : ℕ) (used : List Bool) (mat₀ rhs₀ : List ℕ) (lp : p < length rhs₀) (lc : c < cols) where
  module _ (n : ℕ) (fits : p * cols + cols ≤ length mat₀) (some : twos_of w (at mat₀ (p * cols + c)) < w) (within : c + n ≤ cols)
      (zeros : (j : ℕ) → n ≤ j → at (part (p * cols + c) (p * cols + cols) mat₀) j ≡ 0) where
    -- the pivot's entry is not 0
    more : c < c + n
    more = go (dec_le n 0)
      where
        go : Dec (n ≤ 0) → c < c + n
        go (no l) = omega (arith, lt_of_not-le l)
        go (yes l) =
            let none : at mat₀ (p * cols + c) ≡ 0 = span_zeros (p * cols + c) (p * cols + cols) n mat₀ fits zeros (p * cols + c) (omega arith) (omega arith) in
            absurd (lt_irrefl w (rw (ap (twos_of w) none ∙ twos_of_full w 0 (zero-mod (2 ^ w))) at some))

    pub parted_start : Parted w cols c p used mat₀ rhs₀ mat₀ rhs₀ (at rhs₀ p) (c + n)
    parted_start =
        record {
          same_matrix = refl;
          same_right = refl;
          low = omega arith;
          high = within;
          so_far =
              λ s h r.
              record {
                bound = suc cols;
                behind =
                    record {
                      above = omega arith;
                      zeros =
                          λ j l m k.
                          sym (h.entries p j lp k)
                          ∙ span_zeros (p * cols + c) (p * cols + cols) n mat₀ fits zeros (p * cols + j) (omega arith) (omega arith);
                      inside = λ l. h.rights p lp;
                      outside = λ l. absurd (lt_irrefl cols l);
                      begun = λ l. more;
                      shows = stepped_none w (length rhs₀) c p used s r lp cols (suc cols) mat₀ rhs₀ (le_refl (suc cols)) h;
                    };
              };
        }

  -- one part more, from column a on
  pub parted_step : (x t v : ℕ) → x ≡ at mat₀ (p * cols + c) → t ≡ twos_of w x → v ≡ inverse (x / 2 ^ t) (w - t)
      → (mat rhs mat' rhs' : List ℕ) (side end a : ℕ) → Parted w cols c p used mat₀ rhs₀ mat rhs side end → c ≤ a → a < end
      → length mat' ≡ length mat → length rhs' ≡ length rhs
      → ((s : State) (b : ℕ) → Clearing w (length rhs) c p used s → t ≡ twos_of w (s.entry p c) → v ≡ inverse (s.entry p c / 2 ^ t) (w - t)
      → Behind w (length rhs) cols c p end side b s mat rhs → Shows (length rhs) cols (stepped w (length rhs) s c (λ i. a)) mat' rhs')
      → Parted w cols c p used mat₀ rhs₀ mat' rhs' 0 a
  parted_step x t v ex et ev mat rhs mat' rhs' side end a r ca ae em er f =
      record {
        same_matrix = em ∙ r.same_matrix;
        same_right = er ∙ r.same_right;
        low = ca;
        high = omega (arith, r.high);
        so_far =
            λ s h z.
            let e : x ≡ s.entry p c = ex ∙ h.entries p c lp lc in
            let k = r.so_far s h z in
            record {
              bound = a;
              behind =
                  record {
                    above = le_refl a;
                    zeros = λ j l m k. absurd (lt_irrefl j (omega (arith, l, m)));
                    inside = λ l. absurd (lt_irrefl cols (omega (arith, l, r.high)));
                    outside = λ l. refl;
                    begun = λ l. absurd (lt_irrefl cols (omega (arith, l, r.high)));
                    shows =
                        subst (λ (n : ℕ). (s : State) (b : ℕ) → Clearing w n c p used s → t ≡ twos_of w (s.entry p c)
                        → v ≡ inverse (s.entry p c / 2 ^ t) (w - t) → Behind w n cols c p end side b s mat rhs
                        → Shows n cols (stepped w n s c (λ i. a)) mat' rhs') r.same_right f s k.bound z (et ∙ ap (twos_of w) e)
                        (ev ∙ ap (λ (y : ℕ). inverse (y / 2 ^ t) (w - t)) e) k.behind;
                  };
            };
      }

  pub parted_done : (mat rhs : List ℕ) (side end : ℕ) → Parted w cols c p used mat₀ rhs₀ mat rhs side end → end ≤ c
      → (s : State) → Shows (length rhs₀) cols s mat₀ rhs₀ → Clearing w (length rhs₀) c p used s
      → Shows (length rhs₀) cols (step w (length rhs₀) s c) mat rhs
  parted_done mat rhs side end r l s h z =
      stepped-all w (length rhs₀) c p used s z lp cols b mat rhs (whole (dec_le b cols))
      (λ j m q. k.behind.zeros j (omega (arith, m)) q (omega (arith, q, whole (dec_le b cols)))) k.behind.shows
    where
      k : Cut w (length rhs₀) cols c p end side s mat rhs
      k = r.so_far s h z

      b : ℕ
      b = k.bound

      whole : Dec (b ≤ cols) → b ≤ cols
      whole (yes m) = m
      whole (no m) = absurd (lt_irrefl c (omega (arith, k.behind.begun (lt_of_not-le m), l)))

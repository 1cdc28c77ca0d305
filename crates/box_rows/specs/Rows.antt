-- The masks of the cells of a row, which is the box of the first variables.
use Rattle.std.specs.Prelude.{◌≡◌, ℕ, suc, ◌+◌, ◌-◌, ◌*◌, ◌/◌, ◌%◌, ◌^◌, ◌<◌, ◌≤◌, min, Bool, true, false, cond, ◌&&◌, leb, List, [], ◌∷◌, ◌++◌, length, take, ◌==◌, ◌≢◌, nat_eq, nat_le, refl, Some, None, if◌then◌else◌}
use Rattle.std.specs.Int.{w64}
use Rattle.std.specs.Int.Count.{count_trailing_zeros}
use Rattle.std.proofs.Common.{sym, ◌∙◌, true≢false, mul_assoc, mul_comm, lt_of_not-le, arith, pow_pos, length-take, take-take, leb-true, le-leb, ne_eqb, eqb-true, ap, mod-eq_of_lt}
use Rattle.std.proofs.Math.Nat.{div-eq_of_lt}
use Rattle.std.proofs.Math.Decide.{dec_le}
use Rattle.std.proofs.Math.Pow.{pow-lt}
use Rattle.std.proofs.Math.Seq.{take-length}
use Rattle.std.proofs.lemmas.Bool.{lt-leb}
use Rattle.std.proofs.lemmas.Nat.Bits.{bit_at-trailing_zeros}
use Rattle.meaning.specs.Tables.{at}
use Rattle.meaning.specs.Factorials.{factorial, twos_of, twos}
use Rattle.meaning.specs.Boxes.{cells, digits}
use Rattle.meaning.specs.Values.{weight, bound}
use Rattle.theory.specs.Tables.{length-tabulate}
use Rattle.theory.specs.Words.{mask-shifted}
use Rattle.theory.specs.LastVariable.{others, length-others, weight-append}
use Rattle.theory.specs.Twos.{twos-factorial, trailing_eq-twos}
use Rattle.box_rows.specs.Layouts.{cell_number_of, numbered, at_numbered}

-- a box of 65,536 cells at most, and n of them
abbrev pub holds : List ℕ → ℕ → Bool
holds ds n = nat_le n 65536 && n == cells ds

-- the mask of a cell with the given exponents: as many ones as bits are left of 64
abbrev pub mask : List ℕ → ℕ
mask es = bound 64 es - 1

-- the mask of cell n
abbrev pub mask_at : List ℕ → ℕ → ℕ
mask_at ds n = mask (digits ds n)

-- the masks of the cells of the box of ds stand in a table
abbrev pub Laid : List ℕ → List ℕ → Type 0
Laid ds masks = (n : ℕ) → n < cells ds → at masks n ≡ mask_at ds n

-- the first variables of ds make its rows, and the masks of a row stand in a table
pub record Rowed (first : ℕ) (ds masks : List ℕ) : Type 0 where
  pub within : first ≤ length ds
  pub room : cells (take first ds) ≤ length masks
  pub laid : Laid (take first ds) masks

-- a table with the masks put into it
abbrev pub laid_out : List ℕ → List ℕ → List ℕ
laid_out ds t = numbered mask ds t

-- how many of the first variables have 256 cells or fewer together with the `size` cells of those before them
unfoldable pub row_variables : ℕ → List ℕ → ℕ
row_variables size [] = 0
row_variables size (d ∷ ds) = elim (nat_le (size * suc d) 256) [ true ↦ suc (row_variables (size * suc d) ds) | false ↦ 0 ]

-- a number of 65,536 at most is the number of cells exactly if it is their number cut above that
pub equal_cells : (n k c : ℕ) → n ≤ 65536 → c ≡ min k 65537 → (n == c) ≡ (nat_le n 65536 && n == k)
equal_cells n k c h e = ap (nat_eq n) e ∙ go (dec_le k 65536) ∙ sym (ap (◌&& nat_eq n k) (le-leb n 65536 h))
  where
    go : Dec (k ≤ 65536) → (n == min k 65537) ≡ (n == k)
    go (yes p) = let cut : min k 65537 ≡ k = omega arith in ap (nat_eq n) cut
    go (no p) = ne_eqb n (min k 65537) (λ z. omega arith) ∙ sym (ne_eqb n k (λ z. omega arith))

pub holds-cells : (ds : List ℕ) (n : ℕ) → holds ds n ≡ true → n ≡ cells ds
holds-cells ds n e = eqb-true n (cells ds) (go (nat_le n 65536) e)
  where
    go : (b : Bool) → (b && n == cells ds) ≡ true → (n == cells ds) ≡ true
    go true e = e
    go false e = absurd (true≢false (sym e))

-- ---- the variables of a row

module _ (size d : ℕ) (ds : List ℕ) where
  -- one variable more
  pub row_next : size * suc d ≤ 256 → row_variables size (d ∷ ds) ≡ suc (row_variables (size * suc d) ds)
  unfolding row_variables
  row_next h = ap (λ (b : Bool). elim b [ true ↦ suc (row_variables (size * suc d) ds) | false ↦ 0 ]) (le-leb (size * suc d) 256 h)

  -- no more
  pub row_stop : 256 < size * suc d → row_variables size (d ∷ ds) ≡ 0
  unfolding row_variables
  row_stop h = ap (λ (b : Bool). elim b [ true ↦ suc (row_variables (size * suc d) ds) | false ↦ 0 ]) (lt-leb (size * suc d) 256 h)

pub row_within : (size : ℕ) (ds : List ℕ) → row_variables size ds ≤ length ds
unfolding row_variables
row_within size [] = omega arith
row_within size (d ∷ ds) = go (nat_le (size * suc d) 256) (row_within (size * suc d) ds)
  where
    go : (b : Bool) → row_variables (size * suc d) ds ≤ length ds → elim b [ true ↦ suc (row_variables (size * suc d) ds) | false ↦ 0 ] ≤ suc (length ds)
    go true h = omega arith
    go false h = omega arith

pub row_small : (size : ℕ) (ds : List ℕ) → size ≤ 256 → size * cells (take (row_variables size ds) ds) ≤ 256
unfolding row_variables cells
row_small size [] h = omega arith
row_small size (d ∷ ds) h = go (nat_le (size * suc d) 256) refl (row_small (size * suc d) ds)
  where
    go : (b : Bool) → nat_le (size * suc d) 256 ≡ b → (size * suc d ≤ 256 → size * suc d * cells (take (row_variables (size * suc d) ds) ds) ≤ 256)
        → size * cells (take (elim b [ true ↦ suc (row_variables (size * suc d) ds) | false ↦ 0 ]) (d ∷ ds)) ≤ 256
    go true e f =
        let n = cells (take (row_variables (size * suc d) ds) ds) in
        let order : size * (n * suc d) ≡ size * suc d * n = ap (size *◌) (mul_comm n (suc d)) ∙ sym (mul_assoc size (suc d) n) in
        rw order (f (leb-true (size * suc d) 256 e))
    go false e f = omega arith

-- the cells of a row
pub row_cells : (ds : List ℕ) → cells (take (row_variables 1 ds) ds) ≤ 256
row_cells ds = omega (arith, row_small 1 ds (omega arith))

-- the table that is laid out has the masks
pub laid_of : (ds t masks : List ℕ) → cells ds ≤ length t → masks ≡ laid_out ds t → Laid ds masks
laid_of ds t masks h e = at_numbered mask ds t masks h e

-- a row of any numbers that is laid out has them
pub row_numbered : (F : List ℕ → ℕ) (ds t m : List ℕ) → length t ≡ 256
    → m ≡ cond (nat_le 256 (length t)) (numbered F (take (row_variables 1 ds) ds) t) t
    → (n : ℕ) → n < cells (take (row_variables 1 ds) ds) → at m n ≡ cell_number_of F (take (row_variables 1 ds) ds) n
row_numbered F ds t m long e =
    let row = take (row_variables 1 ds) ds in
    let out : m ≡ numbered F row t = e ∙ ap (λ (b : Bool). cond b (numbered F row t) t) (le-leb 256 (length t) (omega (arith, long))) in
    at_numbered F row t m (rw long (row_cells ds)) out

-- ---- boxes of rows

-- the rows that are laid out
pub rowed_of : (ds t masks : List ℕ) (first : ℕ) → length t ≡ 256 → first ≡ cond (nat_le 256 (length t)) (row_variables 1 ds) 0
    → masks ≡ cond (nat_le 256 (length t)) (laid_out (take first ds) t) t → Rowed first ds masks
rowed_of ds t masks first long e m =
    let enough : leb 256 (length t) ≡ true = le-leb 256 (length t) (omega arith) in
    let count : first ≡ row_variables 1 ds = e ∙ ap (λ (b : Bool). cond b (row_variables 1 ds) 0) enough in
    let out : masks ≡ laid_out (take first ds) t = m ∙ ap (λ (b : Bool). cond b (laid_out (take first ds) t) t) enough in
    let small : cells (take first ds) ≤ length t = rw (count, long) (row_cells ds) in
    record { within = rw count (row_within 1 ds); room = rw (out, length-tabulate) small; laid = laid_of (take first ds) t masks small out }

-- where their number is an option
pub rows_counted : (ds t : List ℕ) (first : ℕ) → length t ≡ 256 → Some first ≡ (if leb 256 (length t) then Some (row_variables 1 ds) else None)
    → first ≡ row_variables 1 ds
rows_counted ds t first long e =
    let enough : leb 256 (length t) ≡ true = le-leb 256 (length t) (omega (arith, long)) in
    let some : Some first ≡ Some (row_variables 1 ds) = e ∙ ap (λ (b : Bool). if b then Some (row_variables 1 ds) else None) enough in
    cc

-- the same, so counted
pub rows_laid : (ds t masks : List ℕ) (first : ℕ) → length t ≡ 256 → Some first ≡ (if leb 256 (length t) then Some (row_variables 1 ds) else None)
    → masks ≡ cond (nat_le 256 (length t)) (laid_out (take (row_variables 1 ds) ds) t) t → Rowed first ds masks
rows_laid ds t masks first long e m =
    let enough : leb 256 (length t) ≡ true = le-leb 256 (length t) (omega (arith, long)) in
    let count = rows_counted ds t first long e in
    rowed_of ds t masks first long (count ∙ sym (ap (λ (b : Bool). cond b (row_variables 1 ds) 0) enough))
    (m ∙ ap (λ (k : ℕ). cond (nat_le 256 (length t)) (laid_out (take k ds) t) t) (sym count))

-- rows of one cell, of no variables
pub rowed_alone : (ds : List ℕ) → Rowed 0 ds (0xffff_ffff_ffff_ffff ∷ [])
unfolding cells digits bound weight
rowed_alone ds =
    record {
      within = omega arith;
      room = omega arith;
      laid =
          λ n h.
          let z : n ≡ 0 = omega arith in
          ap (λ (i : ℕ). at (0xffff_ffff_ffff_ffff ∷ []) i) z;
    }

-- a box that is one row
pub rowed_whole : (first : ℕ) (ds masks : List ℕ) → Rowed first ds masks → length ds ≡ first → Laid ds masks × (cells ds ≤ length masks)
rowed_whole first ds masks r e =
    let all : take first ds ≡ ds = ap (λ (n : ℕ). take n ds) (sym e) ∙ take-length ds in
    (rw all at r.laid, rw all at r.room)

-- the sub-boxes of a box of more rows
pub rowed_others : (first : ℕ) (ds masks : List ℕ) → Rowed first ds masks → (length ds ≢ first) → Rowed first (others ds) masks
rowed_others first ds masks r h =
    let less : first < length ds = omega (arith, r.within, h) in
    let same : take first (others ds) ≡ take first ds = take-take first (length ds - 1) ds (omega arith) in
    record { within = rw (length-others ds (omega arith)) (omega arith); room = rw same r.room; laid = rw same r.laid }

-- a box whose rows are given by their degrees, which are the first of the box
module _ (row ds : List ℕ) (begins : row ≡ take (length row) ds) where
  pub begins_short : length row ≤ length ds
  begins_short = omega (arith, ap length begins, length-take (length row) ds)

  -- where it has more rows, its sub-boxes begin with the same
  pub begins_others : (length ds ≢ length row) → row ≡ take (length row) (others ds)
  begins_others h = begins ∙ sym (take-take (length row) (length ds - 1) ds (omega (arith, begins_short, h)))

-- ---- the masks

-- an exponent 0 at the end takes no bits
pub mask_zeroth : (es : List ℕ) → mask (es ++ (0 ∷ [])) ≡ mask es
unfolding bound weight factorial twos twos_of
mask_zeroth es =
    let same : weight (es ++ (0 ∷ [])) ≡ weight es = omega (arith, weight-append es (0 ∷ [])) in
    ap (λ (k : ℕ). 2 ^ (64 - k) - 1) same

-- a mask shifted right, by any number of places
pub mask-less : (w t : ℕ) → (2 ^ w - 1) / 2 ^ t ≡ 2 ^ (w - t) - 1
mask-less w t = go (dec_le t w)
  where
    go : Dec (t ≤ w) → (2 ^ w - 1) / 2 ^ t ≡ 2 ^ (w - t) - 1
    go (yes h) = mask-shifted w t h
    go (no h) =
        let none : w - t ≡ 0 = omega arith in
        div-eq_of_lt (omega (arith, pow_pos w, pow-lt (lt_of_not-le h))) ∙ sym (ap (λ (k : ℕ). 2 ^ k - 1) none)

-- an exponent e at the end takes its twos, which are the zeros at the end of its 64 bits, from the mask of the exponent before
pub mask_more : (es : List ℕ) (e : ℕ) → 0 < e → e < 2 ^ 64 → mask (es ++ (e ∷ [])) ≡ mask (es ++ ((e - 1) ∷ [])) / 2 ^ (count_trailing_zeros 64 e % 64)
unfolding bound weight
mask_more es e some small =
    let a = weight-append es (e ∷ []) in
    let b = weight-append es ((e - 1) ∷ []) in
    let after : e - 1 + 1 ≡ e = omega (arith, some) in
    let more : twos (factorial e) ≡ twos (factorial (e - 1)) + twos e = rw after at (twos-factorial (e - 1)) in
    let less : 64 - weight (es ++ (e ∷ [])) ≡ 64 - weight (es ++ ((e - 1) ∷ [])) - twos e = omega (arith, a, b, more) in
    let places : count_trailing_zeros 64 e % 64 ≡ twos e = mod-eq_of_lt (bit_at-trailing_zeros w64 e some small).0 ∙ trailing_eq-twos 64 e some small in
    rw places (ap (λ (k : ℕ). 2 ^ k - 1) less ∙ sym (mask-less (64 - weight (es ++ ((e - 1) ∷ []))) (twos e)))

-- the mask of a cell of a row where w bits are left
pub row_mask : (w : ℕ) (es : List ℕ) → w ≤ 64 → (bound 64 es - 1) / 2 ^ (64 - w) ≡ bound w es - 1
unfolding bound
row_mask w es h =
    let left : (64 - weight es) - (64 - w) ≡ w - weight es = omega arith in
    mask-less (64 - weight es) (64 - w) ∙ ap (λ (k : ℕ). 2 ^ k - 1) left

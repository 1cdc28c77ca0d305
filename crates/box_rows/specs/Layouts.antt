-- Tables with a number for each cell of a row, made variable by variable: with one variable more, of degree d, the cells of exponent e are those of exponent
-- 0 with e behind. The number of a cell is a function F of its exponents that does not count an exponent 0 at the end.
use Rattle.std.specs.Prelude.{◌≡◌, ℕ, suc, ◌+◌, ◌*◌, ◌<◌, ◌≤◌, Bool, cond, nat_lt, List, [], ◌∷◌, ◌++◌, length, take, refl}
use Rattle.std.proofs.Common.{sym, ◌∙◌, ap, mul_comm, mul-le-mul_right, add-one, take-suc, lt-ltb, arith}
use Rattle.meaning.specs.Tables.{tabulate, at}
use Rattle.meaning.specs.Boxes.{cells, digits}
use Rattle.theory.specs.Tables.{Filled, at-tabulate}
use Rattle.theory.specs.LastVariable.{cells-snoc, digits-snoc}

-- the number of cell n of the box of ds
abbrev pub cell_number_of : (List ℕ → ℕ) → List ℕ → ℕ → ℕ
cell_number_of F ds n = F (digits ds n)

-- a table with the numbers of the cells of the box of ds put into it
abbrev pub numbered : (List ℕ → ℕ) → List ℕ → List ℕ → List ℕ
numbered F ds t = tabulate (length t) (λ n. cond (nat_lt n (cells ds)) (cell_number_of F ds n) (at t n))

-- it has them
pub at_numbered : (F : List ℕ → ℕ) (ds t m : List ℕ) → cells ds ≤ length t → m ≡ numbered F ds t → (n : ℕ) → n < cells ds → at m n ≡ cell_number_of F ds n
at_numbered F ds t m h e n l =
    ap (λ (k : List ℕ). at k n) e
    ∙ at-tabulate (length t) _ n (omega arith)
    ∙ ap (λ (b : Bool). cond b (cell_number_of F ds n) (at t n)) (lt-ltb n (cells ds) l)

-- cell r of exponent e
pub at_exponent : (F : List ℕ → ℕ) (ds : List ℕ) (d e r : ℕ) → e ≤ d → r < cells ds
    → cell_number_of F (ds ++ (d ∷ [])) (e * cells ds + r) ≡ F (digits ds r ++ (e ∷ []))
at_exponent F ds d e r h l = ap F (digits-snoc ds d e r h l)

-- the cells before those of exponent e have their numbers, if those of exponent 0, of which there are `size`, had theirs in m₀
pub record Adding (F : List ℕ → ℕ) (size d : ℕ) (m₀ m : List ℕ) (from e : ℕ) : Type 0 where
  pub same : length m ≡ length m₀
  pub some : 1 ≤ e
  pub few : e ≤ suc d
  pub place : from ≡ e * size
  pub laid : (ds t₀ : List ℕ) → size ≡ cells ds → Filled (cell_number_of F ds) t₀ m₀ size → Filled (cell_number_of F (ds ++ (d ∷ []))) t₀ m from

module _ (F : List ℕ → ℕ) (size d : ℕ) (m₀ : List ℕ) where
  pub adding_start : ((es : List ℕ) → F (es ++ (0 ∷ [])) ≡ F es) → Adding F size d m₀ m₀ size 1
  adding_start zeroth =
      record {
        same = refl;
        some = omega arith;
        few = omega arith;
        place = omega arith;
        laid =
            λ ds t₀ sized r.
            record { same = r.same; below = λ n h. r.below n h ∙ alike ds n (rw sized at h); above = r.above };
      }
    where
      alike : (ds : List ℕ) (n : ℕ) → n < cells ds → cell_number_of F ds n ≡ cell_number_of F (ds ++ (d ∷ [])) n
      alike ds n h =
          let here : 0 * cells ds + n ≡ n = omega arith in
          sym (zeroth (digits ds n)) ∙ sym (at_exponent F ds d 0 n (omega arith) h) ∙ ap (cell_number_of F (ds ++ (d ∷ []))) here

  module _ (m : List ℕ) (from e : ℕ) (r : Adding F size d m₀ m from e) where
    -- the cells of exponent 0 lie below
    pub adding_behind : size ≤ from
    adding_behind = omega (arith, r.place, mul-le-mul_right size r.some)

    module _ (h : e < suc d) where
      -- the next cells fit
      pub adding_fits : from + size ≤ size * suc d
      adding_fits = omega (arith, r.place, mul-le-mul_right size h, mul_comm size (suc d))

      -- the cells of one exponent more
      pub adding_step : (m' : List ℕ) → length m' ≡ length m
          → ((ds t₀ : List ℕ) → size ≡ cells ds → Filled (cell_number_of F (ds ++ (d ∷ []))) t₀ m from
          → Filled (cell_number_of F (ds ++ (d ∷ []))) t₀ m' (from + size))
          → Adding F size d m₀ m' (from + size) (e + 1)
      adding_step m' long next =
          record {
            same = long ∙ r.same;
            some = omega arith;
            few = omega arith;
            place = omega (arith, r.place);
            laid = λ ds t₀ sized k. next ds t₀ sized (r.laid ds t₀ sized k);
          }

    -- all exponents are done
    pub adding-count : suc d ≤ e → from ≡ size * suc d
    adding-count h =
        let last : e ≡ suc d = omega (arith, r.few) in
        r.place ∙ ap (◌* size) last ∙ mul_comm (suc d) size

-- ---- variable by variable

-- the cells of the first i variables, `size` of them, have their numbers
pub record Laying (F : List ℕ → ℕ) (ds m₀ m : List ℕ) (size i : ℕ) : Type 0 where
  pub within : i ≤ length ds
  pub count : size ≡ cells (take i ds)
  pub filled : Filled (cell_number_of F (take i ds)) m₀ m size

module _ (F : List ℕ → ℕ) (ds m₀ : List ℕ) where
  -- the number of the one cell of no variables stands at its place
  pub laying_start : at m₀ 0 ≡ F [] → Laying F ds m₀ m₀ 1 0
  unfolding cells digits
  laying_start h =
      record {
        within = omega arith;
        count = refl;
        filled =
            record {
              same = refl;
              below = λ n l. let z : n ≡ 0 = omega arith in ap (at m₀) z ∙ h;
              above = λ n l. refl;
            };
      }

  module _ (m : List ℕ) (size i : ℕ) (r : Laying F ds m₀ m size i) (h : i < length ds) where
    more : take (i + 1) ds ≡ take i ds ++ (at ds i ∷ [])
    more = ap (λ (k : ℕ). take k ds) (add-one i) ∙ take-suc ds i 0 h

    -- the next variable's number of cells
    pub laying_count : size * suc (at ds i) ≡ cells (take (i + 1) ds)
    laying_count = ap (◌* suc (at ds i)) r.count ∙ sym (cells-snoc (take i ds) (at ds i)) ∙ ap cells (sym more)

    -- one variable more
    pub laying_step : (m' : List ℕ) (n : ℕ) → n ≡ size * suc (at ds i)
        → ((es t₀ : List ℕ) → size ≡ cells es → Filled (cell_number_of F es) t₀ m size → Filled (cell_number_of F (es ++ (at ds i ∷ []))) t₀ m' n)
        → Laying F ds m₀ m' n (i + 1)
    laying_step m' n e add =
        record { within = omega arith; count = e ∙ laying_count; filled = rw more (add (take i ds) m₀ r.count r.filled) }

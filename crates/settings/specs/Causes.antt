-- Laws of the settings of a call: the causes before the size of the box by themselves, and what holds where no cause does.
use Rattle.std.specs.Prelude.{◌≡◌, refl, Bool, ◌&&◌, ◌||◌, cond, List, [], ◌∷◌, ℕ, zero, suc, ◌≤◌, ◌<◌, ltb, eqb, length, take, replicate, true, false, leb}
use Rattle.std.proofs.Common.{sym, ◌∙◌, ap, le_trans, lt_irrefl, le_of_suc-le-suc, not-suc-le-zero, suc-ne-zero, arith, ap₂}
use Rattle.std.proofs.Math.Bool.{or-false, or_self}
use borrow.Author.Tests.{ltb-false, le-ltb, le-leb, lt-leb, leb-false, eqb-false, eq-eqb, ne_eqb}
use Rattle.meaning.specs.Boxes.{cells}
use Rattle.meaning.specs.Settings.{fits_width, table_limit, some, repeated, limited_number, cube, first}
use Rattle.meaning.specs.Calls.{reply}
use Rattle.theory.specs.Ranges.{width_high}
use Rattle.theory.specs.AcceptedCalls.{first-zero, Ready}
use Rattle.settings.specs.Indices.{some-false-at, length-le_of_distinct}

-- ---- the causes before the size of the box

-- the number of the first cause among 1, 2, 3, 4, 5 and 7; `low` says that a degree is 0 where none may be
abbrev pub support_number : ℕ → Bool → Bool → List ℕ → ℕ
support_number total fits low support =
    cond (eqb (length support) 0) 1
    (cond (ltb 20 total) 2
    (cond fits
    (cond low 4
    (cond (some (leb total) support) 5
    (cond (repeated support) 7 0)))
    3))

-- the size comes last
pub limited_eq_support : (limit : ℕ) (strict : Bool) (total : ℕ) (fits : Bool) (support ds : List ℕ) →
    limited_number limit strict total fits support ds
    ≡ first (support_number total fits (strict && some (eqb 0) ds) support) (cond (ltb limit (cells ds)) 8 0)
unfolding limited_number
limited_eq_support limit strict total fits support ds =
    causes (eqb (length support) 0) (ltb 20 total) fits (strict && some (eqb 0) ds) (some (leb total) support) (repeated support)
    (cond (ltb limit (cells ds)) 8 0)
  where
    causes : (c1 c2 c3 c4 c5 c7 : Bool) (k : ℕ) →
        cond c1 1 (cond c2 2 (cond c3 (cond c4 4 (cond c5 5 (cond c7 7 k))) 3))
        ≡ first (cond c1 1 (cond c2 2 (cond c3 (cond c4 4 (cond c5 5 (cond c7 7 0))) 3))) k
    causes true c2 c3 c4 c5 c7 k = refl
    causes false true c3 c4 c5 c7 k = refl
    causes false false false c4 c5 c7 k = refl
    causes false false true true c5 c7 k = refl
    causes false false true false true c7 k = refl
    causes false false true false false true k = refl
    causes false false true false false false k = refl

-- a box with one degree has a degree 0 where that is it
pub cube-number : (limit : ℕ) (strict : Bool) (total : ℕ) (fits : Bool) (support : List ℕ) (d : ℕ) →
    limited_number limit strict total fits support (cube support d)
    ≡ first (support_number total fits (strict && eqb 0 d) support) (cond (ltb limit (cells (cube support d))) 8 0)
unfolding some
cube-number limit strict total fits [] d = limited_eq_support limit strict total fits [] []
cube-number limit strict total fits (x ∷ xs) d =
    limited_eq_support limit strict total fits (x ∷ xs) (cube (x ∷ xs) d)
    ∙ ap (λ (b : Bool). first (support_number total fits (strict && b) (x ∷ xs)) (cond (ltb limit (cells (cube (x ∷ xs) d))) 8 0)) (all (length xs))
  where
    all : (n : ℕ) → (eqb 0 d || some (eqb 0) (replicate n d)) ≡ eqb 0 d
    all zero = or-false (eqb 0 d)
    all (suc n) = ap (eqb 0 d ||◌) (all n) ∙ or_self (eqb 0 d)

-- ---- settings that pass

-- a cause that is not there, and the causes after it
no_cause : (c : Bool) (n k : ℕ) → cond c (suc n) k ≡ 0 → (c ≡ false) × (k ≡ 0)
no_cause true n k e = absurd (suc-ne-zero n e)
no_cause false n k e = (refl, e)

cause_otherwise : (c : Bool) (n k : ℕ) → cond c k (suc n) ≡ 0 → (c ≡ true) × (k ≡ 0)
cause_otherwise true n k e = (refl, e)
cause_otherwise false n k e = absurd (suc-ne-zero n e)

pub record Passes (total : ℕ) (fits : Bool) (support : List ℕ) : Type 0 where
  pub not_empty : 0 < length support
  pub few : total ≤ 20
  pub width : fits ≡ true
  pub indices : some (leb total) support ≡ false
  pub distinct : repeated support ≡ false
  pub short : length support ≤ 20

pub support_passes : (total : ℕ) (fits low : Bool) (support : List ℕ) → support_number total fits low support ≡ 0 → Passes total fits support
support_passes total fits low support e =
    let c1 = no_cause (eqb (length support) 0) 0 _ e in
    let c2 = no_cause (ltb 20 total) 1 _ c1.1 in
    let c3 = cause_otherwise fits 2 _ c2.1 in
    let c4 = no_cause low 3 _ c3.1 in
    let c5 = no_cause (some (leb total) support) 4 _ c4.1 in
    let c7 = no_cause (repeated support) 6 0 c5.1 in
    let few : total ≤ 20 = ltb-false 20 total c2.0 in
    record {
      not_empty = pos-of-ne (length support) (eqb-false (length support) 0 c1.0);
      few = few;
      width = c3.0;
      indices = c5.0;
      distinct = c7.0;
      short = omega (arith, length-le_of_distinct total support c5.0 c7.0);
    }
  where
    pos-of-ne : (n : ℕ) → (n ≡ 0 → ⊥) → 0 < n
    pos-of-ne n h = omega arith

-- settings with no cause to turn them down
module _ (limit : ℕ) (strict : Bool) (total : ℕ) (fits : Bool) (support ds : List ℕ) (pass : limited_number limit strict total fits support ds ≡ 0) where
  causes : (support_number total fits (strict && some (eqb 0) ds) support ≡ 0) × ◌≡◌ {A = ℕ} (cond (ltb limit (cells ds)) 8 0) 0
  causes = first-zero _ _ (sym (limited_eq_support limit strict total fits support ds) ∙ pass)

  pub passes : Passes total fits support
  passes = support_passes total fits (strict && some (eqb 0) ds) support causes.0

  pub settings-cells-le : cells ds ≤ limit
  settings-cells-le = ltb-false limit (cells ds) (no_cause (ltb limit (cells ds)) 7 0 causes.1).0

  -- they pass with a higher limit too
  pub passes_higher : (higher : ℕ) → limit ≤ higher → limited_number higher strict total fits support ds ≡ 0
  passes_higher higher h =
      limited_eq_support higher strict total fits support ds
      ∙ ap₂ first causes.0 (ap (λ (b : Bool). cond b 8 0) (le-ltb higher (cells ds) (le_trans settings-cells-le h)))

-- a call with one table in and one out that passes
module _ {strict : Bool} {total w : ℕ} {support ds given out : List ℕ} (r : Ready strict total w support ds given out) where
  pub ready_passes : Passes total (fits_width w) support
  ready_passes = passes table_limit strict total (fits_width w) support ds r.settings

  pub ready_high : w ≤ 64
  ready_high = width_high w ready_passes.width

-- the degrees of a box with one degree, taken from twenty copies of it
pub take-cube : (support : List ℕ) (d : ℕ) → length support ≤ 20 → take (length support) (replicate 20 d) ≡ cube support d
take-cube support d = go 20 (length support)
  where
    go : (n k : ℕ) → k ≤ n → take k (replicate n d) ≡ replicate k d
    go n zero h = refl
    go zero (suc k) h = absurd (not-suc-le-zero h)
    go (suc n) (suc k) h = ap (d ∷◌) (go n k (le_of_suc-le-suc h))

-- ---- more than twenty indices

-- an index that is past the total where one of the support is
abbrev pub stand_in_of : ℕ → List ℕ → ℕ
stand_in_of total support = cond (some (leb total) support) total 0

-- the causes are those of that index, twice: indices below a total of at most twenty repeat
module _ (limit : ℕ) (strict : Bool) (total : ℕ) (fits : Bool) (support : List ℕ) (d : ℕ) (many : 20 < length support) where
  abbrev low : Bool
  low = strict && eqb 0 d

  abbrev past : Bool
  past = some (leb total) support

  abbrev twins : List ℕ
  twins = replicate 2 (stand_in_of total support)

  abbrev cause : Bool → Bool → Bool → ℕ
  cause above out twice = cond above 2 (cond fits (cond low 4 (cond out 5 (cond twice 7 0))) 3)

  repeats : ltb 20 total ≡ false → past ≡ false → repeated support ≡ true
  repeats few within = by_cases (repeated support) refl
    where
      by_cases : (b : Bool) → repeated support ≡ b → b ≡ true
      by_cases true e = refl
      by_cases false e = absurd (lt_irrefl 20 (omega (arith, many, ltb-false 20 total few, length-le_of_distinct total support within e)))

  crowded : support_number total fits low support ≡ cause (ltb 20 total) past true
  crowded =
      ap (λ (b : Bool). cond b 1 (cause (ltb 20 total) past (repeated support))) (ne_eqb (length support) 0 (λ q. absurd (omega (arith, many, q))))
      ∙ by_cases (ltb 20 total) past refl refl
    where
      by_cases : (a p : Bool) → ltb 20 total ≡ a → past ≡ p → cause a p (repeated support) ≡ cause a p true
      by_cases true p e q = refl
      by_cases false true e q = refl
      by_cases false false e q = ap (cause false false) (repeats e q)

  paired : support_number total fits low twins ≡ cause (ltb 20 total) past true
  unfolding some repeated
  paired = ap₂ (cause (ltb 20 total)) (by_cases past refl) (ap (λ (b : Bool). (b || false) || false) (eq-eqb (stand_in_of total support) _ refl))
    where
      one : (b : Bool) → past ≡ b → leb total (cond b total 0) ≡ b
      one true e = le-leb total total (omega arith)
      one false e = lt-leb total 0 (omega (arith, leb-false total _ (some-false-at (leb total) support 0 (omega (arith, many)) e)))

      by_cases : (b : Bool) → past ≡ b → (leb total (cond b total 0) || (leb total (cond b total 0) || false)) ≡ b
      by_cases b e = ap (λ (x : Bool). x || (x || false)) (one b e) ∙ ap (b ||◌) (or-false b) ∙ or_self b

  -- so both are turned down, for the same cause
  pub crowded_reply : (v x : ℕ) → reply (limited_number limit strict total fits twins (cube twins d)) v
      ≡ reply (limited_number limit strict total fits support (cube support d)) x
  crowded_reply v x =
      ap (λ (n : ℕ). reply n v) (cube-number limit strict total fits twins d ∙ ap (λ (n : ℕ). first n (size twins)) paired)
      ∙ turned (ltb 20 total) fits low past (size twins) (size support)
      ∙ sym (ap (λ (n : ℕ). reply n x) (cube-number limit strict total fits support d ∙ ap (λ (n : ℕ). first n (size support)) crowded))
    where
      size : List ℕ → ℕ
      size s = cond (ltb limit (cells (cube s d))) 8 0

      turned : (a f l p : Bool) (j k : ℕ)
          → reply (first (cond a 2 (cond f (cond l 4 (cond p 5 7)) 3)) j) v ≡ reply (first (cond a 2 (cond f (cond l 4 (cond p 5 7)) 3)) k) x
      turned true f l p j k = refl
      turned false false l p j k = refl
      turned false true true p j k = refl
      turned false true false true j k = refl
      turned false true false false j k = refl

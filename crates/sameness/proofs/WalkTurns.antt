-- The walk over the sub-boxes of the last variable. In the sub-box of the last exponent e the bits are fewer by the twos in e!, and the place is further by
-- the way of e, so that the tests of a sub-box are those of its part of the table.
use Rattle.std.specs.Prelude.{◌≡◌, Bool, true, List, [], ◌∷◌, ◌++◌, ℕ, suc, ◌+◌, ◌*◌, ◌-◌, ◌%◌, ◌^◌, ◌<◌, eqb, bit_and, length, take, get_or}
use Rattle.std.proofs.Common.{sym, ◌∙◌, ap, ap₂, suc-ne-zero, mod-eq_of_lt, add_assoc, add_comm, add-zero, arith}
use Rattle.std.proofs.Math.Nat.{suc_inj, mod-one}
use Rattle.std.specs.Int.Bits.{and_mask}
use Rattle.std.proofs.Math.ListN.{length-map}
use borrow.Author.Tests.{eq-eqb}
use Rattle.std.proofs.lemmas.List.{get_or-map, take-map}
use Rattle.meaning.specs.Tables.{at}
use Rattle.meaning.specs.Factorials.{factorial, twos}
use Rattle.meaning.specs.Boxes.{cells, digits}
use Rattle.meaning.specs.Values.{weight, bound}
use Rattle.meaning.specs.Recovery.{every}
use Rattle.theory.specs.Boxes.{length_digits}
use Rattle.theory.specs.Every.{true-iff, every-iff, every_cong}
use Rattle.theory.specs.LastVariable.{others, final, others-final, length-others, digits-snoc}
use Rattle.theory.specs.Parts.{part, part-entry}
use Rattle.box_rows.specs.Lines.{LineMask}
use Rattle.box_rows.specs.Walks.{walk_exponent}
use Rattle.box_rows.specs.Tested.{Tested, tested_bound}
use Rattle.sameness.specs.Places.{way_of, place_of, is_match}
use Rattle.sameness.specs.Lent.{Walkable}
use Rattle.sameness.specs.Partners.{limits_of, steps_of}
use Rattle.sameness.specs.declared.partner.Partner.{Partner}

-- ---- lines

-- the test of a line, at the exponent e
abbrev pub line_match : ℕ → List ℕ → ℕ → ℕ → List ℕ → ℕ → ℕ → Bool
line_match w c limit step other place e =
    eqb (at c e % 2 ^ (w - twos (factorial e))) (at other (place + way_of limit step e) % 2 ^ (w - twos (factorial e)))

-- numbers under one mask are equal where they are modulo its power of two
pub masked_match : (a b w mask : ℕ) → mask ≡ 2 ^ w - 1 → eqb (bit_and a mask) (bit_and b mask) ≡ eqb (a % 2 ^ w) (b % 2 ^ w)
masked_match a b w mask e = ap₂ eqb (ap (bit_and a) e ∙ and_mask a w) (ap (bit_and b) e ∙ and_mask b w)

-- everything is equal modulo 1
mod_1 : (x y h : ℕ) → h ≡ 1 → x % h ≡ y % h
mod_1 x y h e = ap (x %◌) e ∙ mod-one x ∙ sym (ap (y %◌) e ∙ mod-one y)

module _ (w : ℕ) (ds c limits steps other : List ℕ) (place : ℕ) where
  -- where no bits are left nothing counts
  pub match_none : w ≡ 0 → every (cells ds) (is_match w ds c limits steps other place) ≡ true
  unfolding bound
  match_none z =
      (true-iff _).1 ((every-iff (cells ds) _).1 (λ n p.
      let none : w - weight (digits ds n) ≡ 0 = omega (arith, z) in
      (true-iff _).0 (eq-eqb _ _ (mod_1 (at c n) (at other (place + place_of limits steps (digits ds n))) _ (ap (2 ^◌) none)))))

  -- one variable: the tests are those of the line
  pub match_one : length ds ≡ 1 → length limits ≡ length ds → length steps ≡ length ds → length c ≡ cells ds
      → every (length c) (line_match w c (at limits 0) (at steps 0) other place) ≡ every (cells ds) (is_match w ds c limits steps other place)
  unfolding cells digits bound weight place_of
  match_one e k l m = ap (λ (n : ℕ). every n (line_match w c (at limits 0) (at steps 0) other place)) m ∙ go ds limits steps e k l
    where
      go : (ds limits steps : List ℕ) → length ds ≡ 1 → length limits ≡ length ds → length steps ≡ length ds
          → every (cells ds) (line_match w c (at limits 0) (at steps 0) other place) ≡ every (cells ds) (is_match w ds c limits steps other place)
      go (d ∷ []) (x ∷ []) (s ∷ []) e k l = every_cong (1 * suc d) (λ n p. sym (one n p))
        where
          one : (n : ℕ) → n < 1 * suc d → is_match w (d ∷ []) c (x ∷ []) (s ∷ []) other place n ≡ line_match w c x s other place n
          one n p =
              let small : n % suc d ≡ n = mod-eq_of_lt (omega (arith, p)) in
              ap (λ (i : ℕ). eqb (at c n % 2 ^ (w - (twos (factorial i) + 0)))
              (at other (place + (way_of x s i + 0)) % 2 ^ (w - (twos (factorial i) + 0)))) small
              ∙ ap₂ (λ (q i : ℕ). eqb (at c n % 2 ^ (w - q)) (at other (place + i) % 2 ^ (w - q))) (add-zero (twos (factorial n))) (add-zero (way_of x s n))
      go [] ls ss e k l = absurd (suc-ne-zero 0 (sym e))
      go (d ∷ (d' ∷ ds)) ls ss e k l = absurd (suc-ne-zero (length ds) (suc_inj e))
      go (d ∷ []) [] ss e k l = absurd (suc-ne-zero 0 (sym k))
      go (d ∷ []) (x ∷ (y ∷ ls)) ss e k l = absurd (suc-ne-zero (length ls) (suc_inj k))
      go (d ∷ []) (x ∷ []) [] e k l = absurd (suc-ne-zero 0 (sym l))
      go (d ∷ []) (x ∷ []) (s ∷ (t ∷ ss)) e k l = absurd (suc-ne-zero (length ss) (suc_inj l))

-- ---- places by the last variable

place_of-snoc : (ls ss es : List ℕ) (l s e : ℕ) → length ls ≡ length es → length ss ≡ length es
    → place_of (ls ++ (l ∷ [])) (ss ++ (s ∷ [])) (es ++ (e ∷ [])) ≡ place_of ls ss es + way_of l s e
unfolding place_of
place_of-snoc [] [] [] l s e k j = omega arith
place_of-snoc [] (y ∷ ss) [] l s e k j = absurd (suc-ne-zero (length ss) j)
place_of-snoc [] ss (x ∷ es) l s e k j = absurd (suc-ne-zero (length es) (sym k))
place_of-snoc (y ∷ ls) ss [] l s e k j = absurd (suc-ne-zero (length ls) k)
place_of-snoc (y ∷ ls) [] (x ∷ es) l s e k j = absurd (suc-ne-zero (length es) (sym j))
place_of-snoc (y ∷ ls) (z ∷ ss) (x ∷ es) l s e k j =
    ap (way_of y z x +◌) (place_of-snoc ls ss es l s e (suc_inj k) (suc_inj j)) ∙ sym (add_assoc (way_of y z x) (place_of ls ss es) (way_of l s e))

-- ---- the walk

-- the sub-boxes below the last exponent e are matched
abbrev pub Matching : ℕ → List ℕ → List ℕ → List ℕ → List ℕ → List ℕ → ℕ → ℕ → ℕ → ℕ → ℕ → Type 0
Matching w ds c limits steps other place size left e from = Tested (is_match w ds c limits steps other place) w ds (length c) size left e from

module _ {w : ℕ} {ds c limits steps : List ℕ} {place : ℕ} (lent : Walkable ds c limits steps w place) (other : List ℕ) where
  module _ {size left e from : ℕ} (r : Matching w ds c limits steps other place size left e from) (h : from < length c) where
    -- the way of e, and the limits and steps of the other variables
    abbrev on : ℕ
    on = way_of (at limits (length ds - 1)) (at steps (length ds - 1)) e

    abbrev ls : List ℕ
    ls = take (length ds - 1) limits

    abbrev ss : List ℕ
    ss = take (length ds - 1) steps

    cut-limits : others limits ≡ ls
    cut-limits = ap (λ (k : ℕ). take (k - 1) limits) lent.limited

    cut-steps : others steps ≡ ss
    cut-steps = ap (λ (k : ℕ). take (k - 1) steps) lent.stepped

    pub length-cut-limits : length ls ≡ length ds - 1
    length-cut-limits = ap length (sym cut-limits) ∙ length-others limits (rw lent.limited lent.some) ∙ ap (◌- 1) lent.limited

    pub length-cut-steps : length ss ≡ length ds - 1
    length-cut-steps = ap length (sym cut-steps) ∙ length-others steps (rw lent.stepped lent.some) ∙ ap (◌- 1) lent.stepped

    -- the place of a cell of the sub-box
    place-on : (i : ℕ) → i < size → place + on + place_of ls ss (digits (others ds) i) ≡ place + place_of limits steps (digits ds (from + i))
    place-on i b =
        let k = r.walk in
        let es : List ℕ = digits (others ds) i in
        let long : length es ≡ length ds - 1 = length_digits (others ds) i ∙ length-others ds lent.some in
        let here : digits ds (from + i) ≡ es ++ (e ∷ []) =
        ap₂ digits (others-final ds lent.some) (ap (◌+ i) (k.place ∙ ap (e *◌) k.sized))
        ∙ digits-snoc (others ds) (final ds) e i (walk_exponent k h) (rw k.sized at b)
        in
        let all : place_of limits steps (digits ds (from + i)) ≡ place_of (others limits) (others steps) es + way_of (final limits) (final steps) e =
        ap (place_of limits steps) here
        ∙ ap₂ (λ (xs ys : List ℕ). place_of xs ys (es ++ (e ∷ []))) (others-final limits (rw lent.limited lent.some))
        (others-final steps (rw lent.stepped lent.some))
        ∙ place_of-snoc (others limits) (others steps) es (final limits) (final steps) e
        (ap length cut-limits ∙ length-cut-limits ∙ sym long) (ap length cut-steps ∙ length-cut-steps ∙ sym long)
        in
        add_assoc place on _
        ∙ ap (place +◌) (add_comm on _
        ∙ sym (all
        ∙ ap₂ (λ (xs ys : List ℕ). place_of xs ys es + way_of (final limits) (final steps) e) cut-limits cut-steps
        ∙ ap₂ (λ (k j : ℕ). place_of ls ss es + way_of (at limits (k - 1)) (at steps (j - 1)) e) lent.limited lent.stepped))

    -- the tests of a sub-box are those of its part, with the bits that are left and from its own place on
    pub matching_part : {b : Bool} {there : ℕ} → there ≡ place + on
        → b ≡ every (cells (others ds)) (is_match left (others ds) (part from (from + size) c) ls ss other there)
        → b ≡ every size (λ i. is_match w ds c limits steps other place (from + i))
    matching_part p q =
        q
        ∙ ap₂ (λ (n k : ℕ). every n (is_match left (others ds) (part from (from + size) c) ls ss other k)) (sym r.walk.sized) p
        ∙ every_cong size
        (λ i b.
        let same = sym (tested_bound r h i b) in
        ap₂ eqb (ap₂ ◌%◌ (part-entry from (from + size) c i (omega arith)) same) (ap₂ ◌%◌ (ap (at other) (place-on i b)) same))

-- ---- partners

module _ (ps : List Partner) (i : ℕ) (d : Partner) (h : i < length ps) where
  pub limit_at : at (limits_of ps) i ≡ (get_or ps i d).limit
  limit_at = get_or-map (λ p. p.limit) ps i d 0 h

  pub step_at : at (steps_of ps) i ≡ (get_or ps i d).step
  step_at = get_or-map (λ p. p.step) ps i d 0 h

-- as many as there are degrees
pub length-partners : {w place : ℕ} {ds c : List ℕ} (ps : List Partner) → Walkable ds c (limits_of ps) (steps_of ps) w place → length ps ≡ length ds
length-partners ps lent = sym (length-map ps (λ p. p.limit)) ∙ lent.limited

-- the test of entry i of a line, as it is made under the mask
pub line_told : (w : ℕ) (c : List ℕ) (limit step : ℕ) (other : List ℕ) (place i mask there way : ℕ) → LineMask w i mask
    → there ≡ at other (place + way) → way ≡ way_of limit step i
    → line_match w c limit step other place i ≡ eqb (bit_and (at c i) mask) (bit_and there mask)
line_told w c limit step other place i mask there way m f l =
    let h = 2 ^ (w - twos (factorial i)) in
    let found : there ≡ at other (place + way_of limit step i) = f ∙ ap (λ (k : ℕ). at other (place + k)) l in
    sym (masked_match (at c i) there (w - twos (factorial i)) mask m ∙ ap (λ (x : ℕ). eqb (at c i % h) (x % h)) found)

-- the tests of a line with its partner are those of the box
pub match_line : (w : ℕ) (ds c : List ℕ) (ps : List Partner) (other : List ℕ) (place : ℕ) (d : Partner) → length ds ≡ 1
    → Walkable ds c (limits_of ps) (steps_of ps) w place
    → every (length c) (line_match w c (get_or ps 0 d).limit (get_or ps 0 d).step other place)
    ≡ every (cells ds) (is_match w ds c (limits_of ps) (steps_of ps) other place)
match_line w ds c ps other place d one lent =
    let some : 0 < length ps = omega (arith, length-partners ps lent, one) in
    ap₂ (λ (l s : ℕ). every (length c) (line_match w c l s other place)) (sym (limit_at ps 0 d some)) (sym (step_at ps 0 d some))
    ∙ match_one w ds c (limits_of ps) (steps_of ps) other place one lent.limited lent.stepped lent.whole

-- the tests of a sub-box, with the partners of the other variables and its own place, are those of its part
pub matching_turn : {w : ℕ} {ds c : List ℕ} {place : ℕ} (ps : List Partner) (lent : Walkable ds c (limits_of ps) (steps_of ps) w place) (other : List ℕ)
    {size left e from : ℕ} (r : Matching w ds c (limits_of ps) (steps_of ps) other place size left e from) (h : from < length c) (d : Partner)
    {b : Bool} {way : ℕ} → way ≡ way_of (get_or ps (length ds - 1) d).limit (get_or ps (length ds - 1) d).step e
    → b ≡ every (cells (others ds))
    (is_match left (others ds) (part from (from + size) c) (limits_of (take (length ds - 1) ps)) (steps_of (take (length ds - 1) ps)) other (place + way))
    → b ≡ every size (λ i. is_match w ds c (limits_of ps) (steps_of ps) other place (from + i))
matching_turn {w} {ds} {c} {place} ps lent other {size} {left} {e} {from} r h d {b} {way} q t =
    let last : length ds - 1 < length ps = omega (arith, length-partners ps lent, lent.some) in
    let there : place + way ≡ place + way_of (at (limits_of ps) (length ds - 1)) (at (steps_of ps) (length ds - 1)) e =
    ap (place +◌) (q ∙ ap₂ (λ (l s : ℕ). way_of l s e) (sym (limit_at ps (length ds - 1) d last)) (sym (step_at ps (length ds - 1) d last))) in
    matching_part lent other r h there
    (t
    ∙ ap₂ (λ (ls ss : List ℕ). every (cells (others ds)) (is_match left (others ds) (part from (from + size) c) ls ss other (place + way)))
    (sym (take-map (λ p. p.limit) (length ds - 1) ps)) (sym (take-map (λ p. p.step) (length ds - 1) ps)))

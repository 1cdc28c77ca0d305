-- Parts of a table. The part of a table from place a to place e is lent, and what comes back takes its place; a table that is filled from the left
-- up to place a is then filled up to place e.
use Rattle.std.specs.Prelude.{◌≡◌, List, ◌++◌, ℕ, ◌+◌, ◌-◌, ◌≤◌, ◌<◌, length, take, drop}
use Rattle.std.proofs.Common.{sym, ◌∙◌, ap, arith, length-append, length-take, length-drop, get_or-take, get_or-drop, get_or-append-add, length-take-le}
use Rattle.std.proofs.Math.Decide.{dec_le}
use Rattle.std.proofs.Math.ListN.{get_or-append}
use Rattle.meaning.specs.Tables.{at}
use Rattle.theory.specs.Tables.{Filled}

-- the part from place a to place e
abbrev pub part : ℕ → ℕ → List ℕ → List ℕ
part a e t = take (e - a) (drop a t)

-- the table with ys in the place of that part
abbrev pub put : ℕ → ℕ → List ℕ → List ℕ → List ℕ
put a e t ys = take a t ++ (ys ++ drop (e - a) (drop a t))

-- an entry of the part, where the table may be shorter
pub part-entry : (a e : ℕ) (t : List ℕ) (i : ℕ) → i < e - a → at (part a e t) i ≡ at t (a + i)
part-entry a e t i h = get_or-take (e - a) (drop a t) i 0 h ∙ get_or-drop a t i 0

module _ (a e : ℕ) (t : List ℕ) (fits : e ≤ length t) where
  pub length_part : length (part a e t) ≡ e - a
  length_part = simp (length-take, length-drop) (omega arith)

  pub at_part : (i : ℕ) → i < e - a → at (part a e t) i ≡ at t (a + i)
  at_part = part-entry a e t

  module _ (order : a ≤ e) (ys : List ℕ) (same : length ys ≡ e - a) where
    start : length (take a t) ≡ a
    start = length-take-le a t (omega arith)

    pub length-put : length (put a e t ys) ≡ length t
    length-put = simp (length-append, length-take, length-drop) (omega arith)

    -- before the part, in it and after it
    pub at-put-before : (i : ℕ) → i < a → at (put a e t ys) i ≡ at t i
    at-put-before i h =
        let h' : i < length (take a t) = rw start h in
        get_or-append (take a t) _ 0 i h' ∙ get_or-take a t i 0 h

    pub at-put-within : (i : ℕ) → i < e - a → at (put a e t ys) (a + i) ≡ at ys i
    at-put-within i h =
        let h' : i < length ys = rw same h in
        ap (λ (n : ℕ). at (put a e t ys) (n + i)) (sym start) ∙ get_or-append-add (take a t) _ i 0 ∙ get_or-append ys _ 0 i h'

    pub at-put-after : (i : ℕ) → e ≤ i → at (put a e t ys) i ≡ at t i
    at-put-after i h =
        ap (at (put a e t ys)) there
        ∙ get_or-append-add (take a t) _ _ 0
        ∙ get_or-append-add ys _ _ 0
        ∙ get_or-drop (e - a) (drop a t) (i - e) 0
        ∙ get_or-drop a t (e - a + (i - e)) 0
        ∙ ap (at t) back
      where
        there : i ≡ length (take a t) + (length ys + (i - e))
        there = omega (arith, start, same)

        back : a + (e - a + (i - e)) ≡ i
        back = omega arith

-- a table filled up to a part, and then the part as the rule says
pub filled_part : (f : ℕ → ℕ) (t₀ t : List ℕ) (a e : ℕ) (ys : List ℕ) → Filled f t₀ t a → a ≤ e → e ≤ length t → length ys ≡ e - a
    → ((i : ℕ) → i < e - a → at ys i ≡ f (a + i)) → Filled f t₀ (put a e t ys) e
filled_part f t₀ t a e ys r order fits same h =
    record {
      same = length-put a e t fits order ys same ∙ r.same;
      below = λ i p. below i p (dec_le a i);
      above = λ i p. at-put-after a e t fits order ys same i p ∙ r.above i (omega arith);
    }
  where
    below : (i : ℕ) → i < e → Dec (a ≤ i) → at (put a e t ys) i ≡ f i
    below i p (yes q) =
        let there : i ≡ a + (i - a) = omega arith in
        ap (at (put a e t ys)) there
        ∙ at-put-within a e t fits order ys same (i - a) (omega arith)
        ∙ h (i - a) (omega arith)
        ∙ ap f (sym there)
    below i p (no q) = at-put-before a e t fits order ys same i (omega arith) ∙ r.below i (omega arith)

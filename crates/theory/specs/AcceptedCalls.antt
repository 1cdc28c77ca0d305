-- The number of a reply, and what an accepted call with one table in and one out knows of its settings and lengths.
use Rattle.std.specs.Prelude.{◌≡◌, refl, Bool, true, false, ◌&&◌, cond, List, ℕ, zero, suc, eqb, length}
use Rattle.std.proofs.lemmas.Bool.{false≢true}
use Rattle.std.proofs.Common.{suc-ne-zero, eqb-true}
use Rattle.meaning.specs.Boxes.{cells}
use Rattle.meaning.specs.Settings.{fits_width, settings_number, call_number, first}
use Rattle.meaning.specs.Calls.{reply, in_out_number}

-- the number of a reply
pub number-reply : (n v : ℕ) → (reply n v).number ≡ n
number-reply zero v = refl
number-reply (suc n) v = refl

both_true : (a b : Bool) → a && b ≡ true → (a ≡ true) × (b ≡ true)
both_true true b e = (refl, e)
both_true false b e = absurd (false≢true e)

-- no cause is first of two where neither is one
pub first-zero : (a b : ℕ) → first a b ≡ 0 → (a ≡ 0) × (b ≡ 0)
first-zero zero b e = (refl, e)
first-zero (suc a) b e = absurd (suc-ne-zero a e)

-- settings and lengths pass
pub record Ready (strict : Bool) (total w : ℕ) (support ds given out : List ℕ) : Type 0 where
  pub settings : settings_number strict total (fits_width w) support ds ≡ 0
  pub given_length : length given ≡ cells ds
  pub out_length : length out ≡ cells ds

pub ready : (strict : Bool) (total w : ℕ) (support ds given out : List ℕ) → in_out_number strict total w support ds given out ≡ 0
    → Ready strict total w support ds given out
unfolding call_number
ready strict total w support ds given out e =
    let parts = first-zero (settings_number strict total (fits_width w) support ds) _ e in
    let exact = both_true (eqb (length given) (cells ds)) (eqb (length out) (cells ds)) (is-exact _ parts.1) in
    record { settings = parts.0; given_length = eqb-true _ _ exact.0; out_length = eqb-true _ _ exact.1 }
  where
    is-exact : (b : Bool) → ◌≡◌ {A = ℕ} (cond b 0 9) 0 → b ≡ true
    is-exact true p = refl
    is-exact false p = absurd (suc-ne-zero 8 p)

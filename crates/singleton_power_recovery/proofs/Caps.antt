-- What the answer of the degree cap says of the width, and how large the tables are.
use Rattle.std.specs.Prelude.{◌≡◌, refl, ⊤, Result, Ok, Err, eqb, Bool, true, false, cond, ℕ, pred, ◌*◌, ◌≤◌}
use Rattle.std.specs.Result.{is_err}
use Rattle.std.proofs.Common.{sym, ◌∙◌, ap, true≢false, suc-ne-zero, mul-le-mul_right, arith}
use borrow.Author.Tests.{ne_eqb}
use Rattle.meaning.specs.Factorials.{degree_cap_of}
use Rattle.meaning.specs.Replies.{Reply, accepted, refused}
use Rattle.meaning.specs.Leaves.{cap_reply}
use Rattle.meaning.specs.Settings.{fits_width}
use Rattle.theory.specs.Ranges.{width_pos, width_high}
use Rattle.theory.specs.DegreeCap.{two_le-degree_cap_of, degree_cap_of-le}
use Rattle.answers.specs.declared.Refusal.{Refusal}
use Rattle.answers.specs.Said.{code, said, said_number}
use Rattle.answers.specs.Laws.{code-suc}

-- the number of variables and the width pass, and `size` is the cap
pub record Capped (n w size : ℕ) : Type 0 where
  pub few : n ≤ 20
  pub fits : fits_width w ≡ true
  pub cap : size ≡ degree_cap_of w

-- the cap's answer is a number: the width passes, and the number is the cap
pub capped : {n : ℕ} (w : ℕ) {answer : Result ℕ Refusal} {size : ℕ} → n ≤ 20 → said answer ≡ cap_reply w → answer ≡ Ok size → Capped n w size
capped w {size = size} few says e =
    let r = both (fits_width w) (sym (ap said e) ∙ says) in
    record { few = few; fits = r.0; cap = r.1 }
  where
    both : (b : Bool) → accepted size ≡ cond b (accepted (degree_cap_of w)) (refused 11) → (b ≡ true) × (size ≡ degree_cap_of w)
    both true q = (refl, ap (λ (r : Reply). r.value) q)
    both false q = absurd (suc-ne-zero 10 (sym (ap (λ (r : Reply). r.number) q)))

-- it is a refusal: the width does not pass
pub uncapped : (w : ℕ) {answer : Result ℕ Refusal} {r : Refusal} → said answer ≡ cap_reply w → answer ≡ Err r → fits_width w ≡ false
uncapped w {r = r} says e = no-width (fits_width w) (sym (ap said e) ∙ says)
  where
    no-width : (b : Bool) → refused (code r) ≡ cond b (accepted (degree_cap_of w)) (refused 11) → b ≡ false
    no-width true q = absurd (suc-ne-zero (pred (code r)) (sym (code-suc r) ∙ ap (λ (r : Reply). r.number) q))
    no-width false q = refl

module _ {n w size : ℕ} (c : Capped n w size) where
  pub capped_high : w ≤ 64
  capped_high = width_high w c.fits

  pub capped_long : 2 ≤ size
  capped_long = omega (arith, two_le-degree_cap_of w (width_pos w c.fits), c.cap)

  pub capped_short : size ≤ 66
  capped_short = omega (arith, degree_cap_of-le w capped_high, c.cap)

  pub capped_count : n * size ≤ 1320
  capped_count = omega (arith, mul-le-mul_right size c.few, capped_short)

-- the number of an answer that is a refusal is not 0, and that of any other is
pub refused_number : (answer : Result ⊤ Refusal) → is_err answer ≡ true → eqb (said_number answer) 0 ≡ false
refused_number (Ok _) e = absurd (true≢false (sym e))
refused_number (Err r) e = ne_eqb (code r) 0 (λ q. suc-ne-zero (pred (code r)) (sym (code-suc r) ∙ q))

pub accepted_number : (answer : Result ⊤ Refusal) → is_err answer ≡ false → eqb (said_number answer) 0 ≡ true
accepted_number (Ok _) e = refl
accepted_number (Err r) e = absurd (true≢false e)

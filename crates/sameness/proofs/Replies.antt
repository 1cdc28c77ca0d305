-- What the call answers: a form that is turned down, or the test; and what is lent on for two forms that pass.
use Rattle.std.proofs.Common.{sym, ◌∙◌, ap, ap₂}
use Rattle.std.proofs.Math.ListN.{length-replicate}
use borrow.Author.Tests.{eq-eqb}
use Rattle.meaning.specs.Sameness.{Form, matched, same_forms}
use Rattle.meaning.specs.Replies.{Reply, accepted, refused}
use Rattle.meaning.specs.Settings.{table_limit, fits_width, call_number, first}
use Rattle.meaning.specs.Calls.{reply, truth, form_number, same_reply}
use Rattle.theory.specs.Ranges.{width_high}
use Rattle.theory.specs.Scattered.{Places, places_of}
use Rattle.theory.specs.SameForms.{form}
use Rattle.demand3.specs.Settings.{FormPasses}
use Rattle.demand3.specs.Promises.{Compared}
use Rattle.demand3.proofs.Comparisons.{form-iff, compared}
use Rattle.demand3.specs.Also.{also}
use Rattle.answers.specs.declared.Refusal.{Refusal}
use Rattle.answers.specs.Said.{code, said_number, said_truth}
use Rattle.std.specs.Prelude.{◌≡◌, refl, Bool, true, false, ◌&&◌, List, ℕ, zero, suc, ◌≤◌, eqb, length, Result, Ok, Err, ⊤}
use Rattle.answers.specs.Laws.{reply-code, first_code}
use Rattle.settings.specs.Causes.{passes}
use Rattle.settings.specs.Forms.{degrees_of, form_of}
use Rattle.settings.specs.declared.Settings.{Settings}
use Rattle.sameness.specs.Lent.{Boxed}

-- ---- what a check said

module _ (f : Form) {answer : Result ⊤ Refusal} (says : said_number answer ≡ form_number f) where
  pub form_passes : {u : ⊤} → answer ≡ Ok u → ◌≡◌ {A = ℕ} 0 (form_number f)
  form_passes e = sym (ap said_number e) ∙ says

  pub form_turned : {r : Refusal} → answer ≡ Err r → code r ≡ form_number f
  form_turned e = sym (ap said_number e) ∙ says

-- ---- the reply, and what it promises

abbrev pub SameSaid : Form → Form → Reply → Type 0
SameSaid f g r = (r ≡ same_reply f g) × Compared f g r

module _ (f g : Form) (each : length f.degrees ≡ length f.support) (each' : length g.degrees ≡ length g.support) where
  pub same_first : (r : Refusal) → code r ≡ form_number f → SameSaid f g (refused (code r))
  unfolding same_reply
  same_first r e = also (compared f g each each') (reply-code r (truth (same_forms f g)) (first_code r (form_number g) (sym e)))

  module _ (p : ◌≡◌ {A = ℕ} 0 (form_number f)) where
    pub same_second : (r : Refusal) → code r ≡ form_number g → SameSaid f g (refused (code r))
    unfolding same_reply
    same_second r e =
        also (compared f g each each') (reply-code r (truth (same_forms f g)) (ap (λ (n : ℕ). first n (form_number g)) (sym p) ∙ sym e))

    module _ (q : ◌≡◌ {A = ℕ} 0 (form_number g)) where
      pub same_accepted : (b : Bool) → same_forms f g ≡ b → SameSaid f g (accepted (truth b))
      unfolding same_reply
      same_accepted b e =
          also (compared f g each each')
          (ap (λ (t : Bool). accepted (truth t)) (sym e) ∙ ap (λ (n : ℕ). reply n (truth (same_forms f g))) (q ∙ ap (λ (n : ℕ). first n (form_number g)) p))

      -- totals or widths differ
      pub totals_differ : eqb f.total g.total ≡ false → SameSaid f g (accepted 0)
      unfolding same_forms
      totals_differ e = same_accepted false (ap (λ (b : Bool). b && eqb f.width g.width && matched f g && matched g f) e)

      pub widths_differ : f.total ≡ g.total → eqb f.width g.width ≡ false → SameSaid f g (accepted 0)
      unfolding same_forms
      widths_differ t e = same_accepted false (ap₂ (λ (a b : Bool). a && b && matched f g && matched g f) (eq-eqb _ _ t) e)

      -- they do not: the test both ways decides
      pub both_decide : f.total ≡ g.total → f.width ≡ g.width → {b : Bool} → b ≡ (matched f g && matched g f) → SameSaid f g (said_truth (Ok b))
      unfolding same_forms
      both_decide t w {b} e =
          as_said b
          (same_accepted b
          (ap₂ (λ (x y : Bool). x && y && matched f g && matched g f) (eq-eqb _ _ t) (eq-eqb _ _ w) ∙ sym e))
        where
          as_said : (b : Bool) → SameSaid f g (accepted (truth b)) → SameSaid f g (said_truth (Ok b))
          as_said true s = s
          as_said false s = s

-- ---- what is lent on

-- a form with one degree has it for each variable
pub cube_each : (s : Settings) → length (degrees_of s) ≡ length s.support.now
cube_each s = length-replicate (length s.support.now) s.max_degree

module _ (s : Settings) (c : List ℕ) (pass : ◌≡◌ {A = ℕ} 0 (form_number (form_of s c))) where
  sound : FormPasses (form_of s c)
  sound = (form-iff (form_of s c)).0 (sym pass)

  -- at most twenty variables
  pub short : length s.support.now ≤ 20
  unfolding call_number
  short = (passes table_limit false s.total (fits_width s.bitwidth) s.support.now (degrees_of s) (settings_pass _ _ (sym pass))).short
    where
      settings_pass : (n k : ℕ) → first n k ≡ 0 → n ≡ 0
      settings_pass zero k e = refl
      settings_pass (suc n) k e = e

  pub places : Places s.total s.support.now
  places = places_of s.total s.support.now sound.indices sound.distinct

  pub width : s.bitwidth ≤ 64
  width = width_high s.bitwidth sound.width

  -- with the degrees of the settings
  pub boxed : {ds : List ℕ} → ds ≡ degrees_of s → Boxed s.support.now ds c
  boxed e =
      rw e (record { some = sound.variable; few = short; each = cube_each s; whole = sound.lengths.0; size = sound.size })

-- the test of the boxes, in the words of the forms
pub as_forms : (n w : ℕ) (ps c qs d : List ℕ) {n' w' : ℕ} {ds ds' fs fs' : List ℕ} → n ≡ n' → w ≡ w' → ds ≡ ds' → fs ≡ fs'
    → (matched (form n w ps ds c) (form n w qs fs d) && matched (form n w qs fs d) (form n w ps ds c))
    ≡ (matched (form n w ps ds' c) (form n' w' qs fs' d) && matched (form n' w' qs fs' d) (form n w ps ds' c))
as_forms n w ps c qs d {ds' = ds'} {fs' = fs'} total width e f =
    ap₂ (λ (x y : List ℕ). matched (form n w ps x c) (form n w qs y d) && matched (form n w qs y d) (form n w ps x c)) e f
    ∙ ap₂ (λ (k v : ℕ). matched (form n w ps ds' c) (form k v qs fs' d) && matched (form k v qs fs' d) (form n w ps ds' c)) total width

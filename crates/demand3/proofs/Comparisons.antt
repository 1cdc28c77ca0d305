-- Sameness: the call keeps its promise, and what follows from sameness. It is an equivalence; a form is the same as what is left of it by reduction; normal
-- forms with equal settings are the same exactly when their coefficients are equal; coefficients that are laid out in another box, with the support in
-- another order, make the same form, so that a yes at one order is a yes at every order.
use Rattle.std.specs.Prelude.{◌≡◌, refl, ◌↔◌, true, false, ◌&&◌, ℕ, ◌%◌, ◌^◌, List, [], ◌∷◌, map, pos, length}
use Rattle.std.proofs.Common.{sym, ap, ap₂, subst, ◌∙◌, eq-eqb}
use Rattle.std.proofs.lemmas.List.{length-map}
use Rattle.meaning.specs.Boxes.{cells, digits}
use Rattle.meaning.specs.Values.{value, bound}
use Rattle.meaning.specs.Sameness.{Form, form_value, Same, scattered, matched, same_forms}
use Rattle.meaning.specs.Replies.{Reply}
use Rattle.meaning.specs.Settings.{fits_width, first}
use Rattle.meaning.specs.Calls.{form_number, same_reply}
use Rattle.theory.specs.Every.{true-iff, every-iff}
use Rattle.theory.specs.Scattered.{Places, places_of, length-scattered}
use Rattle.theory.specs.SpreadBoxes.{picked-digits, coefficient_at-cell}
use Rattle.theory.specs.SameForms.{form, form_value_natural, Placed, same_forms-iff}
use Rattle.theory.specs.DemandThree.{normal_eq_of_values}
use Rattle.demand3.specs.Tests.{first-zero}
use Rattle.demand3.specs.Settings.{FormPasses}
use Rattle.demand3.proofs.Recovered.{call_iff}
use Rattle.demand3.specs.Words.{NormalForm, coefficient_in, Relaid}
use Rattle.demand3.specs.SameWords.{normal_iff}
use Rattle.demand3.specs.Promises.{Reduced, Compared}
use Rattle.demand3.proofs.BoxCalls.{yes_or_no}

-- ---- the call

-- a form passes where its number is 0
pub form-iff : (f : Form) → (form_number f ≡ 0) ↔ FormPasses f
form-iff f = call_iff false f.total (fits_width f.width) f.support f.degrees (λ n. (f.coefficients, n) ∷ [])

pub placed : {f : Form} → FormPasses f → length f.degrees ≡ length f.support → Placed f
placed {f} passes each = record { places = places_of f.total f.support passes.indices passes.distinct; each = each }

pub compared : (f g : Form) → length f.degrees ≡ length f.support → length g.degrees ≡ length g.support
    → {answer : Reply} → answer ≡ same_reply f g → Compared f g answer
unfolding same_reply
compared f g each each' e =
    let zero = first-zero (form_number f) (form_number g) in
    let passes : (first (form_number f) (form_number g) ≡ 0) ↔ (FormPasses f × FormPasses g) = (
      λ z. ((form-iff f).0 (zero.0 z).0, (form-iff g).0 (zero.0 z).1),
      λ p. zero.1 ((form-iff f).1 p.0, (form-iff g).1 p.1),
    ) in
    let told = yes_or_no (first (form_number f) (form_number g)) (same_forms f g) passes (λ p. same_forms-iff f g (placed p.0 each) (placed p.1 each')) e in
    record { accepted = told.0; either = told.1; yes = told.2 }

-- ---- an equivalence

pub same_refl : (f : Form) → Same f f
same_refl f = record { totals = refl; widths = refl; values = λ zs l. refl }

pub same_sym : {f g : Form} → Same f g → Same g f
same_sym s = record { totals = sym s.totals; widths = sym s.widths; values = λ zs l. sym (s.values zs (l ∙ sym s.totals)) }

pub same_trans : {f g h : Form} → Same f g → Same g h → Same f h
same_trans s t =
    record { totals = s.totals ∙ t.totals; widths = s.widths ∙ t.widths; values = λ zs l. s.values zs l ∙ t.values zs (l ∙ s.totals) }

-- ---- reduction

-- what reduction leaves is the same form
pub reduced_same : {C : Type 0} {w : ℕ} {ds c : List ℕ} {number : ℕ} {after : List ℕ} → Reduced C w ds c number after → number ≡ 0
    → (n : ℕ) (ps : List ℕ) → Same (form n w ps ds after) (form n w ps ds c)
reduced_same r zero n ps = record { totals = refl; widths = refl; values = λ zs l. r.values zero _ }

-- ---- normal forms

-- with equal settings they are the same exactly when their coefficients are equal
pub normal_same_iff : (n w : ℕ) (ps ds c d : List ℕ) → Places n ps → length ds ≡ length ps → NormalForm w ds c → NormalForm w ds d
    → Same (form n w ps ds c) (form n w ps ds d) ↔ (c ≡ d)
normal_same_iff n w ps ds c d places sized a b = (
  λ s.
      normal_eq_of_values w ds c d ((normal_iff w ds c).1 a) ((normal_iff w ds d).1 b)
      (λ k p. sym (on_grid c k) ∙ s.values (map pos (E k)) (length-map (E k) pos ∙ length-scattered n ps (digits ds k)) ∙ on_grid d k),
  λ e. subst (λ (b : List ℕ). Same (form n w ps ds c) (form n w ps ds b)) e (same_refl (form n w ps ds c)),
)
  where
    E : ℕ → List ℕ
    E k = scattered n ps (digits ds k)

    on_grid : (c : List ℕ) (k : ℕ) → form_value (form n w ps ds c) (map pos (E k)) ≡ value (2 ^ w) ds c (digits ds k)
    on_grid c k = form_value_natural (form n w ps ds c) (E k) ∙ ap (value (2 ^ w) ds c) (picked-digits n ps ds [] places sized k)

-- ---- other boxes

-- where every exponent list has the same coefficient in both forms, each of the first is matched in the second
matched_relaid : (f g : Form) → Placed f → ((es : List ℕ) → coefficient_in f es ≡ coefficient_in g es) → matched f g ≡ true
unfolding matched
matched_relaid f g placed each =
    (true-iff _).1 ((every-iff (cells f.degrees) _).1 (λ n l.
    (true-iff _).0 (eq-eqb _ _ (ap (◌% bound f.width (digits f.degrees n))
    (sym (coefficient_at-cell f.total f.support f.degrees f.coefficients placed.places placed.each n l) ∙ each _)))))

-- forms with the same coefficients in other boxes are the same
pub relaid_same : {f g : Form} → Placed f → Placed g → Relaid f g → Same f g
unfolding same_forms
relaid_same {f} {g} placed placed' r =
    (same_forms-iff f g placed placed').0
    (ap₂ ◌&&◌ (ap₂ ◌&&◌ (ap₂ ◌&&◌ (eq-eqb _ _ r.totals) (eq-eqb _ _ r.widths)) (matched_relaid f g placed r.each))
    (matched_relaid g f placed' (λ es. sym (r.each es))))

-- so that a yes at one order of the supports is a yes at every order
pub same_any_order_lem : {f f' g g' : Form} → Placed f → Placed f' → Placed g → Placed g' → Relaid f f' → Relaid g g' → Same f g ↔ Same f' g'
same_any_order_lem a a' b b' r s =
    let e = relaid_same a a' r in
    let h = relaid_same b b' s in
    (λ t. same_trans (same_sym e) (same_trans t h), λ t. same_trans e (same_trans t (same_sym h)))

-- What follows for comparisons: two forms that pass and are the same get a yes.
use Rattle.std.proofs.Common.{◌≡◌, sym, ap, ap₂, ◌∙◌, ◌⊎◌, inl, inr, ⊎_elim, Bool, false, List, [], ◌∷◌, ℕ, length}
use Rattle.std.proofs.lemmas.List.{length-replicate}
use Rattle.meaning.specs.Boxes.{cells}
use Rattle.meaning.specs.Polynomials.{Term}
use Rattle.meaning.specs.Sameness.{Form, Same}
use Rattle.meaning.specs.Replies.{Reply, told, accepted}
use Rattle.settings.specs.declared.Form.{Form as Lent}
use Rattle.settings.specs.Forms.{form_lent}
use Rattle.theory.specs.SameForms.{form}
use Rattle.demand3.specs.Words.{AgreeingOver, Relaid}
use Rattle.demand3.specs.Settings.{CallPasses, FormPasses}
use Rattle.demand3.specs.Promises.{Decides, Compared}
use Rattle.demand3.proofs.Comparisons.{placed, same_trans, same_any_order_lem}
use Rattle.demand3.proofs.SameRecoveries.{recoveries_same}
use Rattle.calls_together.proofs.Together.{reply-accepted, passes_with, Recovers}

-- ---- one comparison

module _ {f g : Form} {answer : Reply} (c : Compared f g answer) where
  -- forms that pass and are the same
  yes_of : FormPasses f → FormPasses g → Same f g → answer ≡ accepted 1
  yes_of p q s = let z = c.accepted.1 (p, q) in reply-accepted answer 1 z ((c.yes z).1 s)

  -- what a yes says
  number_of : answer ≡ accepted 1 → answer.number ≡ 0
  number_of e = ap (λ (r : Reply). r.number) e

  same_of : answer ≡ accepted 1 → Same f g
  same_of e = (c.yes (number_of e)).0 (ap (λ (r : Reply). r.value) e)

-- the same settings pass with other coefficients, one for each cell
also_passes : {total : ℕ} {fits : Bool} {support ds c after : List ℕ}
    → CallPasses 65536 false total fits support ds (λ n. (c, n) ∷ []) → length after ≡ cells ds
    → CallPasses 65536 false total fits support ds (λ n. (after, n) ∷ [])
also_passes p e =
    record {
      variable = p.variable;
      few = p.few;
      width = p.width;
      degrees = p.degrees;
      indices = p.indices;
      distinct = p.distinct;
      size = p.size;
      lengths = (e, tt);
    }

-- replies of comparisons that are yes together
same_replies : {r s : Reply} → (r.value ≡ 0) ⊎ (r.value ≡ 1) → (s.value ≡ 0) ⊎ (s.value ≡ 1) → r.number ≡ 0 → s.number ≡ 0
    → (r.value ≡ 1 → s.value ≡ 1) → (s.value ≡ 1 → r.value ≡ 1) → r ≡ s
same_replies {r} {s} x y z u there back = ap₂ told (z ∙ sym u) (⊎_elim (λ (e : r.value ≡ 0). no e y) (λ (e : r.value ≡ 1). e ∙ sym (there e)) x)
  where
    no : r.value ≡ 0 → (s.value ≡ 0) ⊎ (s.value ≡ 1) → r.value ≡ s.value
    no e (inl f) = e ∙ sym f
    no e (inr f) = back f ∙ sym f

-- ---- recoveries

-- what recovery left passes as a form
recovered_passes : {total w : ℕ} {support ds v out : List ℕ} {number : ℕ} {after : List ℕ}
    → Decides (Recovers total w support ds v out) w ds v number after → number ≡ 0 → FormPasses (form total w support ds after)
recovered_passes call zero = let p = call.decided.0 (inl zero) in passes_with p p.width ((call.normal zero).whole, tt)

pub recoveries_follow : {total w : ℕ} {ps ds v out qs fs u room : List ℕ} {k j : ℕ} {after left : List ℕ} → length ds ≡ length ps → length fs ≡ length qs
    → Decides (Recovers total w ps ds v out) w ds v k after → Decides (Recovers total w qs fs u room) w fs u j left
    → {answer : Reply} → Compared (form total w ps ds after) (form total w qs fs left) answer
    → (p : List Term) → AgreeingOver total w ps ds v p → AgreeingOver total w qs fs u p → k ≡ 0 → j ≡ 0 → answer ≡ accepted 1
recoveries_follow each each' call call' c p agrees agrees' zero zero' =
    let a = recovered_passes call zero in
    let b = recovered_passes call' zero' in
    yes_of c a b (recoveries_same p (placed a each).places each call zero agrees (placed b each').places each' call' zero' agrees')

-- ---- reduction

-- ---- several comparisons

-- forms with a degree for each variable
abbrev Each : Form → Type 0
Each f = length f.degrees ≡ length f.support

-- as a lent form has
pub each : (f : Lent) → Each (form_lent f)
each f = length-replicate (length f.settings.support.now) f.settings.max_degree

pub orders_follow : {f f' g g' : Form} → Each f → Each f' → Each g → Each g' → {one other : Reply} → Compared f g one → Compared f' g' other
    → Relaid f f' → Relaid g g' → one.number ≡ 0 → other.number ≡ 0 → one ≡ other
orders_follow a c b d x y r s z u =
    let p = x.accepted.0 z in
    let q = y.accepted.0 u in
    let i = same_any_order_lem (placed p.0 a) (placed q.0 c) (placed p.1 b) (placed q.1 d) r s in
    same_replies x.either y.either z u (λ v. (y.yes u).1 (i.0 ((x.yes z).0 v))) (λ v. (x.yes z).1 (i.1 ((y.yes u).0 v)))

pub handed_on : {f g h : Form} {first second whole : Reply} → Compared f g first → Compared g h second → Compared f h whole
    → first ≡ accepted 1 → second ≡ accepted 1 → whole ≡ accepted 1
handed_on x y z e s = yes_of z (x.accepted.0 (number_of x e)).0 (y.accepted.0 (number_of y s)).1 (same_trans (same_of x e) (same_of y s))

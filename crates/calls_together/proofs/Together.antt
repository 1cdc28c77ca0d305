-- What follows from the promises of several calls on tables of numbers: their conditions hand on from one call to the next.
use Rattle.std.proofs.Common.{◌≡◌, refl, sym, ap₂, ◌∙◌, inl, Bool, true, false, ℕ, List, [], ◌∷◌, ℤ, length}
use Rattle.meaning.specs.Boxes.{cells}
use Rattle.meaning.specs.Polynomials.{Term}
use Rattle.meaning.specs.Replies.{Reply, told, accepted}
use Rattle.meaning.specs.Settings.{fits_width}
use Rattle.demand3.specs.Words.{polynomial_value, PointOf, Agreeing, Coefficients, GridSum}
use Rattle.demand3.specs.Settings.{Lengths, Exact, CallPasses}
use Rattle.demand3.specs.Promises.{Decides, Valued, Judged, Summed, Normalised}
use Rattle.demand3.proofs.Consequences.{sum-accepted, sum-answer, recovered_normal_form}

-- a reply with the number 0
pub reply-accepted : (r : Reply) (v : ℕ) → r.number ≡ 0 → r.value ≡ v → r ≡ accepted v
reply-accepted r v e f = ap₂ told e f

-- what recovery asked of the settings passes in every call, with its own tables and at any width that fits
pub passes_with : {limit total : ℕ} {strict fits fits' : Bool} {support ds : List ℕ} {tables tables' : ℕ → Lengths}
    → CallPasses limit true total fits support ds tables → fits' ≡ true → Exact (tables' (cells ds)) → CallPasses limit strict total fits' support ds tables'
passes_with p w e =
    record {
      variable = p.variable;
      few = p.few;
      width = w;
      degrees = λ h. p.degrees refl;
      indices = p.indices;
      distinct = p.distinct;
      size = p.size;
      lengths = e;
    }

abbrev pub Recovers : ℕ → ℕ → List ℕ → List ℕ → List ℕ → List ℕ → Type 0
Recovers total w support ds v out = CallPasses 65536 true total (fits_width w) support ds (λ n. (v, n) ∷ (out, n) ∷ [])

module _ {total w : ℕ} {support ds v out : List ℕ} {number : ℕ} {after : List ℕ}
    (call : Decides (Recovers total w support ds v out) w ds v number after) (zero : number ≡ 0) where
  -- what passed
  pub passed : Recovers total w support ds v out
  passed = call.decided.0 (inl zero)

  -- the value of what recovery left
  pub value-follows : {xs : List ℕ} {answer : Reply}
      → Valued (CallPasses 65536 false total (fits_width w) support ds (λ n. (after, n) ∷ (xs, length support) ∷ [])) w ds after xs answer
      → length xs ≡ length support
      → (p : List Term) → Agreeing w ds v p → (zs : List ℤ) → PointOf w ds xs zs → answer ≡ accepted (polynomial_value w ds p zs)
  value-follows {answer = answer} value e p a zs h =
      let z = value.accepted.1 (passes_with passed passed.width ((call.normal zero).whole, (e, tt))) in
      reply-accepted answer _ z (value.values z zs h ∙ call.values zero p a zs)

  -- it is a normal form
  pub valid_follows : {answer : Reply} → Judged (CallPasses 65536 false total true support ds (λ n. (after, n) ∷ [])) w ds after answer → answer ≡ accepted 1
  valid_follows {answer} judged =
      let z = judged.accepted.1 (passes_with passed refl ((call.normal zero).whole, tt)) in
      reply-accepted answer 1 z ((judged.yes z).1 (passed.width, call.normal zero))

  -- the normaliser leaves the same
  pub normal_follows : {c : List ℕ} (room : List ℕ) {number' : ℕ} {after' : List ℕ}
      → Normalised (CallPasses 65536 false total (fits_width w) support ds (λ n. (c, n) ∷ (room, n) ∷ [])) w ds c number' after'
      → (p : List Term) → Coefficients w ds p c → Agreeing w ds v p → length room ≡ cells ds → (number' ≡ 0) × (after' ≡ after)
  normal_follows room normal p h a e =
      let z = normal.accepted.1 (passes_with passed passed.width (h.whole, (e, tt))) in
      (z, sym (normal.only z p h _ (recovered_normal_form call zero p a)))

-- sums of grids
pub sum-follows : {total w : ℕ} {support ds u v t out₁ out₂ out₃ a b c s : List ℕ} (out₄ : List ℕ) {n₁ n₂ n₃ n₄ : ℕ}
    → Decides (Recovers total w support ds u out₁) w ds u n₁ a
    → Decides (Recovers total w support ds v out₂) w ds v n₂ b
    → Decides (Recovers total w support ds t out₃) w ds t n₃ c
    → Summed (CallPasses 65536 false total (fits_width w) support ds (λ n. (a, n) ∷ (b, n) ∷ (out₄, n) ∷ [])) w ds a b n₄ s
    → GridSum w ds u v t → n₁ ≡ 0 → n₂ ≡ 0 → length t ≡ cells ds → length out₃ ≡ cells ds → length out₄ ≡ cells ds
    → (n₃ ≡ 0) × (n₄ ≡ 0) × (s ≡ c)
sum-follows {total} {w} {support} {ds} {t = t} {out₃ = out₃} out₄ first second whole sum grid zero₁ zero₂ long₁ long₂ long₃ =
    let p = passed first zero₁ in
    let q : Recovers total w support ds t out₃ = passes_with p p.width (long₁, (long₂, tt)) in
    let z = sum.accepted.1 (passes_with p p.width ((first.normal zero₁).whole, ((second.normal zero₂).whole, (long₃, tt)))) in
    (sum-accepted grid first second whole zero₁ zero₂ q, z, sum-answer grid first second whole zero₁ zero₂ q _ (sum.sum z))

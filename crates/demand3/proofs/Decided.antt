-- Recovery keeps its promise: `Decides` follows from the two equations of a call's contract, whatever its causes before 6 are.
use Rattle.std.specs.Prelude.{◌≡◌, refl, ◌⊎◌, ◌↔◌, Bool, true, false, cond, ℕ, List, [], ◌∷◌, T}
use Rattle.std.proofs.Common.{sym, ap, ◌∙◌, inl, inr}
use Rattle.meaning.specs.Tables.{tabulate}
use Rattle.meaning.specs.Boxes.{cells}
use Rattle.meaning.specs.Recovery.{accepts, answer}
use Rattle.meaning.specs.Settings.{fits_width, first}
use Rattle.meaning.specs.Calls.{in_out_number, left, recovery_number, recovery_left}
use Rattle.demand3.specs.Tests.{suc-zero, first-zero, first_6}
use Rattle.demand3.specs.Promises.{Decides}
use Rattle.demand3.specs.Settings.{CallPasses, passing_iff, passing_not_6}
use Rattle.demand3.specs.Recovery.{accepts_of_on_grid, agreeing_of_accepts, answer_agrees, answer_values, disagreement}
use Rattle.demand3.proofs.Recovered.{answer_normal, answer_decides, answer_unique, another}

-- 0 where every difference passes, else 6
abbrev zero_or_6 : Bool → ℕ
zero_or_6 b = cond b 0 6

-- unless there is a cause before
abbrev verdict : ℕ → Bool → ℕ
verdict cause b = first cause (zero_or_6 b)

verdict_0 : (cause : ℕ) (b : Bool) → (verdict cause b ≡ 0) ↔ ((cause ≡ 0) × T b)
verdict_0 cause true = (λ e. (((first-zero cause 0).0 e).0, tt), λ e. (first-zero cause 0).1 (e.0, refl))
verdict_0 cause false = (λ e. suc-zero 5 ((first-zero cause 6).0 e).1, λ e. absurd e.1)

-- what is accepted passes
pub accepted-accepts : (cause : ℕ) (b : Bool) → first cause (cond b 0 6) ≡ 0 → T b
accepted-accepts cause b e = ((verdict_0 cause b).0 e).1

verdict_6 : (cause : ℕ) (b : Bool) → (cause ≡ 6 → ⊥) → (verdict cause b ≡ 6) ↔ ((cause ≡ 0) × (T b → ⊥))
verdict_6 cause b never = (
  λ e. let z = first_6 cause (zero_or_6 b) never e in (z, there b (sym (below b z) ∙ e)),
  λ e. below b e.0 ∙ back b e.1,
)
  where
    below : (b : Bool) → cause ≡ 0 → verdict cause b ≡ zero_or_6 b
    below b z = rw z refl

    there : (b : Bool) → zero_or_6 b ≡ 6 → T b → ⊥
    there true e t = suc-zero 5 (sym e)
    there false e t = t

    back : (b : Bool) → (T b → ⊥) → zero_or_6 b ≡ 6
    back true f = absurd (f tt)
    back false f = refl

module _ {C : Type 0} (w : ℕ) (ds v : List ℕ) (cause : ℕ) (conditions : (cause ≡ 0) ↔ C) (not_6 : cause ≡ 6 → ⊥)
    {number : ℕ} {after : List ℕ} (says : number ≡ first cause (cond (accepts w ds v) 0 6))
    (leaves : cause ≡ 0 → after ≡ cond (accepts w ds v) (answer w ds v) (tabulate (cells ds) (λ n. 0))) where
  zero-iff : (number ≡ 0) ↔ (C × T (accepts w ds v))
  zero-iff =
      let e = verdict_0 cause (accepts w ds v) in
      (λ z. let s = e.0 (sym says ∙ z) in (conditions.0 s.0, s.1), λ s. says ∙ e.1 (conditions.1 s.0, s.1))

  six_iff : (number ≡ 6) ↔ (C × (T (accepts w ds v) → ⊥))
  six_iff =
      let e = verdict_6 cause (accepts w ds v) not_6 in
      (λ z. let s = e.0 (sym says ∙ z) in (conditions.0 s.0, s.1), λ s. says ∙ e.1 (conditions.1 s.0, s.1))

  either : C → (number ≡ 0) ⊎ (number ≡ 6)
  either c = go (accepts w ds v) (λ t. zero-iff.1 (c, t)) (λ f. six_iff.1 (c, f))
    where
      go : (b : Bool) → (T b → number ≡ 0) → ((T b → ⊥) → number ≡ 6) → (number ≡ 0) ⊎ (number ≡ 6)
      go true f g = inl (f tt)
      go false f g = inr (g (λ t. t))

  -- what is left after 0 and after 6
  after_0 : number ≡ 0 → after ≡ answer w ds v
  after_0 z = let s = zero-iff.0 z in leaves (conditions.1 s.0) ∙ go (accepts w ds v) s.1
    where
      go : (b : Bool) → T b → cond b (answer w ds v) (tabulate (cells ds) (λ n. 0)) ≡ answer w ds v
      go true t = refl
      go false t = absurd t

  after_6 : number ≡ 6 → after ≡ tabulate (cells ds) (λ n. 0)
  after_6 z = let s = six_iff.0 z in leaves (conditions.1 s.0) ∙ go (accepts w ds v) s.1
    where
      go : (b : Bool) → (T b → ⊥) → cond b (answer w ds v) (tabulate (cells ds) (λ n. 0)) ≡ tabulate (cells ds) (λ n. 0)
      go true f = absurd (f tt)
      go false f = refl

  pub decides : Decides C w ds v number after
  decides =
      record {
        decided = (elim [ inl z ↦ (zero-iff.0 z).0 | inr z ↦ (six_iff.0 z).0 ], either);
        accepted = (
          λ z. let s = zero-iff.0 z in (s.0, agreeing_of_accepts w ds v s.1),
          λ s. zero-iff.1 (s.0, accepts_of_on_grid w ds v s.1.0 s.1.1.everywhere),
        );
        accepted_any = (
          λ z. let s = zero-iff.0 z in let p = agreeing_of_accepts w ds v s.1 in (s.0, (p.0, p.1.everywhere)),
          λ s. zero-iff.1 (s.0, accepts_of_on_grid w ds v s.1.0 s.1.1),
        );
        refused = (
          λ z. let s = six_iff.0 z in (s.0, λ p a. s.1 (accepts_of_on_grid w ds v p a.everywhere)),
          λ s. six_iff.1 (s.0, λ t. let p = agreeing_of_accepts w ds v t in s.1 p.0 p.1),
        );
        refused_any = (
          λ z. let s = six_iff.0 z in (s.0, λ p a. s.1 (accepts_of_on_grid w ds v p a)),
          λ s. six_iff.1 (s.0, λ t. let p = agreeing_of_accepts w ds v t in s.1 p.0 p.1.everywhere),
        );
        zeroed = after_6;
        normal = λ z. rw (after_0 z) (answer_normal w ds v);
        agrees = λ z. rw (after_0 z) (answer_agrees w ds v (zero-iff.0 z).1);
        only = λ z c n a. answer_unique w ds v c n a ∙ sym (after_0 z);
        others = λ z c n ne. disagreement w ds v c (λ a. ne (answer_unique w ds v c n a ∙ sym (after_0 z)));
        values = λ z p a zs. rw (after_0 z) (answer_values w ds v p a zs);
        deciding = λ z h p a zs. rw (after_0 z) (answer_decides w ds v h p a zs);
        left_open = λ z i l h. rw (after_0 z) (another w ds v (zero-iff.0 z).1 i l h);
      }

-- the call on tables of numbers
pub tables_decide : (total w : ℕ) (support ds v out : List ℕ) {number : ℕ} {after : List ℕ}
    → number ≡ recovery_number total w support ds v out → after ≡ recovery_left total w support ds v out
    → Decides (CallPasses 65536 true total (fits_width w) support ds (λ n. (v, n) ∷ (out, n) ∷ [])) w ds v number after
unfolding recovery_number recovery_left
tables_decide total w support ds v out e f =
    decides w ds v (in_out_number true total w support ds v out) (passing_iff 65536 true total (fits_width w) support ds [] (λ n. (v, n) ∷ (out, n) ∷ []))
    (passing_not_6 65536 true total (fits_width w) support ds [] (λ n. (v, n) ∷ (out, n) ∷ [])) e
    (λ z. f ∙ ap (λ (k : ℕ). left k (cond (accepts w ds v) (answer w ds v) (tabulate (cells ds) (λ n. 0))) out) z)

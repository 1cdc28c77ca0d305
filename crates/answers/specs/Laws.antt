-- What follows for numbers and tables once a call is known to be accepted, or refused for a reason.
use Rattle.std.specs.Prelude.{◌≡◌, refl, List, ℕ, suc, pred, Result, Err, IsErrAnd}
use Rattle.std.proofs.Common.{sym, ◌∙◌, ap}
use Rattle.std.proofs.lemmas.Result.{err_from_is_err_and}
use Rattle.meaning.specs.Replies.{Reply, accepted, refused}
use Rattle.meaning.specs.Settings.{first}
use Rattle.meaning.specs.Calls.{reply, left}
use Rattle.theory.specs.AcceptedCalls.{number-reply}
use Rattle.answers.specs.declared.Refusal.{Refusal}
use Rattle.answers.specs.declared.Refusal.TheVariants.{EmptySupport, TooManyVariables, WidthOutOfRange, DegreeZero, SupportIndex, NotDivisible, RepeatedIndex, TooLarge, WrongLength, NoAnswer, OutOfRange, IllFormed}
use Rattle.answers.specs.Said.{code}

-- the number of a refusal is not 0
pub code-suc : (r : Refusal) → code r ≡ suc (pred (code r))
code-suc EmptySupport = refl
code-suc TooManyVariables = refl
code-suc WidthOutOfRange = refl
code-suc DegreeZero = refl
code-suc SupportIndex = refl
code-suc NotDivisible = refl
code-suc RepeatedIndex = refl
code-suc TooLarge = refl
code-suc WrongLength = refl
code-suc NoAnswer = refl
code-suc OutOfRange = refl
code-suc IllFormed = refl

-- what `?` hands on is the refusal that came
pub handed_on : {T : Type 0} (answer : Result T Refusal) {r : Refusal} → IsErrAnd answer (λ e. e ≡ r) → answer ≡ Err r
handed_on answer e = let p = err_from_is_err_and answer e in p.1 ∙ ap Err p.2

-- an accepted call: its number is 0 and its value the one that was asked for
pub number-accepted : (n v : ℕ) {x : ℕ} → accepted x ≡ reply n v → n ≡ 0
number-accepted n v e = sym (number-reply n v) ∙ sym (ap (λ (r : Reply). r.number) e)

pub value-accepted : (n v : ℕ) {x : ℕ} → accepted x ≡ reply n v → x ≡ v
value-accepted n v {x} e = ap (λ (r : Reply). r.value) (e ∙ ap (λ (k : ℕ). reply k v) (number-accepted n v e))

module _ (r : Refusal) where
  -- a refused call: the number is the refusal's
  pub number-refused : (n v : ℕ) → refused (code r) ≡ reply n v → n ≡ code r
  number-refused n v e = sym (number-reply n v) ∙ sym (ap (λ (r : Reply). r.number) e)

  -- what is said, left in a table and asked next where the number is a refusal's
  pub reply-code : {n : ℕ} (v : ℕ) → n ≡ code r → refused (code r) ≡ reply n v
  reply-code v e = rw (e, code-suc r)

  pub first_code : {n : ℕ} (k : ℕ) → n ≡ code r → first n k ≡ code r
  first_code k e = rw (e, code-suc r)

  pub left-code : {n : ℕ} (done was : List ℕ) → n ≡ code r → left n done was ≡ was
  left-code done was e = rw (e, code-suc r)

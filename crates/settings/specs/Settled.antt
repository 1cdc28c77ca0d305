-- Calls, by what the check of their settings said: what it means for the number, the reply and a lent table.
use Rattle.std.specs.Prelude.{◌≡◌, Bool, true, false, cond, List, ℕ, Result, Ok, Err}
use Rattle.std.proofs.Common.{sym, ◌∙◌, ap}
use Rattle.meaning.specs.Replies.{accepted, refused}
use Rattle.meaning.specs.Boxes.{cells}
use Rattle.meaning.specs.Settings.{first, settings_number, call_number}
use Rattle.meaning.specs.Calls.{reply, left}
use Rattle.answers.specs.declared.Refusal.{Refusal}
use Rattle.answers.specs.Said.{code, said}
use Rattle.answers.specs.Laws.{number-accepted, value-accepted, number-refused, reply-code, first_code, left-code}

-- the settings pass, and the box has `count` cells
pub record Settled (strict : Bool) (total : ℕ) (fits : Bool) (support ds : List ℕ) (count : ℕ) : Type 0 where
  pub passes : settings_number strict total fits support ds ≡ 0
  pub counted : count ≡ cells ds

-- the lengths decide then
pub settled_call : {strict : Bool} {total : ℕ} {fits : Bool} {support ds : List ℕ} {count : ℕ} → Settled strict total fits support ds count
    → (exact : Bool) → call_number strict total fits support ds exact ≡ cond exact 0 9
unfolding call_number
settled_call s exact = ap (λ (n : ℕ). first n (cond exact 0 9)) s.passes

-- the settings are turned down for the reason r
pub record Unsettled (strict : Bool) (total : ℕ) (fits : Bool) (support ds : List ℕ) (r : Refusal) : Type 0 where
  pub refuses : settings_number strict total fits support ds ≡ code r

-- the call is turned down for it then
pub unsettled_call : {strict : Bool} {total : ℕ} {fits : Bool} {support ds : List ℕ} {r : Refusal} → Unsettled strict total fits support ds r
    → (exact : Bool) → call_number strict total fits support ds exact ≡ code r
unfolding call_number
unsettled_call {r = r} s exact = first_code r (cond exact 0 9) s.refuses

-- from the answer of a check
module _ (strict : Bool) (total : ℕ) (fits : Bool) (support ds : List ℕ) {answer : Result ℕ Refusal}
    (says : said answer ≡ reply (settings_number strict total fits support ds) (cells ds)) where
  pub settled : {count : ℕ} → answer ≡ Ok count → Settled strict total fits support ds count
  settled e =
      let told = sym (ap said e) ∙ says in
      record {
        passes = number-accepted (settings_number strict total fits support ds) (cells ds) told;
        counted = value-accepted (settings_number strict total fits support ds) (cells ds) told;
      }

  pub unsettled : {r : Refusal} → answer ≡ Err r → Unsettled strict total fits support ds r
  unsettled {r} e =
      record { refuses = number-refused r (settings_number strict total fits support ds) (cells ds) (sym (ap said e) ∙ says) }

-- what the call says and leaves in a table, in each of its three cases
module _ {strict : Bool} {total : ℕ} {fits : Bool} {support ds : List ℕ} where
  module _ {r : Refusal} (u : Unsettled strict total fits support ds r) (exact : Bool) where
    -- settings that are turned down
    pub turned_reply : (v : ℕ) → refused (code r) ≡ reply (call_number strict total fits support ds exact) v
    turned_reply v = reply-code r v (unsettled_call u exact)

    pub turned_left : (done was : List ℕ) → was ≡ left (call_number strict total fits support ds exact) done was
    turned_left done was = sym (left-code r done was (unsettled_call u exact))

  module _ {count : ℕ} (s : Settled strict total fits support ds count) (exact : Bool) where
    pub settled-number : (b : Bool) → exact ≡ b → call_number strict total fits support ds exact ≡ cond b 0 9
    settled-number b e = settled_call s exact ∙ ap (λ (b : Bool). cond b 0 9) e

    -- a wrong length
    pub length-reply : exact ≡ false → (v : ℕ) → refused 9 ≡ reply (call_number strict total fits support ds exact) v
    length-reply e v = sym (ap (λ (n : ℕ). reply n v) (settled-number false e))

    pub length-left : exact ≡ false → (done was : List ℕ) → was ≡ left (call_number strict total fits support ds exact) done was
    length-left e done was = sym (ap (λ (n : ℕ). left n done was) (settled-number false e))

    -- the call is accepted
    pub accepted-reply : exact ≡ true → {x : ℕ} (v : ℕ) → x ≡ v → accepted x ≡ reply (call_number strict total fits support ds exact) v
    accepted-reply e v q = ap accepted q ∙ sym (ap (λ (n : ℕ). reply n v) (settled-number true e))

    pub accepted-left : exact ≡ true → (done was : List ℕ) → done ≡ left (call_number strict total fits support ds exact) done was
    accepted-left e done was = sym (ap (λ (n : ℕ). left n done was) (settled-number true e))

-- Reading a number column by column, from the left: what the columns so far show, and what one more column makes of it.
use Rattle.std.specs.Prelude.{◌≡◌, ℕ, zero, suc, ◌+◌, ◌*◌, ◌-◌, ◌^◌, ◌<◌, ◌&&◌, cond, List, [], ◌∷◌, ltb, eqb, Option, Some, None}
use Rattle.meaning.specs.Replies.{between}
use Rattle.bench_file.specs.Text.{number}

-- the answer to 21 bytes: the number whose text they are, and Ill where they are the text of no number below 2^64
pub data Reads (bytes : List ℕ) : Option ℕ → Type 0 where
  is_number : {n : ℕ} → n < 2 ^ 64 → bytes ≡ number n → Reads bytes (Some n)
  is_ill : ((n : ℕ) → n < 2 ^ 64 → bytes ≡ number n → ⊥) → Reads bytes None

-- the number with one digit more, where the byte is a digit and the number stays below 2^64
unfoldable pub with_last_digit : ℕ → ℕ → Option ℕ
with_last_digit v b = cond (between 48 57 b && ltb (v * 10 + (b - 48)) (2 ^ 64)) (Some (v * 10 + (b - 48))) None

-- but 0
unfoldable pub not_zero : Option ℕ → Option ℕ
not_zero (Some zero) = None
not_zero (Some (suc n)) = Some (suc n)
not_zero None = None

-- one of the first 20 columns after columns that show v: a blank where there was no digit yet, or a digit, which is no leading zero
unfoldable pub with_column_of : ℕ → ℕ → Option ℕ
unfolding with_last_digit not_zero
with_column_of v b = cond (eqb b 32) (cond (eqb v 0) (Some 0) None) (not_zero (with_last_digit v b))

-- go on with the number
unfoldable pub and_then : Option ℕ → (ℕ → Option ℕ) → Option ℕ
and_then (Some n) f = f n
and_then None f = None

-- columns one after the other
unfoldable pub with_columns : ℕ → List ℕ → Option ℕ
unfolding with_column_of and_then
with_columns v [] = Some v
with_columns v (b ∷ bs) = and_then (with_column_of v b) (λ w. with_columns w bs)

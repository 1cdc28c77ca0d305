-- What the answers with a key say.
use Rattle.std.specs.Prelude.{ℕ, List, Result, Ok, Err}
use Rattle.answers.specs.declared.Refusal.{Refusal}
use Rattle.answers.specs.Said.{code}
use Rattle.mono.specs.declared.MonomialKey.{MonomialKey}

-- the number that it says: 0 where there is a key
abbrev pub key_said : Result MonomialKey Refusal → ℕ
key_said (Ok _) = 0
key_said (Err r) = code r

-- the exponents of its key, and others where there is none
abbrev pub exponents_or : List ℕ → Result MonomialKey Refusal → List ℕ
exponents_or others (Ok key) = key.exponents
exponents_or others (Err _) = others

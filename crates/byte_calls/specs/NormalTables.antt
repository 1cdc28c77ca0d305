-- The bytes of a normal form hold it again: at a width of at most 64 each of its coefficients is below 2^64.
use Rattle.std.specs.Prelude.{◌≡◌, ℕ, ◌≤◌, List}
use Rattle.demand3.specs.Words.{NormalForm}
use Rattle.demand3.proofs.NormalForms.{normal_word}
use Rattle.byte_calls.specs.Bytes.{decoded, encoded}
use Rattle.byte_calls.specs.ByteLaws.{decode_encode}

pub decode_normal : {w : ℕ} {ds c : List ℕ} → NormalForm w ds c → w ≤ 64 → decoded (encoded c) ≡ c
decode_normal {c = c} n h = decode_encode c (normal_word n h)

-- The calls on bytes keep their promises, on the tables that the bytes hold. They pass with at most 4,096 cells, where the support has the bytes of its count,
-- which are looked at before the settings, and every other table those of its entries.
use Rattle.std.specs.Prelude.{◌≡◌, ◌↔◌, Bool, false, cond, ℕ, ◌*◌, ◌^◌, ◌≤◌, ◌<◌, List, [], ◌∷◌, true}
use Rattle.std.proofs.Common.{ap, ◌∙◌, pow_pos}
use Rattle.meaning.specs.Tables.{tabulate, at}
use Rattle.meaning.specs.Boxes.{cells}
use Rattle.meaning.specs.Recovery.{accepts, answer}
use Rattle.meaning.specs.Replies.{Reply}
use Rattle.meaning.specs.Settings.{fits_width}
use Rattle.meaning.specs.Calls.{left}
use Rattle.theory.specs.Tables.{at-tabulate-zero}
use Rattle.theory.specs.Ranges.{width_high}
use Rattle.demand3.specs.Settings.{CallPasses, passing_iff, passing_not_6}
use Rattle.demand3.specs.Promises.{Decides, Valued}
use Rattle.demand3.proofs.Recovered.{answer_normal}
use Rattle.demand3.proofs.NormalForms.{normal_word}
use Rattle.demand3.proofs.Decided.{decides}
use Rattle.demand3.proofs.BoxCalls.{valued}
use Rattle.byte_calls.specs.Bytes.{decoded, encoded}
use Rattle.byte_calls.specs.ByteLaws.{decode_encode}
use Rattle.byte_calls.specs.Calls.{bytes_recovery_cause, bytes_recovery_number, bytes_recovery_left, bytes_value_reply}

-- ---- recovery

module _ (count total w : ℕ) (support ds values out : List ℕ) where
  abbrev Recovers : Type 0
  Recovers =
      CallPasses 4096 true total (fits_width w) (decoded support) ds (λ n. (support, count * 8) ∷ (values, n * 8) ∷ (out, n * 8) ∷ [])

  cause-iff : (bytes_recovery_cause count total w support ds values out ≡ 0) ↔ Recovers
  unfolding bytes_recovery_cause
  cause-iff = passing_iff 4096 true total (fits_width w) (decoded support) ds ((support, count * 8) ∷ []) (λ n. (values, n * 8) ∷ (out, n * 8) ∷ [])

  cause_not_6 : bytes_recovery_cause count total w support ds values out ≡ 6 → ⊥
  unfolding bytes_recovery_cause
  cause_not_6 = passing_not_6 4096 true total (fits_width w) (decoded support) ds ((support, count * 8) ∷ []) (λ n. (values, n * 8) ∷ (out, n * 8) ∷ [])

  -- what is left can be read back
  abbrev box : List ℕ
  box = cond (accepts w ds (decoded values)) (answer w ds (decoded values)) (tabulate (cells ds) (λ n. 0))

  box_words : w ≤ 64 → (i : ℕ) → at box i < 2 ^ 64
  box_words h i = go (accepts w ds (decoded values))
    where
      go : (b : Bool) → at (cond b (answer w ds (decoded values)) (tabulate (cells ds) (λ n. 0))) i < 2 ^ 64
      go true = normal_word (answer_normal w ds (decoded values)) h i
      go false = rw (at-tabulate-zero (cells ds) i) (pow_pos 64)

  pub bytes_decide : {number : ℕ} {after : List ℕ}
      → number ≡ bytes_recovery_number count total w support ds values out → after ≡ bytes_recovery_left count total w support ds values out
      → Decides Recovers w ds (decoded values) number (decoded after)
  unfolding bytes_recovery_number bytes_recovery_left
  bytes_decide e f =
      decides w ds (decoded values) (bytes_recovery_cause count total w support ds values out) cause-iff cause_not_6 e
      (λ z. ap decoded (f ∙ ap (λ (k : ℕ). left k (encoded box) out) z) ∙ decode_encode box (box_words (width_high w (cause-iff.0 z).width)))

-- ---- the value

pub bytes_valued : (count total w : ℕ) (support ds coeffs point : List ℕ) {answer : Reply} → answer ≡ bytes_value_reply count total w support ds coeffs point
    → Valued (CallPasses 4096 false total (fits_width w) (decoded support) ds (λ n. (support, count * 8) ∷ (coeffs, n * 8) ∷ (point, count * 8) ∷ []))
    w ds (decoded coeffs) (decoded point) answer
unfolding bytes_value_reply
bytes_valued count total w support ds coeffs point =
    valued w ds (decoded coeffs) (decoded point) _
    (passing_iff 4096 false total (fits_width w) (decoded support) ds ((support, count * 8) ∷ []) (λ n. (coeffs, n * 8) ∷ (point, count * 8) ∷ []))

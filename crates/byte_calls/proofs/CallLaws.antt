-- What follows for the numbers of the calls from what is known of bytes and settings.
use Rattle.std.proofs.Common.{Bor, ◌≡◌, sym, ◌∙◌, ap, Bool, true, false, cond, List, ℕ}
use Rattle.meaning.specs.Replies.{Reply, refused}
use Rattle.meaning.specs.Settings.{fits_width, small_number, first, cube}
use Rattle.meaning.specs.Calls.{reply}
use Rattle.settings.specs.declared.Settings.{Settings}
use Rattle.settings.specs.Forms.{degrees_of}
use Rattle.byte_calls.specs.declared.checks.ByteSettings.{ByteSettings}
use Rattle.byte_calls.specs.Bytes.{decoded}
use Rattle.byte_calls.specs.Forms.{settings_on, byte_degrees}
use Rattle.byte_calls.specs.Calls.{holds, box_number}

-- ---- bytes of a count of entries

-- ---- the support's bytes, then the settings

-- what is said of the settings on the indices that the support's bytes hold
pub on_held : {B : Type 0} (f : ℕ → ℕ → List ℕ → List ℕ → B) (s : ByteSettings) {on : Settings} {indices : Bor (List ℕ)}
    → on ≡ settings_on s indices → indices.now ≡ decoded s.support.now
    → f on.total on.bitwidth on.support.now (degrees_of on) ≡ f s.total s.bitwidth (decoded s.support.now) (byte_degrees s)
on_held f s is held =
    ap (λ (o : Settings). f o.total o.bitwidth o.support.now (degrees_of o)) is
    ∙ ap (λ (t : List ℕ). f s.total s.bitwidth t (cube t s.max_degree)) held

module _ (strict : Bool) (count total w : ℕ) (support ds : List ℕ) where
  box-number : (b : Bool) → holds support count ≡ b
      → box_number strict count total w support ds ≡ first (cond b 0 9) (small_number strict total (fits_width w) (decoded support) ds)
  unfolding box_number
  box-number b e = ap (λ (b : Bool). first (cond b 0 9) (small_number strict total (fits_width w) (decoded support) ds)) e

  pub box_uncounted : holds support count ≡ false → (v : ℕ) → refused 9 ≡ reply (box_number strict count total w support ds) v
  box_uncounted e v = sym (ap (λ (n : ℕ). reply n v) (box-number false e))

  pub box-counted : holds support count ≡ true
      → box_number strict count total w support ds ≡ small_number strict total (fits_width w) (decoded support) ds
  box-counted e = box-number true e

  pub box-reply : holds support count ≡ true → {r : Reply} (v : ℕ) → r ≡ reply (small_number strict total (fits_width w) (decoded support) ds) v
      → r ≡ reply (box_number strict count total w support ds) v
  box-reply e v q = q ∙ sym (ap (λ (n : ℕ). reply n v) (box-counted e))

-- As many copies of the degree as there are support variables, cut at twenty.
use Rattle.std.proofs.Common.{ℕ, ◌≤◌, ◌≡◌, min, length, replicate, take, sym, ap, ◌∙◌, arith}
use Rattle.std.proofs.lemmas.List.{take-replicate, take_all}
use Rattle.std.proofs.Math.ListN.{length-replicate}
use Rattle.std.proofs.Math.Nat.{min-eq_left, min-eq_right}
use Rattle.std.proofs.Math.Decide.{dec_le}
use Rattle.settings.proofs.Settings.degrees.Goals as goal

few : (n d : ℕ) → n ≤ 20 → replicate (min n 20) d ≡ replicate n d
few n d h = ap (λ (k : ℕ). replicate k d) (min-eq_left h)

cut : (n d : ℕ) → replicate (min n 20) d ≡ take 20 (replicate n d)
cut n d = by_size (dec_le n 20)
  where
    by_size : Dec (n ≤ 20) → replicate (min n 20) d ≡ take 20 (replicate n d)
    by_size (yes h) = few n d h ∙ sym (take_all 20 (replicate n d) (rw (length-replicate n d) h))
    by_size (no h) =
        let many : 20 ≤ n = omega (arith, h) in
        ap (λ (k : ℕ). replicate k d) (min-eq_right many) ∙ sym (take-replicate 20 n d many)

pub returns : goal.returns
returns c =
    let s = c.args.self.now in
    record {
      first = c.of_all.ensures ∙ cut (length s.support.now) s.max_degree;
      all = λ h. c.of_all.ensures ∙ few (length s.support.now) s.max_degree h;
    }

-- The number of a call: its settings, then 9 for the lengths, then the number for its values; so that it keeps to its room.
use Rattle.std.proofs.Common.{◌≡◌, refl, sym, ◌⊎◌, inl, inr, ⊎_elim, ◌↔◌, Bool, true, false, ◌&&◌, cond, List, ℕ, zero, suc, ◌*◌, suc-ne-zero, arith, eqb-true, eq-eqb, eqb, length}
use Rattle.std.proofs.Math.Bool.{false≢true}
use Rattle.meaning.specs.Boxes.{cells}
use Rattle.meaning.specs.Recovery.{accepts}
use Rattle.meaning.specs.Replies.{Reply}
use Rattle.meaning.specs.Settings.{fits_width, settings_number, first, call_number}
use Rattle.meaning.specs.Calls.{reply, recovery_number}
use Rattle.meaning.specs.Fit.{Fit, fit_rows, fit_columns_of, fit_settings_number, fit_lengths, fit_cause, fit_succeeds, fit_number, fit_reply}
use Rattle.meaning.specs.Counts.{RecoveryRoom, FitRoom, subtractions, recovery_room_of, recovery_room_lem, fit_room_of, fit_room_lem}
use Rattle.demand3.specs.Tests.{and_true}
use Rattle.calls_together.specs.Rooms.{RecoveryKeeps, FitKeeps}

-- settings that pass: it is 0 or the last number exactly where the lengths do
ends_exact : (exact accepted : Bool) (last : ℕ) → (last ≡ 9 → ⊥)
    → ((first (cond exact 0 9) (cond accepted 0 last) ≡ 0) ⊎ (first (cond exact 0 9) (cond accepted 0 last) ≡ last)) ↔ (exact ≡ true)
ends_exact true true last n = (λ e. refl, λ e. inl refl)
ends_exact true false last n = (λ e. refl, λ e. inr refl)
ends_exact false a last n =
    (⊎_elim (λ (e : 9 ≡ 0). absurd (suc-ne-zero 8 e)) (λ (e : 9 ≡ last). absurd (n (sym e))), λ e. absurd (false≢true e))

module _ (total w : ℕ) (support ds v out : List ℕ) where
  pub recovery_keeps : {room : RecoveryRoom} {number : ℕ} → room ≡ recovery_room_lem total w support ds → number ≡ recovery_number total w support ds v out
      → RecoveryKeeps room (length v) (length out) number
  unfolding recovery_room_lem recovery_number call_number
  recovery_keeps e f = rw (e, f) (go (settings_number true total (fits_width w) support ds))
    where
      exact : Bool
      exact = eqb (length v) (cells ds) && eqb (length out) (cells ds)

      go : (n : ℕ)
          → RecoveryKeeps (recovery_room_of n (cells ds) (subtractions ds)) (length v) (length out)
          (first (first n (cond exact 0 9)) (cond (accepts w ds v) 0 6))
      go zero =
          let ends = ends_exact exact (accepts w ds v) 6 (λ e. six e) in
          let both = and_true (eqb (length v) (cells ds)) (eqb (length out) (cells ds)) in
          record {
            turned = λ h. absurd (h refl);
            exact = λ e. (
              λ x. let b = both.0 (ends.0 x) in (eqb-true (length v) (cells ds) b.0, eqb-true (length out) (cells ds) b.1),
              λ l. ends.1 (both.1 (eq-eqb (length v) (cells ds) l.0, eq-eqb (length out) (cells ds) l.1)),
            );
          }
        where
          six : ◌≡◌ {A = ℕ} 6 9 → ⊥
          six e = omega arith
      go (suc n) = record { turned = λ h. refl; exact = λ e. absurd (suc-ne-zero n e) }

module _ (f : Fit) where
  -- the five lengths
  lengths-iff : (fit_lengths f ≡ true)
      ↔ ((length f.weights ≡ fit_rows f) × (length f.targets ≡ fit_rows f) × (length f.matrix ≡ fit_rows f * length (fit_columns_of f))
      × (length f.right ≡ fit_rows f) × (length f.out ≡ cells f.degrees))
  lengths-iff =
      let a = eqb (length f.weights) (fit_rows f) in
      let b = eqb (length f.targets) (fit_rows f) in
      let c = eqb (length f.matrix) (fit_rows f * length (fit_columns_of f)) in
      let d = eqb (length f.right) (fit_rows f) in
      let e = eqb (length f.out) (cells f.degrees) in
      let four = and_true (a && b && c && d) e in
      let three = and_true (a && b && c) d in
      let two = and_true (a && b) c in
      let one = and_true a b in (
        λ h.
            let p = four.0 h in
            let q = three.0 p.0 in
            let r = two.0 q.0 in
            let s = one.0 r.0 in
            (eqb-true _ _ s.0, eqb-true _ _ s.1, eqb-true _ _ r.1, eqb-true _ _ q.1, eqb-true _ _ p.1),
        λ l.
            four.1 (three.1 (two.1 (one.1 (eq-eqb _ _ l.0, eq-eqb _ _ l.1), eq-eqb _ _ l.2), eq-eqb _ _ l.3), eq-eqb _ _ l.4),
      )

  fit_keeps : FitKeeps (fit_room_lem f) (cells f.degrees) (length f.weights) (length f.targets) (length f.matrix) (length f.right) (length f.out)
      (fit_number f)
  unfolding fit_room_lem fit_number fit_cause
  fit_keeps = go (fit_settings_number f)
    where
      go : (n : ℕ)
          → FitKeeps (fit_room_of n (fit_rows f) (length (fit_columns_of f))) (cells f.degrees) (length f.weights) (length f.targets) (length f.matrix)
          (length f.right) (length f.out) (first (first n (cond (fit_lengths f) 0 9)) (cond (fit_succeeds f) 0 10))
      go zero =
          let ends = ends_exact (fit_lengths f) (fit_succeeds f) 10 (λ e. ten e) in
          record { turned = λ h. absurd (h refl); exact = λ e. (λ x. lengths-iff.0 (ends.0 x), λ l. ends.1 (lengths-iff.1 l)) }
        where
          ten : ◌≡◌ {A = ℕ} 10 9 → ⊥
          ten e = omega arith
      go (suc n) = record { turned = λ h. refl; exact = λ e. absurd (suc-ne-zero n e) }

  -- the room and the number of the reply
  pub reply_keeps : {room : FitRoom} {r : Reply} → room ≡ fit_room_lem f → r ≡ fit_reply f
      → FitKeeps room (cells f.degrees) (length f.weights) (length f.targets) (length f.matrix) (length f.right) (length f.out) r.number
  unfolding fit_reply
  reply_keeps q e = rw (q, e, number_of (fit_number f)) fit_keeps
    where
      number_of : (n v : ℕ) → (reply n v).number ≡ n
      number_of zero v = refl
      number_of (suc n) v = refl

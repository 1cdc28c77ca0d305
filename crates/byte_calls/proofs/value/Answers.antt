-- The support's bytes and the settings, then the tables' bytes; what passes has room: at most twenty indices, and 64 cells or 4,096.
use Rattle.std.proofs.Common.{ℕ, length-take, List, ◌≡◌, true, false, length, ◌*◌, ◌&&◌, sym, ap, ap₂, ◌∙◌, le_trans, le_of_eq, eqb-true, le_refl, arith}
use Rattle.meaning.specs.Settings.{byte_limit}
use Rattle.meaning.specs.Calls.{value_reply}
use Rattle.settings.specs.Forms.{degrees_of}
use Rattle.answers.specs.Laws.{handed_on}
use Rattle.byte_calls.specs.ByteLaws.{length-decoded}
use Rattle.byte_calls.specs.Calls.{holds}
use Rattle.byte_calls.specs.Bytes.{decoded}
use Rattle.byte_calls.specs.Forms.{byte_degrees}
use Rattle.byte_calls.specs.TableLaws.{Boxed, boxed, unboxed, value_turned, value-lengths, value_done}
use Rattle.byte_calls.proofs.CallLaws.{on_held}
use Rattle.byte_calls.proofs.value.Goals.{In_ok-cells, Else-not-holds-2, After-on-asked, then-not-holds-via-then-not-holds, then-not-holds-via-else-not-holds+then-not-holds-2}
use Rattle.byte_calls.proofs.value.Goals as goal

-- the settings pass
passed : (c : In_ok-cells) → Boxed false c.args.settings.now (byte_degrees c.args.settings.now) c.in_ok-cells.cells
passed c = boxed false c.args.settings.now _ c.check.ensures.says c.in_ok-cells.was

-- and each table has its bytes
exact : (c : Else-not-holds-2) → (holds c.args.coeffs.now c.in_ok-cells.cells ≡ true) × (holds c.args.point.now c.args.settings.now.count ≡ true)
exact c = (sym c.holds.ensures ∙ c.if-not-holds.false, sym c.holds-else-not-holds.ensures ∙ c.if-not-holds-2.false)

-- on the indices that the support's bytes hold
reply_on : (c : After-on-asked) → let k = c.args in
    (v t : List ℕ) → value_reply c.on-asked.result.total c.on-asked.result.bitwidth c.on-asked.result.support.now (degrees_of c.on-asked.result) v t
    ≡ value_reply k.settings.now.total k.settings.now.bitwidth (decoded k.settings.now.support.now) (byte_degrees k.settings.now) v t
reply_on c v t =
    let s = c.args.settings.now in
    on_held (λ n w is ds. value_reply n w is ds v t) s c.on-asked.ensures
    (c.check.ensures.leaves (boxed false s (byte_degrees s) c.check.ensures.says c.in_ok-cells.was).held)

known : (c : After-on-asked) → length c.on-asked.result.support.now ≡ c.args.settings.now.count
known c =
    let s = c.args.settings.now in
    let h = (boxed false s (byte_degrees s) c.check.ensures.says c.in_ok-cells.was).held in
    on_held (λ n w is ds. length is) s c.on-asked.ensures (c.check.ensures.leaves h) ∙ length-decoded s.support.now s.count h.bytes

tables : (c : Else-not-holds-2) → let k = c.args in
    (length k.coeffs.now ≡ c.in_ok-cells.cells * 8) × (length k.point.now ≡ k.settings.now.count * 8)
tables c = (eqb-true _ _ (exact c).0, eqb-true _ _ (exact c).1)

pub returns-in_err-cells : goal.returns-in_err-cells
returns-in_err-cells c =
    let k = c.args in
    let s = k.settings.now in
    let x = value_turned s (byte_degrees s) k.coeffs.now k.point.now _ (unboxed false s (byte_degrees s) c.check.ensures.says c.in_err-cells.was) in
    rw (handed_on _ c.from_residual.ensures.1) (record { says = x.0; values = x.1 })

pub returns-then-not-holds : goal.returns-then-not-holds
returns-then-not-holds c =
    let k = c.args in
    let s = k.settings.now in
    let wrong : holds k.coeffs.now c.in_ok-cells.cells && holds k.point.now s.count ≡ false =
    elim c.then-not-holds.branch [
      | then-not-holds-via-then-not-holds w ↦ ap (◌&& holds k.point.now s.count) (sym c.holds.ensures ∙ w.if-not-holds.true)
      | then-not-holds-via-else-not-holds+then-not-holds-2 w ↦
          ap₂ ◌&&◌ (sym c.holds.ensures ∙ w.if-not-holds.false) (sym w.holds-else-not-holds.ensures ∙ w.if-not-holds-2.true)
    ] in
    let x = value-lengths s (byte_degrees s) k.coeffs.now k.point.now (passed (goal.at.returns-then-not-holds c).In_ok-cells) wrong in
    record { says = x.0; values = x.1 }

pub value_in-requires-clause-tables : goal.value_in-requires-clause-tables
value_in-requires-clause-tables c =
    let at = goal.at.value_in-requires-clause-tables c in
    let e = tables at.Else-not-holds-2 in
    let n = known at.After-on-asked in
    (e.0, e.1 ∙ ap (◌* 8) (sym n), le_trans (le_of_eq n) (passed at.In_ok-cells).held.few)

pub slice_bounds-places-end : goal.slice_bounds-places-end
slice_bounds-places-end c = omega (arith, (passed (goal.at.slice_bounds-places-end c).In_ok-cells).held.few)

pub slice_bounds-on-end : goal.slice_bounds-on-end
slice_bounds-on-end c = omega (arith, length-take {A = ℕ}, (passed (goal.at.slice_bounds-on-end c).In_ok-cells).held.few)

pub returns-then-cells-le64 : goal.returns-then-cells-le64
returns-then-cells-le64 c =
    let k = c.args in
    let at = goal.at.returns-then-cells-le64 c in
    let e = exact at.Else-not-holds-2 in
    let x = value_done k.settings.now (byte_degrees k.settings.now) k.coeffs.now k.point.now (passed at.In_ok-cells) e.0 e.1
    (c.value_in.ensures ∙ reply_on at.After-on-asked _ _) in
    record { says = x.0; values = x.1 }

pub value_in-requires-2-clause-tables : goal.value_in-requires-2-clause-tables
value_in-requires-2-clause-tables c =
    let at = goal.at.value_in-requires-2-clause-tables c in
    let e = tables at.Else-not-holds-2 in
    let n = known at.After-on-asked in
    (e.0, e.1 ∙ ap (◌* 8) (sym n), le_trans (le_of_eq n) (passed at.In_ok-cells).held.few)

pub value_in-requires-2-clause-room : goal.value_in-requires-2-clause-room
value_in-requires-2-clause-room c = ((passed (goal.at.value_in-requires-2-clause-room c).In_ok-cells).small, le_refl byte_limit)

pub returns : goal.returns
returns c =
    let k = c.args in
    let at = goal.at.returns c in
    let e = exact at.Else-not-holds-2 in
    let x = value_done k.settings.now (byte_degrees k.settings.now) k.coeffs.now k.point.now (passed at.In_ok-cells) e.0 e.1
    (c.value_in-2.ensures ∙ reply_on at.After-on-asked _ _) in
    record { says = x.0; values = x.1 }

-- The support's bytes and the settings, then the tables' bytes; what passes has room: at most twenty indices, and 64 cells or 4,096.
use Rattle.std.proofs.Common.{ℕ, length-take, List, ◌≡◌, true, false, length, ◌*◌, ◌&&◌, sym, ap, ap₂, ◌∙◌, eqb-true, le_refl, arith}
use Rattle.meaning.specs.Settings.{byte_limit}
use Rattle.meaning.specs.Calls.{recovery_number, recovery_left}
use Rattle.settings.specs.Forms.{degrees_of}
use Rattle.answers.specs.Laws.{handed_on}
use Rattle.byte_calls.specs.Calls.{holds}
use Rattle.byte_calls.specs.Bytes.{decoded, encoded}
use Rattle.byte_calls.specs.Forms.{byte_degrees}
use Rattle.byte_calls.specs.TableLaws.{Boxed, boxed, unboxed, recover_turned, recover_lengths, recover_done, length-zeros}
use Rattle.byte_calls.proofs.CallLaws.{on_held}
use Rattle.byte_calls.proofs.recover.Goals.{In_ok-cells, Else-not-holds-2, After-on-asked, then-not-holds-via-then-not-holds, then-not-holds-via-else-not-holds+then-not-holds-2}
use Rattle.byte_calls.proofs.recover.Goals as goal

-- the settings pass
passed : (c : In_ok-cells) → Boxed true c.args.settings.now (byte_degrees c.args.settings.now) c.in_ok-cells.cells
passed c = boxed true c.args.settings.now _ c.check.ensures.says c.in_ok-cells.was

-- and each table has its bytes
exact : (c : Else-not-holds-2) → (holds c.args.values.now c.in_ok-cells.cells ≡ true) × (holds c.args.out.now c.in_ok-cells.cells ≡ true)
exact c = (sym c.holds.ensures ∙ c.if-not-holds.false, sym c.holds-else-not-holds.ensures ∙ c.if-not-holds-2.false)

tables : (c : Else-not-holds-2) → let k = c.args in
    (length k.values.now ≡ c.in_ok-cells.cells * 8) × (length k.out.now ≡ c.in_ok-cells.cells * 8)
tables c = (eqb-true _ _ (exact c).0, eqb-true _ _ (exact c).1)

-- on the indices that the support's bytes hold
number_on : (c : After-on-asked) → let k = c.args in
    (v t : List ℕ) → recovery_number c.on-asked.result.total c.on-asked.result.bitwidth c.on-asked.result.support.now (degrees_of c.on-asked.result) v t
    ≡ recovery_number k.settings.now.total k.settings.now.bitwidth (decoded k.settings.now.support.now) (byte_degrees k.settings.now) v t
number_on c v t =
    let s = c.args.settings.now in
    on_held (λ n w is ds. recovery_number n w is ds v t) s c.on-asked.ensures
    (c.check.ensures.leaves (boxed true s (byte_degrees s) c.check.ensures.says c.in_ok-cells.was).held)

left_on : (c : After-on-asked) → let k = c.args in
    (v t : List ℕ) → recovery_left c.on-asked.result.total c.on-asked.result.bitwidth c.on-asked.result.support.now (degrees_of c.on-asked.result) v t
    ≡ recovery_left k.settings.now.total k.settings.now.bitwidth (decoded k.settings.now.support.now) (byte_degrees k.settings.now) v t
left_on c v t =
    let s = c.args.settings.now in
    on_held (λ n w is ds. recovery_left n w is ds v t) s c.on-asked.ensures
    (c.check.ensures.leaves (boxed true s (byte_degrees s) c.check.ensures.says c.in_ok-cells.was).held)

pub returns-in_err-cells : goal.returns-in_err-cells
returns-in_err-cells c =
    let k = c.args in
    let s = k.settings.now in
    let x = recover_turned s (byte_degrees s) k.values.now k.out.now _ (unboxed true s (byte_degrees s) c.check.ensures.says c.in_err-cells.was) in
    rw (handed_on _ c.from_residual.ensures.1) (record { says = x.0; leaves = x.1.0; decides = x.1.1 })

pub returns-then-not-holds : goal.returns-then-not-holds
returns-then-not-holds c =
    let k = c.args in
    let s = k.settings.now in
    let wrong : holds k.values.now c.in_ok-cells.cells && holds k.out.now c.in_ok-cells.cells ≡ false =
    elim c.then-not-holds.branch [
      | then-not-holds-via-then-not-holds w ↦ ap (◌&& holds k.out.now c.in_ok-cells.cells) (sym c.holds.ensures ∙ w.if-not-holds.true)
      | then-not-holds-via-else-not-holds+then-not-holds-2 w ↦
          ap₂ ◌&&◌ (sym c.holds.ensures ∙ w.if-not-holds.false) (sym w.holds-else-not-holds.ensures ∙ w.if-not-holds-2.true)
    ] in
    let x = recover_lengths s (byte_degrees s) k.values.now k.out.now (passed (goal.at.returns-then-not-holds c).In_ok-cells) wrong in
    record { says = x.0; leaves = x.1.0; decides = x.1.1 }

pub recover_in-requires-clause-tables : goal.recover_in-requires-clause-tables
recover_in-requires-clause-tables c = tables (goal.at.recover_in-requires-clause-tables c).Else-not-holds-2

pub slice_bounds-places-end : goal.slice_bounds-places-end
slice_bounds-places-end c = omega (arith, (passed (goal.at.slice_bounds-places-end c).In_ok-cells).held.few)

pub slice_bounds-on-end : goal.slice_bounds-on-end
slice_bounds-on-end c = omega (arith, length-take {A = ℕ}, (passed (goal.at.slice_bounds-on-end c).In_ok-cells).held.few)

pub returns-then-cells-le64 : goal.returns-then-cells-le64
returns-then-cells-le64 c =
    let k = c.args in
    let at = goal.at.returns-then-cells-le64 c in
    let e = exact at.Else-not-holds-2 in
    let x = recover_done k.settings.now (byte_degrees k.settings.now) k.values.now k.out.now (passed at.In_ok-cells) e.0 e.1 _ (length-zeros _)
    (c.recover_in.ensures.says ∙ number_on at.After-on-asked _ _) (c.recover_in.ensures.leaves ∙ ap encoded (left_on at.After-on-asked _ _)) in
    record { says = x.0; leaves = x.1.0; decides = x.1.1 }

pub recover_in-requires-2-clause-tables : goal.recover_in-requires-2-clause-tables
recover_in-requires-2-clause-tables c = tables (goal.at.recover_in-requires-2-clause-tables c).Else-not-holds-2

pub recover_in-requires-2-clause-room : goal.recover_in-requires-2-clause-room
recover_in-requires-2-clause-room c = ((passed (goal.at.recover_in-requires-2-clause-room c).In_ok-cells).small, le_refl byte_limit)

pub returns : goal.returns
returns c =
    let k = c.args in
    let at = goal.at.returns c in
    let e = exact at.Else-not-holds-2 in
    let x = recover_done k.settings.now (byte_degrees k.settings.now) k.values.now k.out.now (passed at.In_ok-cells) e.0 e.1 _ (length-zeros _)
    (c.recover_in-2.ensures.says ∙ number_on at.After-on-asked _ _) (c.recover_in-2.ensures.leaves ∙ ap encoded (left_on at.After-on-asked _ _)) in
    record { says = x.0; leaves = x.1.0; decides = x.1.1 }

-- The text lies inside its buffer (`text_inside`), and what is written of the buffer is the text (`printed_lem`).
use Rattle.std.proofs.Common.{◌≡◌, ◌≤◌, Ok, length, sym, subst, length-take-le, arith}
use Rattle.std.proofs.lemmas.Grind.{common_steps}
use Rattle.bench.specs.Endings.{SourceText}
use Rattle.bench.proofs.EndingLaws.{text_inside, printed_lem}
use Rattle.bench.proofs.answer_file.Goals as goal

pub slice_bounds-out-end : goal.slice_bounds-out-end
slice_bounds-out-end g c =
    let out = c.byte_room-out.result in
    let left = c.answer_input.new.out in
    subst (λ n. n ≤ length left) (sym c.size-size.ensures)
    (text_inside out left (sym c.byte_room-out.ensures) c.in_ok-answer_input.field-0 c.in_ok-answer_input.ensures.answered)

pub slice_bounds-write_all-end : goal.slice_bounds-write_all-end
slice_bounds-write_all-end g c =
    let out = c.byte_room-out.result in
    let left = c.answer_input.new.out in
    let inside = text_inside out left (sym c.byte_room-out.ensures) c.in_ok-answer_input.field-0 c.in_ok-answer_input.ensures.answered in
    sym (length-take-le _ _ (subst (λ n. n ≤ length left) (sym c.size-size.ensures) inside))

pub returns-clause-printed : goal.returns-clause-printed
returns-clause-printed g c =
    let out = c.byte_room-out.result in
    let left = c.answer_input.new.out in
    let wrote : c.write_all.result ≡ Ok c.in_ok-map_err.field-0 = grind (arith, common_steps) in
    let source = g.R.Read.remaining c.args.source.now in
    let text = subst (λ n. SourceText source n out left) (sym c.size-size.ensures) c.in_ok-answer_input.ensures.of_source in
    printed_lem _ _ _ c.size-size.result out left (sym c.byte_room-out.ensures) text (rw wrote at c.write_all.ensures.bytes)

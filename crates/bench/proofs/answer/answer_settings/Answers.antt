-- The number of cells that is told is at most 4,096, and 0 beside a refusal, so that the parts of both tables exist.
-- Recovery's text on them is the asked one, whether the settings pass or stop (`text_recovered`).
use Rattle.std.proofs.Common.{List, ℕ, ◌≡◌, sym, ◌∙◌, ap, ap₂, arith, take, length-take-le}
use Rattle.settings.specs.Forms.{degrees_of}
use Rattle.answers.specs.Said.{said, said_number}
use Rattle.bench_file.specs.Printed.{printed, printed_size}
use Rattle.bench_file.specs.Verdict.{verdict}
use Rattle.bench.specs.Answers.{asked_by, text_for, text_of}
use Rattle.bench.proofs.AnswerLaws.{mapped, told_said, small_cells, text_recovered}
use Rattle.bench.proofs.answer.answer_settings.Goals as goal

pub slice_bounds-room-end : goal.slice_bounds-room-end
slice_bounds-room-end c = omega (arith, small_cells c.args.settings.now _ _ c.box_cells-cells.ensures c.unwrap_or-size.ensures)

pub slice_bounds-coefficients-end : goal.slice_bounds-coefficients-end
slice_bounds-coefficients-end c =
    sym (length-take-le _ _ (omega (arith, small_cells c.args.settings.now _ _ c.box_cells-cells.ensures c.unwrap_or-size.ensures)))

pub slice_bounds-recover_multivar_poly-end : goal.slice_bounds-recover_multivar_poly-end
slice_bounds-recover_multivar_poly-end c =
    sym (length-take-le _ _ (omega (arith, small_cells c.args.settings.now _ _ c.box_cells-cells.ensures c.unwrap_or-size.ensures)))

pub returns : goal.returns
returns c =
    let k = c.args in
    let s = k.settings.now in
    let size = c.unwrap_or-size.result in
    let room = take size c.cell_room-room.result in
    let recovered = c.recover_multivar_poly-recovered in
    let small = small_cells s _ _ c.box_cells-cells.ensures c.unwrap_or-size.ensures in
    let outcome : said_number c.map.result ≡ (said c.box_cells-cells.result).number = mapped _ _ _ c.map.ensures.cases in
    let text : text_for (said_number c.verdict_of-outcome.result) (degrees_of s) recovered.new.out ≡ text_of k.reading (asked_by s) k.count k.values.now =
    ap₂ (λ (n : ℕ) (ks : List ℕ). text_for n (degrees_of s) ks)
    (c.verdict_of-outcome.ensures ∙ ap (verdict k.reading _ _) recovered.ensures.says) recovered.ensures.leaves
    ∙ text_recovered s.bitwidth s.total s.max_degree s.support.now (said_number c.map.result) size
    (told_said s _ _ c.box_cells-cells.ensures c.unwrap_or-size.ensures _ outcome) k.reading k.count k.values.now room c.requires.table
    (length-take-le size c.cell_room-room.result (omega (arith, small, c.cell_room-room.ensures.size))) in
    record {
      says = c.write_answer.ensures.says ∙ ap (λ (x : List ℕ). printed_size x k.out.now) text;
      leaves = c.write_answer.ensures.leaves ∙ ap (λ (x : List ℕ). printed x k.out.now) text;
    }

-- What was read leads to a text, which is in the buffer (`answered`, `source_text`). No text is longer than the buffer, so that there is always room
-- (`always_room`).
use Rattle.std.proofs.Common.{rules, ⊎_elim}
use Rattle.bench.specs.Endings.{IsDecided}
use Rattle.bench.specs.declared.Ending.{Ending}
use Rattle.bench.proofs.EndingLaws.{answered, source_text, always_room}
use Rattle.bench.proofs.answer_input.Goals as goal

pub unwrap-size-requires : goal.unwrap-size-requires
unwrap-size-requires g c =
    always_room c.cell_room-values.result c.cell_room-values.ensures.zeros c.in_ok-input.input.reader c.read_input.new.values c.args.out.now
    c.answer_text.new.out c.answer_text.result c.in_ok-input.input.left c.in_ok-input.ensures.led.0 c.requires c.answer_text.ensures.says
    c.answer_text.ensures.leaves

pub returns-then-is_decided-clause-answered : goal.returns-then-is_decided-clause-answered
returns-then-is_decided-clause-answered g c =
    let decided : IsDecided c.in_ok-input.input.reader c.in_ok-input.input.left = search rules in
    answered c.cell_room-values.result c.cell_room-values.ensures.zeros c.in_ok-input.input.reader c.read_input.new.values c.args.out.now
    c.answer_text.new.out c.answer_text.result c.in_ok-input.input.left c.in_ok-input.ensures.led.0 c.requires c.answer_text.ensures.says
    c.answer_text.ensures.leaves (Ending.IllHead c.unwrap-size.result) (λ _. decided) c.unwrap-size.ensures

pub returns-then-is_decided-clause-of_source : goal.returns-then-is_decided-clause-of_source
returns-then-is_decided-clause-of_source g c =
    source_text c.cell_room-values.result c.cell_room-values.ensures.zeros c.in_ok-input.input.reader c.read_input.new.values c.args.out.now
    c.answer_text.new.out c.answer_text.result c.in_ok-input.input.left c.in_ok-input.ensures.led.0 c.requires c.answer_text.ensures.says
    c.answer_text.ensures.leaves _ _ c.in_ok-input.ensures.led.1 c.in_ok-input.ensures.ends _ c.unwrap-size.ensures

pub returns-clause-answered : goal.returns-clause-answered
returns-clause-answered g c =
    answered c.cell_room-values.result c.cell_room-values.ensures.zeros c.in_ok-input.input.reader c.read_input.new.values c.args.out.now
    c.answer_text.new.out c.answer_text.result c.in_ok-input.input.left c.in_ok-input.ensures.led.0 c.requires c.answer_text.ensures.says
    c.answer_text.ensures.leaves (Ending.Whole c.unwrap-size.result) (λ e. cc) c.unwrap-size.ensures

pub returns-clause-of_source : goal.returns-clause-of_source
returns-clause-of_source g c =
    source_text c.cell_room-values.result c.cell_room-values.ensures.zeros c.in_ok-input.input.reader c.read_input.new.values c.args.out.now
    c.answer_text.new.out c.answer_text.result c.in_ok-input.input.left c.in_ok-input.ensures.led.0 c.requires c.answer_text.ensures.says
    c.answer_text.ensures.leaves _ _ c.in_ok-input.ensures.led.1 c.in_ok-input.ensures.ends _ c.unwrap-size.ensures

-- what was not decided is at its end
pub returns-clause-ends : goal.returns-clause-ends
returns-clause-ends g c = ⊎_elim (λ e. e) (λ (d : IsDecided c.in_ok-input.input.reader c.in_ok-input.input.left). absurd (search rules)) c.in_ok-input.ensures.ends

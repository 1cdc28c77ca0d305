-- The text of a refusal has 22 bytes. In a shorter buffer there is no room; else the number and a line end are the text (`refused_line`).
use Rattle.std.proofs.Common.{◌≤◌, ◌<◌, [], length, sym, arith, rules, refl}
use Rattle.bench_file.specs.Layout.{refused_text}
use Rattle.bench_file.specs.NumberLaws.{length-number}
use Rattle.bench_file.specs.PrintLaws.{length-refused, writes_then, writes_same, writes_length}
use Rattle.bench_file.specs.AnswerLaws.{printed_none, printed_no_size, refused_line, writes-size, writes-whole}
use Rattle.bench_file.proofs.answer.write_refused.Goals as goal

pub returns-then-out-lt22 : goal.returns-then-out-lt22
returns-then-out-lt22 c =
    let text = refused_text c.args.code in
    let short : length c.args.out.now < length text = omega (arith, length-refused c.args.code, c.if-out-lt22.true) in
    record { says = sym (printed_no_size text c.args.out.now short); leaves = sym (printed_none text c.args.out.now short) }

pub line_end-requires : goal.line_end-requires
line_end-requires c = omega (arith, writes_length _ _ _ c.number.ensures, c.number.ensures.size, length-number c.from.result)

pub returns : goal.returns
returns c =
    let text = refused_text c.args.code in
    let room : length text ≤ length c.args.out.now = omega (arith, length-refused c.args.code, c.if-out-lt22.false) in
    let line = writes_same _ _ _ text (rw c.from.ensures (refused_line c.args.code)) (writes_then _ _ _ _ _ c.number.ensures c.line_end.ensures) in
    record {
      says = writes-size _ _ text c.args.out.now [] line refl room;
      leaves = writes-whole _ _ text c.args.out.now _ line refl refl (search rules) room;
    }

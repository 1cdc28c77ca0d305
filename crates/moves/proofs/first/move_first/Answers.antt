-- A table of one line is a block of stride 1.
use Rattle.std.proofs.Common.{◌≡◌, suc, ◌^◌, length, ◌∙◌, add-one}
use Rattle.theory.specs.MovedLines.{moved_line}
use Rattle.moves.proofs.FirstLines.{single_line}
use Rattle.moves.proofs.first.move_first.Goals as goal

pub returns-then-table-lines : goal.returns-then-table-lines
returns-then-table-lines c =
    let a = c.args in
    let alone : length a.table.now ≡ suc a.lines.degree = c.if-table-lines.true ∙ add-one _ in
    c.move_long.ensures ∙ single_line (moved_line (2 ^ 64) a.lines.offset) a.lines.degree a.table.now alone

-- The text of `answer_settings` is what the layout says of any bytes that lead to this reader and this table (`text_asked`, `text_says`).
use Rattle.std.proofs.Common.{List, ℕ, ◌∙◌, ap, rules}
use Rattle.bench_file.specs.Printed.{printed, printed_size}
use Rattle.bench.proofs.InputLaws.{SaidBy, asked_text}
use Rattle.bench.proofs.answer.answer_text.Goals as goal

pub returns-clause-says : goal.returns-clause-says
returns-clause-says c =
    let k = c.args in
    let s = c.settings_of-settings in
    let e = s.ensures in
    let head : SaidBy k.reader.head s.result = record { width = e.width; total = e.total; degree = e.degree; support = e.support } in
    λ bs x f q.
    c.answer_settings.ensures.says
    ∙ ap (λ (t : List ℕ). printed_size t k.out.now) (asked_text k.reader s.result head (search rules) _ c.reading.ensures k.values.now bs x f q)

pub returns-clause-leaves : goal.returns-clause-leaves
returns-clause-leaves c =
    let k = c.args in
    let s = c.settings_of-settings in
    let e = s.ensures in
    let head : SaidBy k.reader.head s.result = record { width = e.width; total = e.total; degree = e.degree; support = e.support } in
    λ bs x f q.
    c.answer_settings.ensures.leaves
    ∙ ap (λ (t : List ℕ). printed t k.out.now) (asked_text k.reader s.result head (search rules) _ c.reading.ensures k.values.now bs x f q)

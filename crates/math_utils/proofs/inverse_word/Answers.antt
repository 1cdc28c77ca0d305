-- The contracts of the five lifts, put into one another, are five steps from x, which give the inverse of an odd x modulo 2^64 (`five_steps`).
use Rattle.std.proofs.Common.{ap, ◌∙◌}
use Rattle.theory.specs.Inverses.{word_step, five_steps}
use Rattle.math_utils.proofs.inverse_word.Goals as goal

pub returns : goal.returns
returns c =
    let x = c.args.x in
    c.lift.ensures
    ∙ ap (word_step x)
    (c.lift-v48.ensures
    ∙ ap (word_step x)
    (c.lift-v24.ensures
    ∙ ap (word_step x) (c.lift-v12.ensures ∙ ap (word_step x) c.lift-v6.ensures)))
    ∙ five_steps x c.requires

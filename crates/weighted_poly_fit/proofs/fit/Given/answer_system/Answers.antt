-- The values of a solved system are put into the box.
use Rattle.std.proofs.Common.{refl}
use Rattle.weighted_poly_fit.proofs.FitAnswers.{answered_accepted}
use Rattle.weighted_poly_fit.proofs.fit.Given.answer_system.Goals as goal

pub returns : goal.returns
returns c =
    answered_accepted _ _ _ _ _ _ _ c.in_default.ensures.concluded c.requires.values_len.0 refl _ _
    c.fill_answer-degree.ensures.says c.fill_answer-degree.ensures.leaves

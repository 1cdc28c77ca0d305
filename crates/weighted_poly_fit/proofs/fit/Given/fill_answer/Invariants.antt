-- The loop puts one coefficient after the other.
use Rattle.weighted_poly_fit.proofs.AnswerBox.{Answered}
use Rattle.weighted_poly_fit.proofs.fit.Given.fill_answer.Given as goal

abbrev pub invariant-loop-c : goal.invariant-loop-c
invariant-loop-c l = Answered l.self.bitwidth l.self.degrees.now l.self.most l.values l.exponents l.out l.highest l.c

-- The columns are listed, then the matrix and the right side are filled; together they have the system of the fit.
use Rattle.weighted_poly_fit.proofs.FitSystems.{filled_system}
use Rattle.weighted_poly_fit.proofs.fit.Given.fill_system.Goals as goal

pub returns-clause-fills : goal.returns-clause-fills
returns-clause-fills c =
    let g = c.args.self.now in
    let p = c.requires in
    filled_system g.bitwidth g.degrees.now g.grid.now g.weights.now g.targets.now g.most g.shaped.same g.cols g.counted.column_count _ _ _ _ _
    c.enumerate_basis.ensures p.matrix_len.0 c.fill_matrix.ensures p.matrix_len.1 c.fill_right.ensures

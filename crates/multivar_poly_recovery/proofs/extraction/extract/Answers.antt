-- What the walk over the whole box promises is the answer; after a no `clear` leaves zeros.
use Rattle.std.proofs.Common.{ℕ, ◌%◌, ◌^◌, Bool, cond, List, sym, ap, ◌∙◌}
use Rattle.meaning.specs.Tables.{tabulate, at}
use Rattle.meaning.specs.Boxes.{cells, digits}
use Rattle.meaning.specs.Recovery.{coefficient}
use Rattle.multivar_poly_recovery.proofs.Whole.{whole_says, whole_leaves}
use Rattle.multivar_poly_recovery.proofs.extraction.extract.Goals as goal

-- the table by whether all differences pass
left_by : ℕ → List ℕ → List ℕ → Bool → List ℕ
left_by w ds t b = cond b (tabulate (cells ds) (λ n. coefficient w (digits ds n) (at t n % 2 ^ w))) (tabulate (cells ds) (λ n. 0))

pub returns-then-is_none-clause-says : goal.returns-then-is_none-clause-says
returns-then-is_none-clause-says c =
    let fails = sym c.if-is_none.ensures ∙ whole_says _ _ c.args.table.now _ _ c.whole.ensures in
    ap (λ (b : Bool). cond b 0 6) fails

pub returns-then-is_none-clause-leaves : goal.returns-then-is_none-clause-leaves
unfolding left_by
returns-then-is_none-clause-leaves c =
    let k = c.args in
    let fails = sym c.if-is_none.ensures ∙ whole_says _ _ k.table.now _ _ c.whole.ensures in
    c.clear.ensures
    ∙ ap (λ (n : ℕ). tabulate n (λ j. 0)) (c.whole.auto.table ∙ c.requires.0)
    ∙ ap (left_by k.bitwidth k.degrees.now k.table.now) fails

pub returns-clause-says : goal.returns-clause-says
returns-clause-says c =
    let passes = sym c.if-is_none.ensures ∙ whole_says _ _ c.args.table.now _ _ c.whole.ensures in
    ap (λ (b : Bool). cond b 0 6) passes

pub returns-clause-leaves : goal.returns-clause-leaves
unfolding left_by
returns-clause-leaves c =
    let k = c.args in
    let passes = sym c.if-is_none.ensures ∙ whole_says _ _ k.table.now _ _ c.whole.ensures in
    whole_leaves _ _ k.table.now _ _ c.whole.ensures (c.whole.auto.table ∙ c.requires.0) c.if-is_none.ensures
    ∙ ap (left_by k.bitwidth k.degrees.now k.table.now) passes

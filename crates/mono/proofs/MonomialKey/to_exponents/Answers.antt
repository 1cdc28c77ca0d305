-- The list begins with the first exponents and goes on as it was.
use Rattle.std.proofs.Common.{◌≡◌, ℕ, ◌++◌, ◌∙◌, ap, ap₂, length, le-leb, drop, arith, rules, length-take-le}
use Rattle.mono.proofs.Taken.{copied}
use Rattle.mono.proofs.MonomialKey.to_exponents.Goals as goal

pub returns-clause-leaves : goal.returns-clause-leaves
returns-clause-leaves c =
    let n = c.args.num_vars in
    let key = c.args.self.exponents in
    let out = c.args.out.now in
    let h = c.in_ok-first.ensures.first in
    let whole : length key ≡ 20 = search rules in
    let long : length c.in_ok-first.first.now ≡ n = ap length h.1 ∙ length-take-le n key (omega (arith, h.0)) in
    let fits = c.if-out-first.false in
    simp (le-leb n 20 h.0, le-leb n (length out) (omega (arith, fits, long)))
    (ap₂ ◌++◌ (c.copy_from_slice.ensures.after ∙ h.1) (ap (λ (k : ℕ). drop k out) long) ∙ copied n key out (omega (arith, h.0)) (omega (arith, fits, long)))

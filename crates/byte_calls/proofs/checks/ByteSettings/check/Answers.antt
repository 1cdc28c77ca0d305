-- The support's bytes first; then more than twenty indices are turned down, as one that stands twice is (`crowded_reply`), and at most twenty are decoded and
-- checked.
use Rattle.std.proofs.Common.{◌≡◌, ℕ, ◌*◌, ◌<◌, List, length, replicate, sym, ap, ◌∙◌, arith, eqb-true}
use Rattle.meaning.specs.Replies.{Reply}
use Rattle.meaning.specs.Boxes.{cells}
use Rattle.meaning.specs.Settings.{fits_width, byte_limit, cube, limited_number}
use Rattle.meaning.specs.Calls.{reply}
use Rattle.settings.specs.Causes.{crowded_reply}
use Rattle.byte_calls.specs.Bytes.{decoded}
use Rattle.byte_calls.specs.ByteLaws.{length-decoded}
use Rattle.byte_calls.proofs.CallLaws.{box_uncounted, box-reply}
use Rattle.byte_calls.proofs.checks.ByteSettings.check.Goals as goal

pub returns-then-not-holds-clause-says : goal.returns-then-not-holds-clause-says
returns-then-not-holds-clause-says c = box_uncounted _ _ _ _ _ _ (sym c.holds.ensures ∙ c.if-not-holds.true) _

pub returns-then-self-gt20-clause-says : goal.returns-then-self-gt20-clause-says
returns-then-self-gt20-clause-says c =
    let s = c.args.self.now in
    let support = decoded s.support.now in
    let held = sym c.holds.ensures ∙ c.if-not-holds.false in
    let bytes : length s.support.now ≡ s.count * 8 = eqb-true _ _ held in
    let many : 20 < length support = omega (arith, length-decoded s.support.now s.count bytes, c.if-self-gt20.true) in
    let said_twice : ℕ → Reply = λ x.
    reply (limited_number byte_limit c.args.strict s.total (fits_width s.bitwidth) (replicate 2 x) (cube (replicate 2 x) s.max_degree))
    (cells (cube (replicate 2 x) s.max_degree)) in
    box-reply _ _ _ _ _ _ held _
    (c.check_on.ensures ∙ ap said_twice c.stand_in-twice.ensures
    ∙ crowded_reply byte_limit c.args.strict s.total (fits_width s.bitwidth) support s.max_degree many _ _)

pub returns-clause-says : goal.returns-clause-says
returns-clause-says c =
    let s = c.args.self.now in
    let said_of : List ℕ → Reply = λ t.
    reply (limited_number byte_limit c.args.strict s.total (fits_width s.bitwidth) t (cube t s.max_degree)) (cells (cube t s.max_degree)) in
    box-reply _ _ _ _ _ _ (sym c.holds.ensures ∙ c.if-not-holds.false) _
    (c.check_on-2.ensures ∙ ap said_of c.decode.ensures)

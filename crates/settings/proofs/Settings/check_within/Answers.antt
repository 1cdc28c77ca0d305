-- The support is checked first; where it passes it has at most twenty indices, and the degrees are a part of twenty copies.
use Rattle.std.specs.Prelude.{◌≡◌, refl, Bool, ◌&&◌, cond, ℕ, zero, suc, ◌+◌, ◌≤◌, min, length, eqb, ltb, List}
use Rattle.std.proofs.Common.{◌∙◌, sym, ap, ap₂, arith}
use borrow.Author.Tests.{lt-ltb, le-ltb, ne_eqb}
use Rattle.meaning.specs.Boxes.{cells}
use Rattle.meaning.specs.Replies.{accepted}
use Rattle.meaning.specs.Settings.{limited_number, first}
use Rattle.meaning.specs.Calls.{reply}
use Rattle.answers.specs.Said.{said}
use Rattle.answers.specs.Laws.{handed_on, reply-code, first_code}
use Rattle.settings.specs.declared.Settings.{Settings}
use Rattle.settings.specs.Forms.{degrees_of}
use Rattle.settings.specs.Causes.{support_number, support_passes, cube-number}
use Rattle.settings.proofs.Settings.check_within.Goals as goal

-- the causes before the size, with the degree as the code tests it
module _ (limit : ℕ) (strict fits : Bool) (s : Settings) where
  turned : (b : ℕ) → eqb 0 b ≡ eqb b 0
  turned zero = refl
  turned (suc b) = ne_eqb 0 (suc b) (λ q. omega (arith, q)) ∙ sym (ne_eqb (suc b) 0 (λ q. omega (arith, q)))

  abbrev before : ℕ
  before = support_number s.total fits (strict && eqb s.max_degree 0) s.support.now

  number : limited_number limit strict s.total fits s.support.now (degrees_of s) ≡ first before (cond (ltb limit (cells (degrees_of s))) 8 0)
  number =
      cube-number limit strict s.total fits s.support.now s.max_degree
      ∙ ap (λ (b : Bool). first (support_number s.total fits (strict && b) s.support.now) (cond (ltb limit (cells (degrees_of s))) 8 0)) (turned s.max_degree)

  short : 0 ≡ before → length s.support.now ≤ 20
  short e = (support_passes s.total fits _ s.support.now (sym e)).short

pub returns-in_err-check_support : goal.returns-in_err-check_support
returns-in_err-check_support c =
    let k = c.args in
    let r = c.in_err-check_support.field-0.0 in
    ap said (handed_on _ c.from_residual.ensures.1)
    ∙ reply-code r _ (number k.limit k.strict k.fits k.self.now ∙ first_code r _ (sym c.in_err-check_support.ensures))

pub returns-then-limit-cells : goal.returns-then-limit-cells
returns-then-limit-cells c =
    let k = c.args in
    let s = k.self.now in
    let few = short k.limit k.strict k.fits s c.in_ok-check_support.ensures in
    let counted = c.count_cells-cells.ensures ∙ ap (λ (l : List ℕ). min (cells l) (k.limit + 1)) (c.as_slice.ensures ∙ c.degrees.ensures.all few) in
    sym
    (ap (λ (n : ℕ). reply n (cells (degrees_of s)))
    (number k.limit k.strict k.fits s
    ∙ ap₂ first (sym c.in_ok-check_support.ensures) (ap (λ (b : Bool). cond b 8 0) (lt-ltb _ _ (omega (arith, counted, c.if-limit-cells.true))))))

pub returns : goal.returns
returns c =
    let k = c.args in
    let s = k.self.now in
    let few = short k.limit k.strict k.fits s c.in_ok-check_support.ensures in
    let counted = c.count_cells-cells.ensures ∙ ap (λ (l : List ℕ). min (cells l) (k.limit + 1)) (c.as_slice.ensures ∙ c.degrees.ensures.all few) in
    let all : c.count_cells-cells.result ≡ cells (degrees_of s) = omega (arith, counted, c.if-limit-cells.false) in
    ap accepted all
    ∙ sym
    (ap (λ (n : ℕ). reply n (cells (degrees_of s)))
    (number k.limit k.strict k.fits s
    ∙ ap₂ first (sym c.in_ok-check_support.ensures) (ap (λ (b : Bool). cond b 8 0) (le-ltb _ _ (omega (arith, counted, c.if-limit-cells.false))))))

-- What a printed text says of a grid: it is the layout of a number and coefficients that decide as demand 3 says. The number 6 and the number 0 are printed
-- of a file only where its settings pass, with the limit of 4,096 cells, and there is a value for each grid point.
use Rattle.std.specs.Prelude.{◌≡◌, Bool, ℕ, zero, suc, eqb, length, refl, true, false, cond, List, [], ◌∷◌, T}
use Rattle.std.proofs.Common.{ap, sym, ◌∙◌, eq-eqb, ne_eqb}
use Rattle.meaning.specs.Tables.{tabulate}
use Rattle.meaning.specs.Boxes.{cells}
use Rattle.meaning.specs.Recovery.{accepts, answer}
use Rattle.meaning.specs.Settings.{fits_width, first}
use Rattle.demand3.specs.Tests.{suc-zero, first_not_6, not_6}
use Rattle.demand3.specs.Settings.{CallPasses, passing_iff, passing_not_6, settings_not_6}
use Rattle.demand3.specs.Promises.{Decides}
use Rattle.demand3.proofs.Decided.{decides, accepted-accepts}
use Rattle.bench_file.specs.Layout.{Head, Content, ill_head, ill_values, whole, degrees_of, head_number, bench_number, accepted_text, refused_text, bench_text}

-- the text of a grid: the coefficients where the number is 0, else the number alone; and number and coefficients decide, where the settings of the first two
-- lines pass and there is a value for each grid point
pub record GridAnswer (h : Head) (vs text : List ℕ) : Type 0 where
  pub number : ℕ
  pub coefficients : List ℕ
  pub accepted : number ≡ 0 → text ≡ accepted_text (degrees_of h) coefficients
  pub refused : (number ≡ 0 → ⊥) → text ≡ refused_text number
  pub decision : Decides (CallPasses 4096 true h.total (fits_width h.width) h.support (degrees_of h) (λ n. (vs, n) ∷ []))
      h.width (degrees_of h) vs number coefficients

-- the text of a number that says nothing of a grid
pub record NoAnswer (text : List ℕ) : Type 0 where
  pub number : ℕ
  pub shows : text ≡ refused_text number
  pub not_0 : number ≡ 0 → ⊥
  pub not_6 : number ≡ 6 → ⊥

-- what the text says, of all that a file can say
abbrev pub Answering : Content → List ℕ → Type 0
Answering ill_head text = NoAnswer text
Answering (ill_values h) text = NoAnswer text
Answering (whole h vs) text = GridAnswer h vs text

-- ---- the settings and the count

module _ (h : Head) where
  head_not_6 : head_number h ≡ 6 → ⊥
  unfolding head_number
  head_not_6 = settings_not_6 4096 true h.total (fits_width h.width) h.support (degrees_of h)

  -- 9 where there are not as many values as grid points
  abbrev cause_of : List ℕ → ℕ
  cause_of vs = first (head_number h) (cond (eqb (length vs) (cells (degrees_of h))) 0 9)

-- the cause of the count, before the verdict or in its place
regrouped : (a : ℕ) (exact : Bool) (x : ℕ) → first a (cond exact x 9) ≡ first (first a (cond exact 0 9)) x
regrouped zero true x = refl
regrouped zero false x = refl
regrouped (suc a) exact x = refl

-- ---- the text

module _ (h : Head) (vs : List ℕ) where
  abbrev box : List ℕ
  box = cond (accepts h.width (degrees_of h) vs) (answer h.width (degrees_of h) vs) (tabulate (cells (degrees_of h)) (λ n. 0))

  verdict : bench_number (whole h vs) ≡ first (cause_of h vs) (cond (accepts h.width (degrees_of h) vs) 0 6)
  unfolding bench_number
  verdict = regrouped (head_number h) (eqb (length vs) (cells (degrees_of h))) (cond (accepts h.width (degrees_of h) vs) 0 6)

  grid-answer : GridAnswer h vs (bench_text (whole h vs))
  unfolding bench_text head_number
  grid-answer =
      record {
        number = bench_number (whole h vs);
        coefficients = box;
        accepted = λ z.
            ap (λ (b : Bool). cond b (accepted_text (degrees_of h) (answer h.width (degrees_of h) vs)) (refused_text (bench_number (whole h vs))))
            (eq-eqb _ _ z)
            ∙ ap (accepted_text (degrees_of h)) (sym (boxed z));
        refused = λ ne.
            ap (λ (b : Bool). cond b (accepted_text (degrees_of h) (answer h.width (degrees_of h) vs)) (refused_text (bench_number (whole h vs))))
            (ne_eqb _ _ ne);
        decision =
            decides h.width (degrees_of h) vs (cause_of h vs)
            (passing_iff 4096 true h.total (fits_width h.width) h.support (degrees_of h) [] (λ n. (vs, n) ∷ []))
            (passing_not_6 4096 true h.total (fits_width h.width) h.support (degrees_of h) [] (λ n. (vs, n) ∷ [])) verdict (λ z. refl);
      }
    where
      boxed : bench_number (whole h vs) ≡ 0 → box ≡ answer h.width (degrees_of h) vs
      boxed z = go (accepts h.width (degrees_of h) vs) (accepted-accepts (cause_of h vs) (accepts h.width (degrees_of h) vs) (sym verdict ∙ z))
        where
          go : (b : Bool) → T b → cond b (answer h.width (degrees_of h) vs) (tabulate (cells (degrees_of h)) (λ n. 0)) ≡ answer h.width (degrees_of h) vs
          go true t = refl
          go false t = absurd t

twelve_not_0 : (a : ℕ) → first a 12 ≡ 0 → ⊥
twelve_not_0 zero e = suc-zero 11 e
twelve_not_0 (suc a) e = suc-zero a e

-- every text answers
pub answering : (x : Content) → Answering x (bench_text x)
unfolding bench_text bench_number
answering ill_head = record { number = 12; shows = refl; not_0 = twelve_not_0 0; not_6 = not_6 12 tt }
answering (ill_values h) =
    record {
      number = first (head_number h) 12;
      shows = refl;
      not_0 = twelve_not_0 (head_number h);
      not_6 = first_not_6 (head_number h) 12 (head_not_6 h) (not_6 12 tt);
    }
answering (whole h vs) = grid-answer h vs

-- What is printed of the bytes that were fed is what the layout says of them.
use Rattle.std.specs.Prelude.{Ok, Err, ⊤, Result, ◌≡◌, refl, List, ℕ, ◌≤◌, ◌<◌, min, length, take, drop, replicate}
use Rattle.std.proofs.Common.{sym, ◌∙◌, ap, ap₂, subst, ⊎_elim, arith, length-drop, take_all}
use Rattle.std.proofs.Math.ListN.{length-replicate}
use Rattle.meaning.specs.Tables.{at}
use Rattle.bench_file.specs.Layout.{Head, Content, Says, says_ill_values, says_whole, GoodHead, ill_head, ill_values, whole, bench_text}
use Rattle.bench_file.specs.Steps.{State, state, head_of, reading_of}
use Rattle.bench_file.specs.Reading.{ReadAs, read_ill_head, read_ill_values, read_whole}
use Rattle.bench_file.specs.ReaderLaws.{read_as}
use Rattle.bench_file.specs.HeadLines.{lt_or_ge}
use Rattle.bench_file.specs.OneContent.{one_content}
use Rattle.bench_file.specs.Verdict.{narrowed, lowered}
use Rattle.bench_file.specs.declared.reader.Reader.{Reader}
use Rattle.settings.specs.declared.Settings.{Settings}
use Rattle.bench.specs.Answers.{asked, asked_by, low_head, text_of, FedBy}
use Rattle.bench.proofs.AnswerLaws.{text-narrowed, text_ill_head, text_ill_values, text_whole}
use Rattle.bench_file.specs.declared.reader.IllFormed.{IllFormed}

-- the parts of the reader's table of numbers, as the calls take them
pub low_head_lem : (hd : List ℕ) (d k : ℕ) → length hd ≡ 24 → d ≡ lowered (at hd 2) → k ≡ min (at hd 3) 20
    → asked (at hd 0) (at hd 1) d (take k (drop 4 hd)) ≡ low_head hd
low_head_lem hd d k size e f = ap₂ (λ (d : ℕ) (s : List ℕ). asked (at hd 0) (at hd 1) d s) e (ap (λ (k : ℕ). take k (drop 4 hd)) f ∙ same (at hd 3))
  where
    left : length (drop 4 hd) ≡ 20
    left = length-drop 4 hd ∙ omega (arith, size)

    same : (n : ℕ) → take (min n 20) (drop 4 hd) ≡ take n (drop 4 hd)
    same n =
        ⊎_elim
        (λ (h : 20 < n). let a : min n 20 ≡ 20 = omega arith in
        ap (λ (m : ℕ). take m (drop 4 hd)) a ∙ take_all 20 (drop 4 hd) (omega (arith, left)) ∙ sym (take_all n (drop 4 hd) (omega (arith, left))))
        (λ (h : n ≤ 20). let a : min n 20 ≡ n = omega arith in ap (λ (m : ℕ). take m (drop 4 hd)) a)
        (lt_or_ge 20 n)

-- settings that the reader's numbers say
pub record SaidBy (hd : List ℕ) (s : Settings) : Type 0 where
  pub width : s.bitwidth ≡ narrowed (at hd 0)
  pub total : s.total ≡ narrowed (at hd 1)
  pub degree : s.max_degree ≡ lowered (at hd 2)
  pub support : s.support.now ≡ take (min (at hd 3) 20) (drop 4 hd)

-- the text of what they ask is that of what the numbers ask
pub text_asked : (hd : List ℕ) (s : Settings) → SaidBy hd s → length hd ≡ 24 → (x : Result ⊤ IllFormed) (count : ℕ) (t : List ℕ)
    → text_of x (asked_by s) count t ≡ text_of x (low_head hd) count t
text_asked hd s says size x count t =
    let cut = asked (narrowed (at hd 0)) (narrowed (at hd 1)) (lowered (at hd 2)) (take (min (at hd 3) 20) (drop 4 hd)) in
    let same : asked_by s ≡ cut = rw (says.width, says.total, says.degree, says.support) in
    ap (λ (h : Head). text_of x h count t) same
    ∙ text-narrowed (at hd 0) (at hd 1) (lowered (at hd 2)) (take (min (at hd 3) 20) (drop 4 hd)) x count t
    ∙ ap (λ (h : Head). text_of x h count t) (low_head_lem hd _ _ size refl refl)

-- a degree that was read takes one byte
low_good : (r : Reader) → GoodHead (head_of r) → low_head r.head ≡ head_of r
low_good r g = ap (λ (d : ℕ). asked (at r.head 0) (at r.head 1) d (take (at r.head 3) (drop 4 r.head))) (omega (arith, g.low))

good_of_ill_values : {bs : List ℕ} {h : Head} → Says bs (ill_values h) → GoodHead h
good_of_ill_values (says_ill_values rest g e n) = g

good_of_whole : {bs : List ℕ} {h : Head} {vs : List ℕ} → Says bs (whole h vs) → GoodHead h
good_of_whole (says_whole g w e) = g

module _ (r : Reader) (t bs : List ℕ) (x : Content) (led : FedBy r t bs) (says : Says bs x) where
  abbrev t₀ : List ℕ
  t₀ = replicate 4096 0

  abbrev h : Head
  h = low_head r.head

  size : length t₀ ≡ 4096
  size = length-replicate {0} {A = ℕ} 4096 0

  by_reading : (y : Result ⊤ IllFormed) → ReadAs t₀ bs (state r t) y → text_of y h r.count t ≡ bench_text x
  by_reading (Err IllFormed.Head) (read_ill_head s) =
      text_ill_head h t r.count ∙ ap bench_text (one_content bs ill_head x s says)
  by_reading (Err IllFormed.Values) (read_ill_values s) =
      text_ill_values h t r.count
      ∙ ap (λ (k : Head). bench_text (ill_values k)) (low_good r (good_of_ill_values s))
      ∙ ap bench_text (one_content bs (ill_values (head_of r)) x s says)
  by_reading (Ok tt) (read_whole vs s c v) =
      text_whole h t vs r.count t₀ size v c
      ∙ ap (λ (k : Head). bench_text (whole k vs)) (low_good r (good_of_whole s))
      ∙ ap bench_text (one_content bs (whole (head_of r) vs) x s says)

  pub text_says : text_of (reading_of r) h r.count t ≡ bench_text x
  text_says =
      by_reading (reading_of r)
      (subst (λ (s : State). ReadAs t₀ bs s (reading_of s.reader)) (sym led) (read_as t₀ bs))

pub asked_text : (r : Reader) (s : Settings) → SaidBy r.head s → length r.head ≡ 24
    → (y : Result ⊤ IllFormed) → y ≡ reading_of r → (t bs : List ℕ) (x : Content)
    → FedBy r t bs → Says bs x → text_of y (asked_by s) r.count t ≡ bench_text x
asked_text r s said size y e t bs x led says =
    text_asked r.head s said size y r.count t
    ∙ ap (λ (z : Result ⊤ IllFormed). text_of z (low_head r.head) r.count t) e
    ∙ text_says r t bs x led says

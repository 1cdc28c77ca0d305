-- The loop over the exponents of the first of the remaining variables: those below e are done.
use Rattle.std.specs.Prelude.{◌≡◌, refl, List, [], ◌∷◌, ◌++◌, ℕ, suc, ◌+◌, ◌-◌, ◌≤◌, ◌<◌, min, length, take, drop, set}
use Rattle.std.proofs.Common.{sym, ap, ap₂, ◌∙◌, zero-le, add-zero, suc-ne-zero, le_of_eq, add-one, arith, length-append, length-drop, length-set, drop-cons, take-suc-set, take-take, take_all, take_at, length-take-le}
use Rattle.std.proofs.Math.Seq.{take-length}
use Rattle.meaning.specs.Tables.{at}
use Rattle.weighted_poly_fit.specs.Listing.{pasted, listing, exponents_before, Listed}
use Rattle.weighted_poly_fit.proofs.Pasted.{pasted_none, pasted_more, length-pasted}
use Rattle.weighted_poly_fit.proofs.Listed.{spread, headed, spread_none, spread-headed, length-spread-le, listing-cons, listing_none, listing-rest}

-- ---- no variable is left

module _ (t : List ℕ) (a : ℕ) (current ds : List ℕ) (none : length ds ≡ 0) where
  all : exponents_before current ds ≡ current
  all =
      let e : length current - length ds ≡ length current = omega arith in
      ap (λ (n : ℕ). take n current) e ∙ take-length current

  empty : ds ≡ []
  empty = go ds none
    where
      go : (l : List ℕ) → length l ≡ 0 → l ≡ []
      go [] h = refl
      go (x ∷ l) h = absurd (suc-ne-zero (length l) h)

  -- one list, where nothing of the sum is left
  pub listing_last : (left : ℕ) → left ≡ 0 → listing (exponents_before current ds) ds left ≡ current
  listing_last left h = ap₂ (λ (l : List ℕ) (n : ℕ). listing (exponents_before current ds) l n) empty h ∙ listing_none (exponents_before current ds) ∙ all

  pub listed_last : (left : ℕ) → left ≡ 0 → (t' : List ℕ) → t' ≡ pasted t a current → Listed t a current ds left t' current (a + length current)
  listed_last left h t' e =
      let l = sym (listing_last left h) in
      record { end = ap (λ (xs : List ℕ). a + length xs) l; written = e ∙ ap (pasted t a) l; kept = refl }

  -- and else none
  pub listed_nothing : (left : ℕ) → (left ≡ 0 → ⊥) → Listed t a current ds left t current a
  listed_nothing left h =
      record { end = sym (ap (λ (xs : List ℕ). a + length xs) nothing ∙ add-zero a); written = pasted_none t a ∙ ap (pasted t a) (sym nothing); kept = refl }
    where
      nothing : listing (exponents_before current ds) ds left ≡ []
      nothing =
          let e : left ≡ suc (left - 1) = omega arith in
          ap₂ (λ (l : List ℕ) (n : ℕ). listing (exponents_before current ds) l n) empty e ∙ listing-rest (exponents_before current ds) (left - 1)

-- ---- the first variable and the others

first_rest : (ds : List ℕ) → 0 < length ds → ds ≡ at ds 0 ∷ drop 1 ds
first_rest ds h = drop-cons ds 0 0 h

-- the others, as a part that is lent
pub rest_whole : (ds : List ℕ) → take (length ds - 1) (drop 1 ds) ≡ drop 1 ds
rest_whole ds = take_all (length ds - 1) (drop 1 ds) (le_of_eq (length-drop 1 ds))

-- ---- the exponents of the first variable

-- what is known before the loop
pub record Entry (t₀ : List ℕ) (a : ℕ) (current₀ ds : List ℕ) (left place highest : ℕ) : Type 0 where
  pub some : 0 < length ds
  pub fits : length ds ≤ length current₀
  pub spot : place ≡ length current₀ - length ds
  pub top : highest ≡ min (at ds 0) left
  pub room : a + length (listing (exponents_before current₀ ds) ds left) ≤ length t₀

pub record Steps (t₀ : List ℕ) (a : ℕ) (current₀ ds : List ℕ) (left place highest : ℕ) (t current : List ℕ) (next e : ℕ) : Type 0 where
  pub entry : Entry t₀ a current₀ ds left place highest
  pub few : e ≤ suc highest
  pub end : next ≡ a + length (spread (take place current₀) e (headed (drop 1 ds) left))
  pub written : t ≡ pasted t₀ a (spread (take place current₀) e (headed (drop 1 ds) left))
  pub same : length current ≡ length current₀
  pub kept : take place current ≡ take place current₀

module _ {t₀ : List ℕ} {a : ℕ} {current₀ ds : List ℕ} {left place highest : ℕ} where
  pub steps-start : Entry t₀ a current₀ ds left place highest → Steps t₀ a current₀ ds left place highest t₀ current₀ a 0
  steps-start i =
      record {
        entry = i;
        few = zero-le;
        end = sym (ap (λ (xs : List ℕ). a + length xs) (spread_none _ _) ∙ add-zero a);
        written = pasted_none t₀ a ∙ ap (pasted t₀ a) (sym (spread_none _ _));
        same = refl;
        kept = refl;
      }

  module _ {t current : List ℕ} {next e : ℕ} (r : Steps t₀ a current₀ ds left place highest t current next e) where
    done : ℕ → List ℕ
    done n = spread (take place current₀) n (headed (drop 1 ds) left)

    -- the whole
    whole : done (suc highest) ≡ listing (exponents_before current₀ ds) ds left
    unfolding done
    whole =
        ap₂ (λ (p : ℕ) (n : ℕ). spread (take p current₀) (suc n) (headed (drop 1 ds) left)) r.entry.spot r.entry.top
        ∙ listing-cons (exponents_before current₀ ds) (at ds 0) (drop 1 ds) left
        ∙ ap (λ (l : List ℕ). listing (exponents_before current₀ ds) l left) (sym (first_rest ds r.entry.some))

    enough : (n : ℕ) → n ≤ suc highest → a + length (done n) ≤ length t₀
    unfolding done
    enough n h = omega (arith, length-spread-le (take place current₀) (headed (drop 1 ds) left) n (suc highest) h, ap length whole, r.entry.room)

    pub steps_same : length t ≡ length t₀
    unfolding done
    steps_same = ap length r.written ∙ length-pasted t₀ a (done e) (enough e r.few)

    pub steps-place : place < length current
    steps-place = omega (arith, r.entry.spot, r.entry.fits, r.entry.some, r.same)

    behind : length (set current place e) - length (take (length ds - 1) (drop 1 ds)) ≡ suc place
    behind =
        omega (arith, length-set current place e, ap length (rest_whole ds), length-drop 1 ds, r.entry.spot, r.entry.fits, r.entry.some, r.same)

    -- the exponents chosen with this one
    before_next : exponents_before (set current place e) (take (length ds - 1) (drop 1 ds)) ≡ take place current₀ ++ (e ∷ [])
    before_next =
        ap (λ (n : ℕ). take n (set current place e)) behind ∙ take-suc-set current place e steps-place ∙ ap (◌++ (e ∷ [])) r.kept

    block : listing (exponents_before (set current place e) (take (length ds - 1) (drop 1 ds))) (take (length ds - 1) (drop 1 ds)) (left - e)
        ≡ listing (take place current₀ ++ (e ∷ [])) (drop 1 ds) (left - e)
    block = ap₂ (λ (p l : List ℕ). listing p l (left - e)) before_next (rest_whole ds)

    one_more : done (e + 1) ≡ done e ++ listing (take place current₀ ++ (e ∷ [])) (drop 1 ds) (left - e)
    unfolding done
    one_more = ap done (add-one e) ∙ spread-headed (take place current₀) (at ds 0) (drop 1 ds) left e

    module _ (h : e ≤ highest) where
      -- what the call asks
      pub steps-fits : length (take (length ds - 1) (drop 1 ds)) ≤ length (set current place e)
      steps-fits = omega (arith, length-set current place e, ap length (rest_whole ds), length-drop 1 ds, r.entry.fits, r.same)

      pub steps_room : next + length (listing (exponents_before (set current place e) (take (length ds - 1) (drop 1 ds))) (take (length ds - 1) (drop 1 ds))
          (left - e)) ≤ length t
      unfolding done
      steps_room =
          omega (
            arith,
            enough (e + 1) (omega arith),
            ap length one_more,
            length-append (done e)
                (listing (take place current₀ ++ (e ∷ [])) (drop 1 ds) (left - e)),
            ap length block,
            r.end,
            steps_same,
          )

      -- one exponent more
      pub steps_next : (t' current' : List ℕ) (n : ℕ) → length current' ≡ length (set current place e)
          → Listed t next (set current place e) (take (length ds - 1) (drop 1 ds)) (left - e) t' current' n
          → Steps t₀ a current₀ ds left place highest t' current' n (e + 1)
      unfolding done
      steps_next t' current' n s l =
          record {
            entry = r.entry;
            few = omega arith;
            end =
                omega (
                  arith,
                  l.end,
                  r.end,
                  ap length one_more,
                  length-append (done e)
                      (listing (take place current₀ ++ (e ∷ [])) (drop 1 ds) (left - e)),
                  ap length block,
                );
            written =
                l.written
                ∙ ap₂ (λ (u : List ℕ) (i : ℕ). pasted u i (listing (exponents_before (set current place e) (take (length ds - 1) (drop 1 ds)))
                (take (length ds - 1) (drop 1 ds)) (left - e))) r.written r.end
                ∙ ap (pasted (pasted t₀ a (done e)) (a + length (done e))) block
                ∙ pasted_more t₀ a (done e) _ (omega (arith, enough e r.few))
                ∙ ap (pasted t₀ a) (sym one_more);
            same = s ∙ length-set current place e ∙ r.same;
            kept =
                sym (take-take place (suc place) current' (omega arith))
                ∙ ap (take place) (ap (λ (i : ℕ). take i current') (sym behind) ∙ l.kept ∙ before_next)
                ∙ take_at (take place current₀) (e ∷ []) place (length-take-le place current₀ (omega (arith, r.entry.spot)));
          }

    -- all exponents are done
    pub steps-done : highest < e → Listed t₀ a current₀ ds left t current next
    unfolding done
    steps-done h =
        let last : e ≡ suc highest = omega (arith, r.few) in
        let l : done e ≡ listing (exponents_before current₀ ds) ds left = ap done last ∙ whole in
        record {
          end = r.end ∙ ap (λ (xs : List ℕ). a + length xs) l;
          written = r.written ∙ ap (pasted t₀ a) l;
          kept = ap (λ (i : ℕ). take i current) (sym r.entry.spot) ∙ r.kept ∙ ap (λ (i : ℕ). take i current₀) r.entry.spot;
        }

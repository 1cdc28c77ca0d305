-- The loop over the total degrees: the columns of a lower degree than this are done.
use Rattle.std.specs.Prelude.{◌≡◌, refl, List, [], ◌++◌, ℕ, suc, ◌+◌, ◌*◌, ◌-◌, ◌≤◌, ◌<◌, length, take, drop}
use Rattle.std.proofs.Common.{sym, ap, ap₂, ◌∙◌, append-nil, zero-le, zero-add, add-one, arith, length-append}
use Rattle.std.proofs.Math.Seq.{drop-length}
use Rattle.meaning.specs.Elimination.{joined}
use Rattle.meaning.specs.Fit.{columns}
use Rattle.theory.specs.ColumnListing.{exactly}
use Rattle.weighted_poly_fit.specs.Listing.{pasted, listing, exponents_before, Listed}
use Rattle.weighted_poly_fit.proofs.Pasted.{pasted_none, pasted_more, length-pasted}
use Rattle.weighted_poly_fit.proofs.Listed.{spread, spread_none, length-spread-le, spread_degree, spread-columns, length-columns-joined}

pub record Degrees (t₀ current₀ ds : List ℕ) (most : ℕ) (t current : List ℕ) (next r : ℕ) : Type 0 where
  pub wide : length current₀ ≡ length ds
  pub room : length t₀ ≡ length (columns ds most) * length ds
  pub few : r ≤ suc most
  pub end : next ≡ length (spread [] r (exactly ds))
  pub written : t ≡ pasted t₀ 0 (spread [] r (exactly ds))
  pub same : length current ≡ length current₀

module _ {t₀ current₀ ds : List ℕ} {most : ℕ} where
  pub degrees_start : length current₀ ≡ length ds → length t₀ ≡ length (columns ds most) * length ds → Degrees t₀ current₀ ds most t₀ current₀ 0 0
  degrees_start w e =
      record {
        wide = w;
        room = e;
        few = zero-le;
        end = sym (ap length (spread_none [] (exactly ds)));
        written = pasted_none t₀ 0 ∙ ap (pasted t₀ 0) (sym (spread_none [] (exactly ds)));
        same = refl;
      }

  module _ {t current : List ℕ} {next r : ℕ} (d : Degrees t₀ current₀ ds most t current next r) where
    whole : length (spread [] (suc most) (exactly ds)) ≡ length t₀
    whole = ap length (spread-columns ds most) ∙ length-columns-joined ds most ∙ sym d.room

    enough : (n : ℕ) → n ≤ suc most → length (spread [] n (exactly ds)) ≤ length t₀
    enough n h = omega (arith, length-spread-le [] (exactly ds) n (suc most) h, whole)

    pub degrees_same : length t ≡ length t₀
    degrees_same = ap length d.written ∙ length-pasted t₀ 0 (spread [] r (exactly ds)) (omega (arith, enough r d.few))

    nothing : exponents_before current ds ≡ []
    nothing =
        let e : length current - length ds ≡ 0 = omega (arith, d.wide, d.same) in
        ap (λ (n : ℕ). take n current) e

    block : listing (exponents_before current ds) ds r ≡ listing [] ds r
    block = ap (λ (p : List ℕ). listing p ds r) nothing

    one_more : spread [] (r + 1) (exactly ds) ≡ spread [] r (exactly ds) ++ listing [] ds r
    one_more = ap (λ (n : ℕ). spread [] n (exactly ds)) (add-one r) ∙ spread_degree ds r

    -- what the call asks
    pub degrees_fits : length ds ≤ length current
    degrees_fits = omega (arith, d.wide, d.same)

    pub degrees_room : r ≤ most → next + length (listing (exponents_before current ds) ds r) ≤ length t
    degrees_room h =
        omega (
          arith,
          enough (r + 1) (omega arith),
          ap length one_more,
          length-append (spread [] r (exactly ds)) (listing [] ds r),
          ap length block,
          d.end,
          degrees_same,
        )

    -- one degree more
    pub degrees_next : r ≤ most → (t' current' : List ℕ) (n : ℕ) → length current' ≡ length current
        → Listed t next current ds r t' current' n → Degrees t₀ current₀ ds most t' current' n (r + 1)
    degrees_next h t' current' n s l =
        record {
          wide = d.wide;
          room = d.room;
          few = omega arith;
          end =
              omega (arith, l.end, d.end, ap length one_more, length-append (spread [] r (exactly ds)) (listing [] ds r), ap length block);
          written =
              l.written
              ∙ ap₂ (λ (u : List ℕ) (i : ℕ). pasted u i (listing (exponents_before current ds) ds r)) d.written (d.end ∙ sym (zero-add _))
              ∙ ap (pasted (pasted t₀ 0 (spread [] r (exactly ds))) (0 + length (spread [] r (exactly ds)))) block
              ∙ pasted_more t₀ 0 (spread [] r (exactly ds)) (listing [] ds r) zero-le
              ∙ ap (pasted t₀ 0) (sym one_more);
          same = s ∙ d.same;
        }

    -- all degrees are done
    pub degrees_done : most < r → t ≡ joined (columns ds most)
    degrees_done h =
        let last : r ≡ suc most = omega (arith, d.few) in
        let none : drop (0 + length (spread [] (suc most) (exactly ds))) t₀ ≡ [] =
        ap (λ (n : ℕ). drop n t₀) (zero-add _ ∙ whole) ∙ drop-length t₀ in
        d.written
        ∙ ap (λ (n : ℕ). pasted t₀ 0 (spread [] n (exactly ds))) last
        ∙ ap (spread [] (suc most) (exactly ds) ++◌) none
        ∙ append-nil (spread [] (suc most) (exactly ds))
        ∙ spread-columns ds most

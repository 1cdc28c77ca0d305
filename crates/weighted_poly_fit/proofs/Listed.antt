-- The listing of the columns block by block: by the exponents of one variable, and by total degrees.
use Rattle.std.specs.Prelude.{◌≡◌, refl, List, [], ◌∷◌, ◌++◌, map, ℕ, zero, suc, ◌+◌, ◌*◌, ◌-◌, ◌≤◌, min, length, get_or}
use Rattle.std.proofs.Common.{sym, ap, ap₂, ◌∙◌, append_assoc, append-nil, le_of_eq, arith, length-append}
use Rattle.meaning.specs.Elimination.{joined}
use Rattle.meaning.specs.Fit.{columns}
use Rattle.theory.specs.Boxes.{length-within}
use Rattle.theory.specs.Columns.{in-columns-iff, in_get_or}
use Rattle.theory.specs.MatrixTables.{length-joined}
use Rattle.theory.specs.ColumnListing.{blocks, exactly, by_degree, by_degree-eq}
use Rattle.weighted_poly_fit.specs.Listing.{listing}

joined-append : (xs ys : List (List ℕ)) → joined (xs ++ ys) ≡ joined xs ++ joined ys
unfolding joined
joined-append [] ys = refl
joined-append (x ∷ xs) ys = ap (x ++◌) (joined-append xs ys) ∙ sym (append_assoc x (joined xs) (joined ys))

map-append : (f : List ℕ → List ℕ) (xs ys : List (List ℕ)) → map f (xs ++ ys) ≡ map f xs ++ map f ys
map-append f [] ys = refl
map-append f (x ∷ xs) ys = ap (f x ∷◌) (map-append f xs ys)

blocks_last : (n : ℕ) (f : ℕ → List (List ℕ)) → blocks (suc n) f ≡ blocks n f ++ f n
unfolding blocks
blocks_last zero f = append-nil (f 0)
blocks_last (suc n) f = ap (f 0 ++◌) (blocks_last n (λ i. f (suc i))) ∙ sym (append_assoc (f 0) _ _)

-- the lists of the first n blocks, each behind p, one behind the other
unfoldable pub spread : List ℕ → ℕ → (ℕ → List (List ℕ)) → List ℕ
unfolding joined blocks
spread p n f = joined (map (p ++◌) (blocks n f))

module _ (p : List ℕ) (f : ℕ → List (List ℕ)) where
  pub spread_none : spread p 0 f ≡ []
  unfolding spread joined blocks
  spread_none = refl

  pub spread_more : (n : ℕ) → spread p (suc n) f ≡ spread p n f ++ joined (map (p ++◌) (f n))
  unfolding spread
  spread_more n =
      ap (λ (l : List (List ℕ)). joined (map (p ++◌) l)) (blocks_last n f)
      ∙ ap joined (map-append (p ++◌) (blocks n f) (f n))
      ∙ joined-append (map (p ++◌) (blocks n f)) (map (p ++◌) (f n))

  pub length-spread-le : (m n : ℕ) → m ≤ n → length (spread p m f) ≤ length (spread p n f)
  length-spread-le m n h = go (n - m) n (omega arith)
    where
      go : (k n : ℕ) → m + k ≡ n → length (spread p m f) ≤ length (spread p n f)
      go zero n e =
          let d : m ≡ n = omega arith in
          le_of_eq (ap (λ (i : ℕ). length (spread p i f)) d)
      go (suc k) n e =
          let d : suc (m + k) ≡ n = omega arith in
          omega (
            arith,
            go k (m + k) refl,
            ap length (spread_more (m + k)),
            length-append (spread p (m + k) f) (joined (map (p ++◌) (f (m + k)))),
            ap (λ (i : ℕ). length (spread p i f)) d,
          )

-- an exponent of the first of the remaining variables
abbrev pub headed : List ℕ → ℕ → ℕ → List (List ℕ)
headed ds left e = map (e ∷◌) (exactly ds (left - e))

map-headed : (p : List ℕ) (e : ℕ) (xs : List (List ℕ)) → map (p ++◌) (map (e ∷◌) xs) ≡ map ((p ++ (e ∷ [])) ++◌) xs
map-headed p e [] = refl
map-headed p e (x ∷ xs) = ap₂ ◌∷◌ (sym (append_assoc p (e ∷ []) x)) (map-headed p e xs)

module _ (p : List ℕ) (d : ℕ) (ds : List ℕ) (left : ℕ) where
  pub spread-headed : (e : ℕ) → spread p (suc e) (headed ds left) ≡ spread p e (headed ds left) ++ listing (p ++ (e ∷ [])) ds (left - e)
  unfolding listing
  spread-headed e =
      spread_more p (headed ds left) e
      ∙ ap (λ (l : List (List ℕ)). spread p e (headed ds left) ++ joined l) (map-headed p e (exactly ds (left - e)))

  pub listing-cons : spread p (suc (min d left)) (headed ds left) ≡ listing p (d ∷ ds) left
  unfolding spread listing exactly
  listing-cons = refl

-- no variable is left
pub listing_none : (p : List ℕ) → listing p [] 0 ≡ p
unfolding listing exactly joined
listing_none p = append-nil (p ++ []) ∙ append-nil p

pub listing-rest : (p : List ℕ) (r : ℕ) → listing p [] (suc r) ≡ []
unfolding listing exactly joined
listing-rest p r = refl

-- ---- by total degrees

map_none : (xs : List (List ℕ)) → map ([] ++◌) xs ≡ xs
map_none [] = refl
map_none (x ∷ xs) = ap (x ∷◌) (map_none xs)

module _ (ds : List ℕ) where
  pub spread_degree : (r : ℕ) → spread [] (suc r) (exactly ds) ≡ spread [] r (exactly ds) ++ listing [] ds r
  unfolding listing
  spread_degree r = spread_more [] (exactly ds) r

  pub spread-columns : (most : ℕ) → spread [] (suc most) (exactly ds) ≡ joined (columns ds most)
  unfolding spread by_degree
  spread-columns most = ap joined (map_none (blocks (suc most) (exactly ds)) ∙ by_degree-eq ds most)

  -- a byte for each variable in each column
  pub length-columns-joined : (most : ℕ) → length (joined (columns ds most)) ≡ length (columns ds most) * length ds
  length-columns-joined most =
      length-joined (length ds) (columns ds most)
      (λ i h. length-within ((in-columns-iff ds most (get_or (columns ds most) i [])).0 (in_get_or (columns ds most) i h)).0)

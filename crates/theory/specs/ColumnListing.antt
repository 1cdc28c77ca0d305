-- The columns listed by recursion over the variables: for each total degree the lists of exactly that sum, first exponent ascending, then the rest
-- of the variables with what is left of the sum. It has the columns' members in the columns' order, and so is the list of columns.
use Rattle.std.specs.Prelude.{◌≡◌, refl, ◌↔◌, ◌⊎◌, ℕ, zero, suc, ◌+◌, ◌-◌, ◌≤◌, ◌<◌, min, List, [], ◌∷◌, ◌++◌, map, T}
use Rattle.std.proofs.Common.{sym, ap, subst, inl, inr, ⊎_elim, suc-le-suc, not-suc-le-zero, le_of_suc-le-suc, zero-lt-suc, arith}
use Rattle.meaning.specs.Boxes.{Within, none, next}
use Rattle.meaning.specs.Fit.{total, before, columns}
use Rattle.theory.specs.ColumnOrder.{before_of_degree, before_of_head, before-cons}
use Rattle.theory.specs.Columns.{In, here, there, in-nil, BeforeAll, before_none, before_more, Ordered, ordered_none, ordered_more, columns_unique}

-- f 0, f 1, .., f (n - 1), one behind the other
unfoldable pub blocks : ℕ → (ℕ → List (List ℕ)) → List (List ℕ)
blocks zero f = []
blocks (suc n) f = f 0 ++ blocks n (λ i. f (suc i))

-- the exponent lists of the box with the sum r
unfoldable pub exactly : List ℕ → ℕ → List (List ℕ)
unfolding blocks
exactly [] zero = [] ∷ []
exactly [] (suc r) = []
exactly (d ∷ ds) r = blocks (suc (min d r)) (λ e. map (e ∷◌) (exactly ds (r - e)))

-- by total degree
unfoldable pub by_degree : List ℕ → ℕ → List (List ℕ)
unfolding exactly
by_degree ds most = blocks (suc most) (exactly ds)

-- ---- members

in-append : (xs ys : List (List ℕ)) {g : List ℕ} → In g (xs ++ ys) ↔ (In g xs ⊎ In g ys)
in-append xs ys {g} = (there-way xs, back xs)
  where
    there-way : (xs : List (List ℕ)) → In g (xs ++ ys) → In g xs ⊎ In g ys
    there-way [] i = inr i
    there-way (x ∷ xs) (here e) = inl (here e)
    there-way (x ∷ xs) (there i) = ⊎_elim (λ (k : In g xs). inl (there k)) (λ (k : In g ys). inr k) (there-way xs i)

    left : {xs : List (List ℕ)} → In g xs → In g (xs ++ ys)
    left (here e) = here e
    left (there i) = there (left i)

    right : (xs : List (List ℕ)) → In g ys → In g (xs ++ ys)
    right [] i = i
    right (x ∷ xs) i = there (right xs i)

    back : (xs : List (List ℕ)) → In g xs ⊎ In g ys → In g (xs ++ ys)
    back xs s = ⊎_elim (λ (k : In g xs). left k) (λ (k : In g ys). right xs k) s

-- a block that has g
pub record Block (n : ℕ) (f : ℕ → List (List ℕ)) (g : List ℕ) : Type 0 where
  pub which : ℕ
  pub below : which < n
  pub inside : In g (f which)

in_blocks : (n : ℕ) (f : ℕ → List (List ℕ)) {g : List ℕ} → In g (blocks n f) ↔ Block n f g
unfolding blocks
in_blocks n f {g} = (there-way n f, λ b. back n f b.which b.below b.inside)
  where
    there-way : (n : ℕ) (f : ℕ → List (List ℕ)) → In g (blocks n f) → Block n f g
    there-way zero f i = absurd (in-nil i)
    there-way (suc n) f i =
        ⊎_elim (λ (k : In g (f 0)). record { which = 0; below = zero-lt-suc n; inside = k })
        (λ (k : In g (blocks n (λ i. f (suc i)))).
        let b = there-way n (λ i. f (suc i)) k in
        record { which = suc b.which; below = suc-le-suc b.below; inside = b.inside })
        ((in-append (f 0) (blocks n (λ i. f (suc i)))).0 i)

    back : (n : ℕ) (f : ℕ → List (List ℕ)) (i : ℕ) → i < n → In g (f i) → In g (blocks n f)
    back zero f i h k = absurd (not-suc-le-zero h)
    back (suc n) f zero h k = (in-append (f 0) (blocks n (λ i. f (suc i)))).1 (inl k)
    back (suc n) f (suc i) h k = (in-append (f 0) (blocks n (λ i. f (suc i)))).1 (inr (back n (λ i. f (suc i)) i (le_of_suc-le-suc h) k))

-- g is e before a list of xs
pub record Headed (e : ℕ) (xs : List (List ℕ)) (g : List ℕ) : Type 0 where
  pub tail : List ℕ
  pub inside : In tail xs
  pub whole : g ≡ e ∷ tail

in_map : (e : ℕ) (xs : List (List ℕ)) {g : List ℕ} → In g (map (e ∷◌) xs) → Headed e xs g
in_map e [] i = absurd (in-nil i)
in_map e (x ∷ xs) (here d) = record { tail = x; inside = here refl; whole = d }
in_map e (x ∷ xs) (there i) =
    let h = in_map e xs i in
    record { tail = h.tail; inside = there h.inside; whole = h.whole }

in-map_of : (e : ℕ) {h : List ℕ} {xs : List (List ℕ)} → In h xs → In (e ∷ h) (map (e ∷◌) xs)
in-map_of e (here d) = here (ap (e ∷◌) d)
in-map_of e (there i) = there (in-map_of e i)

-- a list of the box with the sum r
pub record ExactSum (ds : List ℕ) (r : ℕ) (g : List ℕ) : Type 0 where
  pub within : Within ds g
  pub sum_eq : total g ≡ r

exactly_sound : (ds : List ℕ) (r : ℕ) {g : List ℕ} → In g (exactly ds r) → ExactSum ds r g
unfolding exactly total
exactly_sound [] zero (here e) = rw e (record { within = none; sum_eq = refl })
exactly_sound [] zero (there i) = absurd (in-nil i)
exactly_sound [] (suc r) i = absurd (in-nil i)
exactly_sound (d ∷ ds) r {g} i =
    let b = (in_blocks (suc (min d r)) (λ e. map (e ∷◌) (exactly ds (r - e)))).0 i in
    let h = in_map b.which (exactly ds (r - b.which)) b.inside in
    let x = exactly_sound ds (r - b.which) h.inside in
    let l : b.which ≤ min d r = le_of_suc-le-suc b.below in
    subst (ExactSum (d ∷ ds) r) (sym h.whole)
    (record { within = next (omega arith) x.within; sum_eq = omega (arith, x.sum_eq) })

exactly_complete : {ds g : List ℕ} → Within ds g → In g (exactly ds (total g))
unfolding exactly total
exactly_complete none = here refl
exactly_complete (next {d} {e} {ds} {es} h w) =
    (in_blocks (suc (min d (e + total es))) (λ e'. map (e' ∷◌) (exactly ds (e + total es - e')))).1
    (record {
      which = e;
      below = omega arith;
      inside = in-map_of e (subst (λ (r : ℕ). In es (exactly ds r)) left (exactly_complete w));
    })
  where
    left : total es ≡ e + total es - e
    left = omega arith

-- ---- order

before-append : {g : List ℕ} {xs ys : List (List ℕ)} → BeforeAll g xs → BeforeAll g ys → BeforeAll g (xs ++ ys)
before-append before_none c = c
before-append (before_more t b) c = before_more t (before-append b c)

before-all : (g : List ℕ) (ys : List (List ℕ)) → ((h : List ℕ) → In h ys → T (before g h)) → BeforeAll g ys
before-all g [] f = before_none
before-all g (y ∷ ys) f = before_more (f y (here refl)) (before-all g ys (λ h i. f h (there i)))

ordered_append : {xs : List (List ℕ)} (ys : List (List ℕ)) → Ordered xs → Ordered ys
    → ((a b : List ℕ) → In a xs → In b ys → T (before a b)) → Ordered (xs ++ ys)
ordered_append ys ordered_none p f = p
ordered_append ys (ordered_more {f = x} b o) p f =
    ordered_more (before-append b (before-all x ys (λ h i. f x h (here refl) i))) (ordered_append ys o p (λ a b i k. f a b (there i) k))

-- blocks in order, each before the later ones
pub ordered_blocks : (n : ℕ) (f : ℕ → List (List ℕ)) → ((i : ℕ) → Ordered (f i))
    → ((i j : ℕ) (a b : List ℕ) → i < j → j < n → In a (f i) → In b (f j) → T (before a b)) → Ordered (blocks n f)
unfolding blocks
ordered_blocks zero f o h = ordered_none
ordered_blocks (suc n) f o h =
    ordered_append (blocks n (λ i. f (suc i))) (o 0)
    (ordered_blocks n (λ i. f (suc i)) (λ i. o (suc i)) (λ i j a b l k. h (suc i) (suc j) a b (suc-le-suc l) (suc-le-suc k)))
    (λ a b i k.
    let c = (in_blocks n (λ i. f (suc i))).0 k in
    h 0 (suc c.which) a b (zero-lt-suc c.which) (suc-le-suc c.below) i c.inside)

ordered_map : (e : ℕ) {xs : List (List ℕ)} → Ordered xs → Ordered (map (e ∷◌) xs)
ordered_map e ordered_none = ordered_none
ordered_map e (ordered_more b o) = ordered_more (go b) (ordered_map e o)
  where
    go : {g : List ℕ} {xs : List (List ℕ)} → BeforeAll g xs → BeforeAll (e ∷ g) (map (e ∷◌) xs)
    go before_none = before_none
    go {g} (before_more {f = h} t b) = before_more (before-cons e g h t) (go b)

-- lists of one sum are in order
pub exactly_ordered : (ds : List ℕ) (r : ℕ) → Ordered (exactly ds r)
unfolding exactly total
exactly_ordered [] zero = ordered_more before_none ordered_none
exactly_ordered [] (suc r) = ordered_none
exactly_ordered (d ∷ ds) r =
    ordered_blocks (suc (min d r)) (λ e. map (e ∷◌) (exactly ds (r - e))) (λ e. ordered_map e (exactly_ordered ds (r - e))) heads
  where
    heads : (i j : ℕ) (a b : List ℕ) → i < j → j < suc (min d r)
        → In a (map (i ∷◌) (exactly ds (r - i))) → In b (map (j ∷◌) (exactly ds (r - j))) → T (before a b)
    heads i j a b l k p q =
        let x = in_map i (exactly ds (r - i)) p in
        let y = in_map j (exactly ds (r - j)) q in
        let same : total (i ∷ x.tail) ≡ total (j ∷ y.tail) =
        omega (arith, (exactly_sound ds (r - i) x.inside).sum_eq, (exactly_sound ds (r - j) y.inside).sum_eq) in
        rw (x.whole, y.whole) (before_of_head i j x.tail y.tail same l)

-- the listing is the list of columns
pub by_degree-eq : (ds : List ℕ) (most : ℕ) → by_degree ds most ≡ columns ds most
unfolding by_degree
by_degree-eq ds most =
    columns_unique ds most
    (ordered_blocks (suc most) (exactly ds) (exactly_ordered ds)
    (λ i j a b l k p q. before_of_degree a b (omega (arith, (exactly_sound ds i p).sum_eq, (exactly_sound ds j q).sum_eq))))
    (λ g. (members g, listed g))
  where
    members : (g : List ℕ) → In g (blocks (suc most) (exactly ds)) → Within ds g × (total g ≤ most)
    members g i =
        let b = (in_blocks (suc most) (exactly ds)).0 i in
        let x = exactly_sound ds b.which b.inside in
        (x.within, omega (arith, x.sum_eq, b.below))

    listed : (g : List ℕ) → Within ds g × (total g ≤ most) → In g (blocks (suc most) (exactly ds))
    listed g w =
        (in_blocks (suc most) (exactly ds)).1 (record { which = total g; below = suc-le-suc w.1; inside = exactly_complete w.0 })

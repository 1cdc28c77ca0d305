-- The fit's columns: exactly the exponent lists of the box with a total degree up to `most`, each once, in order; and no other list is so.
use Rattle.std.specs.Prelude.{◌≡◌, ◌↔◌, ◌⊎◌, Bool, true, false, T, leb, get_or, refl, cond, ℕ, zero, suc, ◌≤◌, ◌<◌, List, [], ◌∷◌, length}
use Rattle.std.proofs.Common.{sym, ap, subst, ap₂, ◌∙◌, inl, inr, ⊎_elim, not-suc-le-zero, le_of_suc-le-suc, le_refl, eq-or-lt_of_le, arith, leb-true, leb-false, lt_irrefl}
use Rattle.meaning.specs.Boxes.{cells, digits, cell, Within}
use Rattle.meaning.specs.Fit.{total, before, insert, columns_to, columns}
use Rattle.theory.specs.Boxes.{digits-within, length-within, cell-lt, cell-digits, digits-cell}
use Rattle.theory.specs.ColumnOrder.{Compared, less, equal, greater, before_irrefl, before_trans, before_compared}

-- es stands in a list of lists
pub data In (es : List ℕ) : List (List ℕ) → Type 0 where
  here : {f : List ℕ} {fs : List (List ℕ)} → es ≡ f → In es (f ∷ fs)
  there : {f : List ℕ} {fs : List (List ℕ)} → In es fs → In es (f ∷ fs)

-- nothing stands in the empty list
pub in-nil : {es : List ℕ} → In es [] → ⊥
in-nil i = elim i [ ]

-- es comes before all of a list of lists
pub data BeforeAll (es : List ℕ) : List (List ℕ) → Type 0 where
  before_none : BeforeAll es []
  before_more : {f : List ℕ} {fs : List (List ℕ)} → T (before es f) → BeforeAll es fs → BeforeAll es (f ∷ fs)

-- each comes before all that follow
pub data Ordered : List (List ℕ) → Type 0 where
  ordered_none : Ordered []
  ordered_more : {f : List ℕ} {fs : List (List ℕ)} → BeforeAll f fs → Ordered fs → Ordered (f ∷ fs)

-- what comes before all comes before each
pub before-in : {es f : List ℕ} {fs : List (List ℕ)} → BeforeAll es fs → In f fs → T (before es f)
before-in {es = es} {f = f} before_none i = elim i [ ]
before-in {es} (before_more t b) (here e) = rw e t
before-in (before_more t b) (there i) = before-in b i

-- a list that comes before another comes before all that follow that
before_earlier : {es f : List ℕ} {fs : List (List ℕ)} → T (before es f) → BeforeAll f fs → BeforeAll es fs
before_earlier t before_none = before_none
before_earlier {es} {f} t (before_more {f = g} u b) = before_more (before_trans es f g t u) (before_earlier t b)

-- ---- insertion

-- a list of lists with es put in its place, by the test at its first list
module _ (es f : List ℕ) (fs : List (List ℕ)) where
  pub insert-first : before es f ≡ true → insert es (f ∷ fs) ≡ es ∷ f ∷ fs
  unfolding insert
  insert-first e = ap (λ (b : Bool). cond b (es ∷ f ∷ fs) (f ∷ insert es fs)) e

  pub insert_later : before es f ≡ false → insert es (f ∷ fs) ≡ f ∷ insert es fs
  unfolding insert
  insert_later e = ap (λ (b : Bool). cond b (es ∷ f ∷ fs) (f ∷ insert es fs)) e

-- es is in it, and so is what was there; nothing else is
pub in_insert : (es : List ℕ) (fs : List (List ℕ)) → In es (insert es fs)
unfolding insert
in_insert es [] = here refl
in_insert es (f ∷ fs) = go (before es f) refl (in_insert es fs)
  where
    go : (b : Bool) → before es f ≡ b → In es (insert es fs) → In es (insert es (f ∷ fs))
    go true e i = rw (insert-first es f fs e) (here refl)
    go false e i = rw (insert_later es f fs e) (there i)

pub in-insert_other : (es : List ℕ) {g : List ℕ} {fs : List (List ℕ)} → In g fs → In g (insert es fs)
in-insert_other es {g} (here {f} {fs} e) = go (before es f) refl
  where
    go : (b : Bool) → before es f ≡ b → In g (insert es (f ∷ fs))
    go true d = rw (insert-first es f fs d) (there (here e))
    go false d = rw (insert_later es f fs d) (here e)
in-insert_other es {g} (there {f} {fs} i) = go (before es f) refl (in-insert_other es i)
  where
    go : (b : Bool) → before es f ≡ b → In g (insert es fs) → In g (insert es (f ∷ fs))
    go true d k = rw (insert-first es f fs d) (there (there i))
    go false d k = rw (insert_later es f fs d) (there k)

pub in-insert_cases : (es : List ℕ) (fs : List (List ℕ)) {g : List ℕ} → In g (insert es fs) → (g ≡ es) ⊎ In g fs
unfolding insert
in-insert_cases es [] (here e) = inl e
in-insert_cases es [] (there i) = inr i
in-insert_cases es (f ∷ fs) {g} i = go (λ k. in-insert_cases es fs k) (before es f) refl i
  where
    first : In g (es ∷ f ∷ fs) → (g ≡ es) ⊎ In g (f ∷ fs)
    first (here e) = inl e
    first (there i) = inr i

    later : (In g (insert es fs) → (g ≡ es) ⊎ In g fs) → In g (f ∷ insert es fs) → (g ≡ es) ⊎ In g (f ∷ fs)
    later ih (here e) = inr (here e)
    later ih (there i) = ⊎_elim (λ (e : g ≡ es). inl e) (λ (k : In g fs). inr (there k)) (ih i)

    go : (In g (insert es fs) → (g ≡ es) ⊎ In g fs) → (b : Bool) → before es f ≡ b → In g (insert es (f ∷ fs)) → (g ≡ es) ⊎ In g (f ∷ fs)
    go ih true e i = first (rw (insert-first es f fs e) at i)
    go ih false e i = later ih (rw (insert_later es f fs e) at i)

-- what comes before es and before all comes before all with es put in
before-insert : {f : List ℕ} (es : List ℕ) {fs : List (List ℕ)} → T (before f es) → BeforeAll f fs → BeforeAll f (insert es fs)
unfolding insert
before-insert es t before_none = before_more t before_none
before-insert {f} es t (before_more {f = g} {fs} u b) = go (before es g) refl (before-insert es t b)
  where
    go : (r : Bool) → before es g ≡ r → BeforeAll f (insert es fs) → BeforeAll f (insert es (g ∷ fs))
    go true e k = rw (insert-first es g fs e) (before_more t (before_more u b))
    go false e k = rw (insert_later es g fs e) (before_more u k)

-- a list put in its place keeps the order, where it is none of the others and has their length
pub insert_ordered : (es : List ℕ) {fs : List (List ℕ)} → ((f : List ℕ) → In f fs → (length es ≡ length f) × (es ≡ f → ⊥))
    → Ordered fs → Ordered (insert es fs)
unfolding insert
insert_ordered es h ordered_none = ordered_more before_none ordered_none
insert_ordered es h (ordered_more {f} {fs} b o) =
    go (before es f) refl (insert_ordered es (λ g i. h g (there i)) o)
  where
    after : before es f ≡ false → T (before f es)
    after e = cases (before_compared es f (h f (here refl)).0)
      where
        cases : Compared (T (before es f)) (es ≡ f) (T (before f es)) → T (before f es)
        cases (less t) = absurd (rw e at t)
        cases (equal d) = absurd ((h f (here refl)).1 d)
        cases (greater t) = t

    go : (r : Bool) → before es f ≡ r → Ordered (insert es fs) → Ordered (insert es (f ∷ fs))
    go true e k =
        let t : T (before es f) = rw e tt in
        rw (insert-first es f fs e) (ordered_more (before_more t (before_earlier t b)) (ordered_more b o))
    go false e k = rw (insert_later es f fs e) (ordered_more (before-insert es (after e) b) k)

-- ---- the columns

-- g is an exponent list of the box with a cell number below n and a total degree up to `most`
pub record ColumnTo (ds : List ℕ) (most n : ℕ) (g : List ℕ) : Type 0 where
  pub within : Within ds g
  pub number : cell ds g < n
  pub bounded : total g ≤ most

module _ (ds : List ℕ) (most : ℕ) where
  -- one cell more, by the test of its total degree
  columns_to-in : (n : ℕ) → leb (total (digits ds n)) most ≡ true → columns_to ds most (suc n) ≡ insert (digits ds n) (columns_to ds most n)
  unfolding columns_to
  columns_to-in n e = ap (λ (b : Bool). cond b (insert (digits ds n) (columns_to ds most n)) (columns_to ds most n)) e

  columns_to_out : (n : ℕ) → leb (total (digits ds n)) most ≡ false → columns_to ds most (suc n) ≡ columns_to ds most n
  unfolding columns_to
  columns_to_out n e = ap (λ (b : Bool). cond b (insert (digits ds n) (columns_to ds most n)) (columns_to ds most n)) e

  -- a list with cell number n is that cell's
  at-cell : {n : ℕ} {g : List ℕ} → Within ds g → cell ds g ≡ n → g ≡ digits ds n
  at-cell w e = sym (digits-cell w) ∙ ap (digits ds) e

  later : {n : ℕ} {g : List ℕ} → ColumnTo ds most n g → ColumnTo ds most (suc n) g
  later c = record { within = c.within; number = omega (arith, c.number); bounded = c.bounded }

  -- the columns below n are such lists
  columns_to_sound : (n : ℕ) → n ≤ cells ds → {g : List ℕ} → In g (columns_to ds most n) → ColumnTo ds most n g
  unfolding columns_to
  columns_to_sound zero h i = absurd (in-nil i)
  columns_to_sound (suc n) h {g} i = go (leb (total (digits ds n)) most) refl (λ k. columns_to_sound n (omega arith) k)
    where
      here-now : total (digits ds n) ≤ most → g ≡ digits ds n → ColumnTo ds most (suc n) g
      here-now l e =
          subst (ColumnTo ds most (suc n)) (sym e)
          (record { within = digits-within ds n; number = omega (arith, cell-digits ds n h); bounded = l })

      go : (b : Bool) → leb (total (digits ds n)) most ≡ b → (In g (columns_to ds most n) → ColumnTo ds most n g) → ColumnTo ds most (suc n) g
      go true e ih =
          ⊎_elim (here-now (leb-true _ most e)) (λ (k : In g (columns_to ds most n)). later (ih k))
          (in-insert_cases (digits ds n) (columns_to ds most n) (rw (columns_to-in n e) at i))
      go false e ih = later (ih (rw (columns_to_out n e) at i))

  -- and every such list is among them
  columns_to_complete : (n : ℕ) → n ≤ cells ds → {g : List ℕ} → ColumnTo ds most n g → In g (columns_to ds most n)
  columns_to_complete zero h c = absurd (not-suc-le-zero c.number)
  columns_to_complete (suc n) h {g} c =
      go (leb (total (digits ds n)) most) refl
      (λ l. columns_to_complete n (omega arith) (record { within = c.within; number = l; bounded = c.bounded }))
    where
      go : (b : Bool) → leb (total (digits ds n)) most ≡ b → (cell ds g < n → In g (columns_to ds most n)) → In g (columns_to ds most (suc n))
      go true e ih =
          rw (columns_to-in n e)
          (⊎_elim (λ (d : cell ds g ≡ n). rw (at-cell c.within d) (in_insert (digits ds n) (columns_to ds most n)))
          (λ (l : cell ds g < n). in-insert_other (digits ds n) (ih l)) (eq-or-lt_of_le (le_of_suc-le-suc c.number)))
      go false e ih =
          rw (columns_to_out n e)
          (⊎_elim
          (λ (d : cell ds g ≡ n).
          let s : total g ≡ total (digits ds n) = ap total (at-cell c.within d) in
          absurd (lt_irrefl most (omega (arith, s, leb-false (total (digits ds n)) most e, c.bounded))))
          ih (eq-or-lt_of_le (le_of_suc-le-suc c.number)))

  -- in order
  columns_to_ordered : (n : ℕ) → n ≤ cells ds → Ordered (columns_to ds most n)
  unfolding columns_to
  columns_to_ordered zero h = ordered_none
  columns_to_ordered (suc n) h = go (leb (total (digits ds n)) most) refl (columns_to_ordered n (omega arith))
    where
      new : (f : List ℕ) → In f (columns_to ds most n) → (length (digits ds n) ≡ length f) × (digits ds n ≡ f → ⊥)
      new f i =
          let c = columns_to_sound n (omega arith) i in (
            length-within (digits-within ds n) ∙ sym (length-within c.within),
            λ e. lt_irrefl n (omega (arith, c.number, ap (cell ds) e, cell-digits ds n h)),
          )

      go : (b : Bool) → leb (total (digits ds n)) most ≡ b → Ordered (columns_to ds most n) → Ordered (columns_to ds most (suc n))
      go true e o = rw (columns_to-in n e) (insert_ordered (digits ds n) new o)
      go false e o = rw (columns_to_out n e) o

  -- the columns are exactly the exponent lists of the box with a total degree up to `most`
  pub in-columns-iff : (g : List ℕ) → In g (columns ds most) ↔ (Within ds g × (total g ≤ most))
  unfolding columns
  in-columns-iff g = (
    λ i. let c = columns_to_sound (cells ds) (le_refl (cells ds)) i in (c.within, c.bounded),
    λ c. columns_to_complete (cells ds) (le_refl (cells ds)) (record { within = c.0; number = cell-lt c.0; bounded = c.1 }),
  )

  -- each once and in order
  pub columns_ordered : Ordered (columns ds most)
  unfolding columns
  columns_ordered = columns_to_ordered (cells ds) (le_refl (cells ds))

-- ---- no other list of lists is so

-- what comes before all is not among them
pub not_in-after : {es : List ℕ} {fs : List (List ℕ)} → BeforeAll es fs → In es fs → ⊥
not_in-after {es} b i = before_irrefl es (before-in b i)

-- two lists of lists in order with the same members are the same
pub ordered_unique : {fs gs : List (List ℕ)} → Ordered fs → Ordered gs → ((es : List ℕ) → In es fs ↔ In es gs) → fs ≡ gs
ordered_unique ordered_none ordered_none h = refl
ordered_unique ordered_none (ordered_more {f = g} c p) h = absurd (in-nil ((h g).1 (here refl)))
ordered_unique (ordered_more {f} b o) ordered_none h = absurd (in-nil ((h f).0 (here refl)))
ordered_unique (ordered_more {f} {fs} b o) (ordered_more {f = g} {fs = gs} c p) h =
    ap₂ ◌∷◌ same (ordered_unique o p (λ es. (forth es, back es)))
  where
    first : In f (g ∷ gs) → In g (f ∷ fs) → f ≡ g
    first (here e) k = e
    first (there i) (here e) = sym e
    first (there i) (there k) = absurd (before_irrefl f (before_trans f g f (before-in b k) (before-in c i)))

    same : f ≡ g
    same = first ((h f).0 (here refl)) ((h g).1 (here refl))

    forth : (es : List ℕ) → In es fs → In es gs
    forth es i = go ((h es).0 (there i))
      where
        go : In es (g ∷ gs) → In es gs
        go (here e) = absurd (not_in-after b (subst (λ (x : List ℕ). In x fs) (e ∙ sym same) i))
        go (there k) = k

    back : (es : List ℕ) → In es gs → In es fs
    back es i = go ((h es).1 (there i))
      where
        go : In es (f ∷ fs) → In es fs
        go (here e) = absurd (not_in-after c (subst (λ (x : List ℕ). In x gs) (e ∙ same) i))
        go (there k) = k

-- a list of lists in order whose members are the exponent lists of the box with a total degree up to `most` is the list of columns
pub columns_unique : (ds : List ℕ) (most : ℕ) {fs : List (List ℕ)} → Ordered fs
    → ((g : List ℕ) → In g fs ↔ (Within ds g × (total g ≤ most))) → fs ≡ columns ds most
columns_unique ds most o h =
    ordered_unique o (columns_ordered ds most)
    (λ es. (λ i. (in-columns-iff ds most es).1 ((h es).0 i), λ i. (h es).1 ((in-columns-iff ds most es).0 i)))

-- the list at a place below the length is a member
pub in_get_or : (fs : List (List ℕ)) (c : ℕ) → c < length fs → In (get_or fs c []) fs
in_get_or [] c h = absurd (not-suc-le-zero h)
in_get_or (f ∷ fs) zero h = here refl
in_get_or (f ∷ fs) (suc c) h = there (in_get_or fs c (le_of_suc-le-suc h))

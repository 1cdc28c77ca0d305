-- What the calls on boxes answer and leave in lent tables: total variables, width w, support, degree list ds, then the tables.
use Rattle.std.specs.Prelude.{ℕ, zero, suc, ◌^◌, Bool, true, false, ◌&&◌, cond, List, [], ◌∷◌, ltb, eqb, length}
use Rattle.meaning.specs.Tables.{tabulate, at}
use Rattle.meaning.specs.Boxes.{cells, digits}
use Rattle.meaning.specs.Values.{value, bound, box_total, box_reduced}
use Rattle.meaning.specs.Recovery.{every, accepts, answer}
use Rattle.meaning.specs.Datum.{moved}
use Rattle.meaning.specs.Sameness.{Form, same_forms}
use Rattle.meaning.specs.Replies.{Reply, accepted, refused}
use Rattle.meaning.specs.Settings.{fits_width, settings_number, limited_number, call_number, first}

-- an accepted value where the number is 0, else a refusal
abbrev pub reply : ℕ → ℕ → Reply
reply zero v = accepted v
reply (suc n) v = refused (suc n)

-- what a table ends with where the number is 0, else what it was
abbrev pub left : ℕ → List ℕ → List ℕ → List ℕ
left zero done was = done
left (suc n) done was = was

-- 1 for yes, 0 for no
abbrev pub truth : Bool → ℕ
truth true = 1
truth false = 0

-- the two lists are equal
unfoldable pub same_list : List ℕ → List ℕ → Bool
same_list [] [] = true
same_list [] (y ∷ ys) = false
same_list (x ∷ xs) [] = false
same_list (x ∷ xs) (y ∷ ys) = eqb x y && same_list xs ys

-- the settings alone: their cells
unfoldable pub settings_reply : Bool → ℕ → ℕ → List ℕ → List ℕ → Reply
unfolding limited_number
settings_reply strict total w support ds = reply (settings_number strict total (fits_width w) support ds) (cells ds)

-- is_valid: every coefficient, read whole, is below its bound. A bad width is a no, and no cause of refusal.
unfoldable pub valid_reply : ℕ → ℕ → List ℕ → List ℕ → List ℕ → Reply
unfolding call_number every bound
valid_reply total w support ds c =
    reply (call_number false total true support ds (eqb (length c) (cells ds)))
    (truth (fits_width w && every (cells ds) (λ n. ltb (at c n) (bound w (digits ds n)))))

-- settings and length of a form
abbrev pub form_number : Form → ℕ
form_number f =
    call_number false f.total (fits_width f.width) f.support f.degrees (eqb (length f.coefficients) (cells f.degrees))

-- sameness: the first form is checked, then the second; a yes exactly when the test of sameness says so
unfoldable pub same_reply : Form → Form → Reply
unfolding call_number same_forms
same_reply f g = reply (first (form_number f) (form_number g)) (truth (same_forms f g))

-- the value at a point, with a coordinate for each support variable
unfoldable pub value_reply : ℕ → ℕ → List ℕ → List ℕ → List ℕ → List ℕ → Reply
unfolding call_number value
value_reply total w support ds c xs =
    reply (call_number false total (fits_width w) support ds (eqb (length c) (cells ds) && eqb (length xs) (length support)))
    (value (2 ^ w) ds c xs)

-- a call with one table in and one out, both of the box's length
abbrev pub in_out_number : Bool → ℕ → ℕ → List ℕ → List ℕ → List ℕ → List ℕ → ℕ
in_out_number strict total w support ds c out =
    call_number strict total (fits_width w) support ds (eqb (length c) (cells ds) && eqb (length out) (cells ds))

-- the sum of two boxes
unfoldable pub sum_number : ℕ → ℕ → List ℕ → List ℕ → List ℕ → List ℕ → List ℕ → ℕ
unfolding call_number
sum_number total w support ds a b out =
    call_number false total (fits_width w) support ds
    (eqb (length a) (cells ds) && eqb (length b) (cells ds) && eqb (length out) (cells ds))

unfoldable pub sum_left : ℕ → ℕ → List ℕ → List ℕ → List ℕ → List ℕ → List ℕ → List ℕ
unfolding sum_number box_total bound
sum_left total w support ds a b out = left (sum_number total w support ds a b out) (box_total (bound w) ds a b) out

-- each coefficient of a box taken modulo its bound, in place
unfoldable pub reduce_number : ℕ → ℕ → List ℕ → List ℕ → List ℕ → ℕ
unfolding call_number
reduce_number total w support ds c = call_number false total (fits_width w) support ds (eqb (length c) (cells ds))

unfoldable pub reduce_left : ℕ → ℕ → List ℕ → List ℕ → List ℕ → List ℕ
unfolding reduce_number box_reduced bound
reduce_left total w support ds c = left (reduce_number total w support ds c) (box_reduced (bound w) ds c) c

-- recovery: settings and lengths, then 6 where a difference does not pass
unfoldable pub recovery_number : ℕ → ℕ → List ℕ → List ℕ → List ℕ → List ℕ → ℕ
unfolding call_number accepts
recovery_number total w support ds v out = first (in_out_number true total w support ds v out) (cond (accepts w ds v) 0 6)

-- the coefficients where it is accepted, zeros after 6, else what was there
unfoldable pub recovery_left : ℕ → ℕ → List ℕ → List ℕ → List ℕ → List ℕ → List ℕ
unfolding call_number accepts answer
recovery_left total w support ds v out =
    left (in_out_number true total w support ds v out) (cond (accepts w ds v) (answer w ds v) (tabulate (cells ds) (λ n. 0))) out

-- a conversion: `done` is the converted box
unfoldable pub convert_left : ℕ → ℕ → List ℕ → List ℕ → List ℕ → List ℕ → List ℕ → List ℕ
unfolding call_number
convert_left total w support ds c out done = left (in_out_number false total w support ds c out) done out

-- the move of a form: one table in and one out, both of the box's length, and an offset for each support variable
unfoldable pub move_number : ℕ → ℕ → List ℕ → List ℕ → List ℕ → List ℕ → List ℕ → ℕ
unfolding call_number
move_number total w support ds c os out =
    call_number false total (fits_width w) support ds
    (eqb (length c) (cells ds) && eqb (length os) (length support) && eqb (length out) (cells ds))

unfoldable pub move_left : ℕ → ℕ → List ℕ → List ℕ → List ℕ → List ℕ → List ℕ → List ℕ
unfolding move_number moved
move_left total w support ds c os out = left (move_number total w support ds c os out) (moved w ds c os) out

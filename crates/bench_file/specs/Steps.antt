-- The reader: what one byte makes of it, and what it makes of a lent table of values.
use Rattle.std.specs.Prelude.{ℕ, ◌+◌, Bool, ◌&&◌, cond, List, [], ◌∷◌, leb, ltb, eqb, length, take, drop, set, replicate, Option, Some, None, Ok, Err, ⊤}
use Rattle.std.specs.Prelude.{Result}
use Rattle.meaning.specs.Tables.{at}
use Rattle.bench_file.specs.Columns.{with_last_digit, with_column_of}
use Rattle.bench_file.specs.Layout.{Head}
use Rattle.bench_file.specs.declared.reader.Stage.{Stage}
use Rattle.bench_file.specs.declared.reader.Reader.{Reader}
use Rattle.bench_file.specs.declared.reader.IllFormed.{IllFormed}

abbrev pub reader : Stage → ℕ → ℕ → ℕ → List ℕ → ℕ → Reader
reader stage column shown got head count =
    record { stage = stage; column = column; shown = shown; got = got; head = head; count = count }

-- nothing is read yet
abbrev pub none_read : Reader
none_read = reader Stage.FirstLine 0 0 0 (replicate 24 0) 0

-- the same at another stage
abbrev pub staged : Stage → Reader → Reader
staged s r = reader s r.column r.shown r.got r.head r.count

abbrev pub on_field : Option ℕ → (ℕ → Reader) → Reader → Reader
on_field (Some n) f ill = f n
on_field None f ill = ill

-- one column more of an open number
abbrev pub opened : Reader → ℕ → Reader
opened r v = reader r.stage (r.column + 1) v r.got r.head r.count

-- a number of the first two lines is read
abbrev pub with_head : Reader → ℕ → Reader
with_head r n = cond (ltb r.got 24) (reader r.stage 0 0 (r.got + 1) (set r.head r.got n) r.count) (staged Stage.IllHead r)

-- a byte inside a number of the first two lines
unfoldable pub head_column_of : Reader → ℕ → Reader
head_column_of r b =
    cond (ltb r.column 20) (on_field (with_column_of r.shown b) (opened r) (staged Stage.IllHead r))
    (on_field (with_last_digit r.shown b) (with_head r) (staged Stage.IllHead r))

-- the first line has four numbers
abbrev pub first_whole : Reader → Bool
first_whole r = eqb r.column 0 && eqb r.got 4

unfoldable pub first_byte_of : Reader → ℕ → Reader
unfolding head_column_of
first_byte_of r b = cond (eqb b 10) (cond (first_whole r) (staged Stage.SecondLine r) (staged Stage.IllHead r)) (head_column_of r b)

-- the second line has as many numbers as the fourth says, and that is at most 20; the third is at most 255
abbrev pub second_whole : Reader → Bool
second_whole r = (eqb r.column 0 && leb (at r.head 2) 255) && (leb (at r.head 3) 20 && eqb r.got (at r.head 3 + 4))

unfoldable pub second_byte_of : Reader → ℕ → Reader
unfolding head_column_of
second_byte_of r b = cond (eqb b 10) (cond (second_whole r) (staged Stage.Value r) (staged Stage.IllHead r)) (head_column_of r b)

-- the last column of a value is read
abbrev pub with_value_of : Reader → ℕ → Reader
with_value_of r n = reader Stage.LineEnd 0 n r.got r.head r.count

-- a byte of a value
unfoldable pub value_byte_of : Reader → ℕ → Reader
value_byte_of r b =
    cond (ltb r.column 20) (on_field (with_column_of r.shown b) (opened r) (staged Stage.IllValues r))
    (on_field (with_last_digit r.shown b) (with_value_of r) (staged Stage.IllValues r))

-- the count of values after one more, for a table of the given length: where there is no room it is one more than the length
abbrev pub counted : ℕ → ℕ → ℕ
counted size count = cond (ltb count size) (count + 1) (size + 1)

-- a reader and the table that is lent to it
pub record State : Type 0 where
  pub reader : Reader
  pub values : List ℕ

abbrev pub state : Reader → List ℕ → State
state r t = record { reader = r; values = t }

-- the byte after a value, which goes to its place in the table if there is one
unfoldable pub line_end : State → ℕ → State
line_end s b =
    cond (eqb b 10)
    (state
    (reader Stage.Value 0 0 s.reader.got s.reader.head (counted (length s.values) s.reader.count))
    (set s.values s.reader.count s.reader.shown))
    (state (staged Stage.IllValues s.reader) s.values)

-- one byte
unfoldable pub step_at : Stage → State → ℕ → State
unfolding first_byte_of second_byte_of value_byte_of line_end
step_at Stage.FirstLine s b = state (first_byte_of s.reader b) s.values
step_at Stage.SecondLine s b = state (second_byte_of s.reader b) s.values
step_at Stage.Value s b = state (value_byte_of s.reader b) s.values
step_at Stage.LineEnd s b = line_end s b
step_at Stage.IllHead s b = s
step_at Stage.IllValues s b = s

abbrev pub step : State → ℕ → State
step s b = step_at s.reader.stage s b

-- bytes one after the other
unfoldable pub fed : State → List ℕ → State
unfolding step_at
fed s [] = s
fed s (b ∷ bs) = fed (step s b) bs

-- what was read of the first two lines
abbrev pub head_of : Reader → Head
head_of r =
    record { width = at r.head 0; total = at r.head 1; degree = at r.head 2; support = take (at r.head 3) (drop 4 r.head) }

-- what all the bytes were, where no more follow
unfoldable pub reading_at : Stage → Reader → Result ⊤ IllFormed
reading_at Stage.FirstLine r = Err IllFormed.Head
reading_at Stage.SecondLine r = Err IllFormed.Head
reading_at Stage.Value r = cond (eqb r.column 0) (Ok tt) (Err IllFormed.Values)
reading_at Stage.LineEnd r = Err IllFormed.Values
reading_at Stage.IllHead r = Err IllFormed.Head
reading_at Stage.IllValues r = Err IllFormed.Values

abbrev pub reading_of : Reader → Result ⊤ IllFormed
reading_of r = reading_at r.stage r

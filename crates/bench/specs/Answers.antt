-- What the program prints, from the parts that the reader hands over.
use Rattle.std.specs.Prelude.{◌≡◌, ℕ, ◌-◌, cond, List, eqb, length, take, drop, replicate, Option, Result, ⊤}
use Rattle.std.specs.declared.option.Option.{Option}
use Rattle.std.specs.Io.KnownBytes.{Consumes}
use Rattle.meaning.specs.Tables.{at}
use Rattle.meaning.specs.Boxes.{cells}
use Rattle.meaning.specs.Recovery.{accepts, answer}
use Rattle.bench_file.specs.Layout.{Head, longest_file, Content, Says, degrees_of, head_number, accepted_text, refused_text, bench_text}
use Rattle.bench_file.specs.Steps.{state, none_read, fed}
use Rattle.bench_file.specs.Printed.{printed, printed_size}
use Rattle.bench_file.specs.Verdict.{verdict, lowered}
use Rattle.bench_file.specs.declared.reader.IllFormed.{IllFormed}
use Rattle.bench_file.specs.declared.reader.Reader.{Reader}
use Rattle.settings.specs.declared.Settings.{Settings}

-- what the first two lines say
abbrev pub asked : ℕ → ℕ → ℕ → List ℕ → Head
asked width total degree support = record { width = width; total = total; degree = degree; support = support }

-- the same from settings
abbrev pub asked_by : Settings → Head
asked_by s = asked s.bitwidth s.total s.max_degree s.support.now

-- the same from the reader's table of their numbers, the degree cut to one byte
abbrev pub low_head : List ℕ → Head
low_head hd = asked (at hd 0) (at hd 1) (lowered (at hd 2)) (take (at hd 3) (drop 4 hd))

-- the text of a number: the coefficients where it is 0
abbrev pub text_for : ℕ → List ℕ → List ℕ → List ℕ
text_for number ds cs = cond (eqb number 0) (accepted_text ds cs) (refused_text number)

-- the number of the answer, for first lines h, a count of values, and the table t that begins with them
unfoldable pub number_of : Result ⊤ IllFormed → Head → ℕ → List ℕ → ℕ
unfolding head_number cells accepts verdict
number_of x h count t =
    verdict x (head_number h) (eqb count (cells (degrees_of h))) (cond (accepts h.width (degrees_of h) (take (cells (degrees_of h)) t)) 0 6)

unfoldable pub text_of : Result ⊤ IllFormed → Head → ℕ → List ℕ → List ℕ
unfolding number_of cells answer accepted_text refused_text
text_of x h count t = text_for (number_of x h count t) (degrees_of h) (answer h.width (degrees_of h) (take (cells (degrees_of h)) t))

-- the bytes `bs`, fed to the reader from its beginning with a table of 4,096 zeros, lead to this reader and this table
abbrev pub FedBy : Reader → List ℕ → List ℕ → Type 0
FedBy r t bs = state r t ≡ fed (state none_read (replicate 4096 0)) bs

-- some bytes lead the reader from its beginning, with the table t₀, to the reader r and the table t; `left` of the longest file's bytes are not read yet
pub record Led (t₀ : List ℕ) (r : Reader) (t : List ℕ) (left : ℕ) : Type 0 where
  pub bytes : List ℕ
  pub led : state r t ≡ fed (state none_read t₀) bytes
  pub unread : left ≡ longest_file - length bytes

-- the same of a source of bytes, which gave these: `before` and `after` are what it had left, where it says so
abbrev pub LedFrom : Option (List ℕ) → Option (List ℕ) → List ℕ → Reader → List ℕ → ℕ → Type 0
LedFrom before after t₀ r t left = (l : Led t₀ r t left) × Consumes before after l.bytes

-- what is printed of the bytes that lead here is what the layout says of them: how many bytes of the buffer `out` it takes
abbrev pub SaysText : Reader → List ℕ → List ℕ → Option ℕ → Type 0
SaysText r t out w = (bs : List ℕ) (x : Content) → FedBy r t bs → Says bs x → w ≡ printed_size (bench_text x) out

-- and what they are
abbrev pub LeavesText : Reader → List ℕ → List ℕ → List ℕ → Type 0
LeavesText r t out left = (bs : List ℕ) (x : Content) → FedBy r t bs → Says bs x → left ≡ printed (bench_text x) out

-- What becomes of an input.
use Rattle.std.specs.Prelude.{◌≡◌, ⊤, ℕ, ◌≤◌, List, ◌++◌, length, IfSome, Result, Ok, Err}
use Rattle.std.specs.declared.option.Option.{Option}
use Rattle.std.specs.Io.KnownBytes.{Appends}
use Rattle.std.proofs.lemmas.List.Edits.{sets}
use Rattle.bench_file.specs.Layout.{longest_file, Content, ill_head, Says, bench_text}
use Rattle.bench.specs.GridAnswers.{Answering}
use Rattle.bench_file.specs.declared.reader.Stage.{Stage}
use Rattle.bench_file.specs.declared.reader.Reader.{Reader}
use Rattle.bench.specs.declared.Ending.{Ending}
use Rattle.bench.specs.declared.Failure.{Failure}

-- the buffer begins with the n bytes of what is printed where a file says this, which for a grid is recovery's verdict
pub record TextOf (content : Content) (n : ℕ) (out left : List ℕ) : Type 0 where
  pub text : List ℕ
  pub layout : text ≡ bench_text content
  pub answers : Answering content text
  pub size : n ≡ length text
  pub begins : left ≡ sets out 0 text

-- some bytes were read, and the text is that of what they say
pub record WholeText (n : ℕ) (out left : List ℕ) : Type 0 where
  pub bytes : List ℕ
  pub content : Content
  pub says : Says bytes content
  pub text : TextOf content n out left

-- some bytes were read, at least as many as the longest file has; whatever follows them the first two lines are ill-formed, and the text is that of such a file
pub record IllHeadText (n : ℕ) (out left : List ℕ) : Type 0 where
  pub bytes : List ℕ
  pub enough : longest_file ≤ length bytes
  pub says : (more : List ℕ) → Says (bytes ++ more) ill_head
  pub text : TextOf ill_head n out left

-- nothing that follows is wanted: the first two lines are ill-formed, and no bytes are left of the longest file
abbrev pub IsDecided : Reader → ℕ → Type 0
IsDecided r left = (left ≡ 0) × (r.stage ≡ Stage.IllHead)

-- the size of what is printed of an input that ended so
abbrev pub size_of : Ending → ℕ
size_of (Ending.Whole n) = n
size_of (Ending.IllHead n) = n

-- an ending at the end of the source says so of that source; the other says nothing of it
abbrev pub Ended : Ending → Type 0 → Type 0
Ended (Ending.Whole n) source_ends = source_ends
Ended (Ending.IllHead n) source_ends = ⊤

-- what is written for an input, by how it ended, or nothing where it could not be read
abbrev pub Answered : Result Ending Failure → List ℕ → List ℕ → Type 0
Answered (Ok (Ending.Whole n)) out left = WholeText n out left
Answered (Ok (Ending.IllHead n)) out left = IllHeadText n out left
Answered (Err f) out left = left ≡ out

-- the buffer begins with the n bytes of what is printed of a source's bytes, where these are known
pub record SourceText (known : Option (List ℕ)) (n : ℕ) (out left : List ℕ) : Type 0 where
  pub content : Content
  pub says : IfSome known (λ bs. Says bs content)
  pub text : TextOf content n out left

-- a sink that held `before` holds `after`: what is printed of a source's bytes was appended, where these are known
pub record Printed (known before after : Option (List ℕ)) : Type 0 where
  pub content : Content
  pub says : IfSome known (λ bs. Says bs content)
  pub appended : Appends before after (bench_text content)

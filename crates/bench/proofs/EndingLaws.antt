-- From the reader and the text to what becomes of the input.
use Rattle.std.proofs.Common.{sym, ◌∙◌, ap, ap₂, subst, append-nil, arith, take_at, ⊎_elim}
use Rattle.std.proofs.Math.Seq.{sets-eq, length-sets}
use Rattle.std.specs.Prelude.{◌≡◌, refl, List, [], ◌++◌, ℕ, ◌+◌, ◌≤◌, length, take, drop, replicate, None, Some, IfSome, Option, Ok, Err, ⊤, Result, ◌⊎◌, IsSome}
use Rattle.std.specs.Io.KnownBytes.{Consumes, Appends, IsAtEnd}
use Rattle.std.proofs.KnownBytes.{Consumes-whole}
use Rattle.bench_file.specs.Layout.{Content, Says, ill_head, ill_values, whole, bench_text}
use Rattle.bench_file.specs.Steps.{State, state, none_read, fed, head_of, reading_of}
use Rattle.bench_file.specs.Reading.{ReadAs, read_ill_head, read_ill_values, read_whole}
use Rattle.bench_file.specs.ReaderLaws.{read_as, ill_head_stays}
use Rattle.bench_file.specs.AnswerLaws.{printed_whole, printed_size_lem}
use Rattle.bench_file.specs.declared.reader.Reader.{Reader}
use Rattle.bench.specs.Answers.{FedBy, Led, SaysText, LeavesText}
use Rattle.bench.proofs.RoomLaws.{text_room_lem}
use Rattle.bench.specs.GridAnswers.{answering}
use Rattle.bench.specs.declared.Ending.{Ending}
use Rattle.bench.specs.Endings.{TextOf, WholeText, IllHeadText, IsDecided, size_of, Answered, SourceText, Printed}
use Rattle.bench_file.specs.declared.reader.IllFormed.{IllFormed}

-- all bytes say something
record Said (bs : List ℕ) : Type 0 where
  pub content : Content
  pub says : Says bs content

said_of : (t₀ bs : List ℕ) → Said bs
said_of t₀ bs = go (fed (state none_read t₀) bs) (reading_of (fed (state none_read t₀) bs).reader) (read_as t₀ bs)
  where
    go : (s : State) (y : Result ⊤ IllFormed) → ReadAs t₀ bs s y → Said bs
    go s (Err IllFormed.Head) (read_ill_head p) = record { content = ill_head; says = p }
    go s (Err IllFormed.Values) (read_ill_values p) = record { content = ill_values (head_of s.reader); says = p }
    go s (Ok tt) (read_whole vs p c v) = record { content = whole (head_of s.reader) vs; says = p }

-- what holds of some bytes and any that follow them holds of all that a source had which gave these bytes
given_front : (a b : Option (List ℕ)) (bs : List ℕ) (P : List ℕ → Type 0) → Consumes a b bs → ((more : List ℕ) → P (bs ++ more)) → IfSome a P
given_front None b bs P k h = tt
given_front (Some x) None bs P k h = absurd k
given_front (Some x) (Some y) bs P k h = subst P (sym k) (h y)

-- what is printed where the bytes say this
module _ (t₀ : List ℕ) (zeros : t₀ ≡ replicate 4096 0) (r : Reader) (t out left : List ℕ) (w : Option ℕ) (unread : ℕ) (led : Led t₀ r t unread)
    (room : length out ≡ 1122347) (says : SaysText r t out w) (leaves : LeavesText r t out left) where
  by_bytes : FedBy r t led.bytes
  by_bytes = led.led ∙ ap (λ (x : List ℕ). fed (state none_read x) led.bytes) zeros

  fits : (x : Content) → length (bench_text x) ≤ length out
  fits x = omega (arith, text_room_lem x, room)

  -- the text fits
  has_size : (x : Content) → Says led.bytes x → w ≡ Some (length (bench_text x))
  has_size x s = says led.bytes x by_bytes s ∙ printed_size_lem (bench_text x) out (fits x)

  text_of : (x : Content) → Says led.bytes x → (n : ℕ) → w ≡ Some n → TextOf x n out left
  text_of x s n e =
      record {
        text = bench_text x;
        layout = refl;
        answers = answering x;
        size = ap bytes_of (sym e ∙ has_size x s);
        begins = leaves led.bytes x by_bytes s ∙ printed_whole (bench_text x) out (fits x);
      }
    where
      bytes_of : Option ℕ → ℕ
      bytes_of (Some n) = n
      bytes_of None = 0

  said : Said led.bytes
  said = said_of t₀ led.bytes

  whole_text : (n : ℕ) → w ≡ Some n → WholeText n out left
  whole_text n e =
      record { bytes = led.bytes; content = said.content; says = said.says; text = text_of said.content said.says n e }

  -- first lines that are ill-formed stay so
  stays : IsDecided r unread → (more : List ℕ) → Says (led.bytes ++ more) ill_head
  stays ill = ill_head_stays t₀ led.bytes (ap (λ (s : State). s.reader.stage) (sym led.led) ∙ ill.1)

  ill_text : IsDecided r unread → (n : ℕ) → w ≡ Some n → TextOf ill_head n out left
  ill_text ill n e = text_of ill_head (subst (λ (bs : List ℕ). Says bs ill_head) (append-nil led.bytes) (stays ill [])) n e

  ill_head_text : IsDecided r unread → (n : ℕ) → w ≡ Some n → IllHeadText n out left
  ill_head_text ill n e =
      record {
        bytes = led.bytes;
        enough = omega (arith, ill.0, led.unread);
        says = stays ill;
        text = ill_text ill n e;
      }

  pub answered : (x : Ending) → (x ≡ Ending.IllHead (size_of x) → IsDecided r unread) → w ≡ Some (size_of x) → Answered (Ok x) out left
  answered (Ending.Whole n) ill e = whole_text n e
  answered (Ending.IllHead n) ill e = ill_head_text (ill refl) n e

  -- the same of the source's bytes: the source is at its end, or is decided before
  module _ (before after : Option (List ℕ)) (k : Consumes before after led.bytes) (ends : IsAtEnd after ⊎ IsDecided r unread) (n : ℕ) (e : w ≡ Some n) where
    pub source_text : SourceText before n out left
    source_text = ⊎_elim whole_source decided_source ends
      where
        whole_source : IsAtEnd after → SourceText before n out left
        whole_source at_end =
            record {
              content = said.content;
              says = Consumes-whole before after led.bytes (λ (bs : List ℕ). Says bs said.content) k at_end said.says;
              text = text_of said.content said.says n e;
            }

        decided_source : IsDecided r unread → SourceText before n out left
        decided_source ill =
            record {
              content = ill_head;
              says = given_front before after led.bytes (λ (bs : List ℕ). Says bs ill_head) k (stays ill);
              text = ill_text ill n e;
            }

  pub always_room : IsSome w
  always_room = go w refl
    where
      go : (v : Option ℕ) → w ≡ v → IsSome v
      go (Some n) e = refl
      go None e =
          let clash : ◌≡◌ {A = Option ℕ} None (Some (length (bench_text said.content))) = sym e ∙ has_size said.content said.says in
          let z : ◌≡◌ {A = ℕ} 0 1 = cc in absurd (omega arith)

-- the text lies inside its buffer
module _ (out left : List ℕ) (room : length out ≡ 1122347) where
  inside : (n : ℕ) (x : Content) → TextOf x n out left → n ≤ length left
  inside n x a =
      let same : length left ≡ length out = ap length a.begins ∙ length-sets out 0 a.text in
      omega (arith, text_room_lem x, ap length a.layout, a.size, room, same)

  pub text_inside : (x : Ending) → Answered (Ok x) out left → size_of x ≤ length left
  text_inside (Ending.Whole n) a = inside n a.content a.text
  text_inside (Ending.IllHead n) a = inside n ill_head a.text

-- the text is what is written of the buffer
front : (x : Content) (n : ℕ) (out left : List ℕ) → length out ≡ 1122347 → TextOf x n out left → take n left ≡ bench_text x
front x n out left room a =
    ap₂ take a.size a.begins
    ∙ ap (take (length a.text)) (sets-eq a.text out 0 (omega (arith, text_room_lem x, ap length a.layout, room)))
    ∙ take_at a.text (drop (0 + length a.text) out) (length a.text) refl
    ∙ a.layout

pub printed_lem : (known before after : Option (List ℕ)) (n : ℕ) (out left : List ℕ) → length out ≡ 1122347 → SourceText known n out left
    → Appends before after (take n left) → Printed known before after
printed_lem known before after n out left room s k =
    record {
      content = s.content;
      says = s.says;
      appended = subst (λ (bs : List ℕ). Appends before after bs) (front s.content n out left room s.text) k;
    }

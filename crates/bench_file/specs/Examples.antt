-- Document 01's whole case, byte for byte, and the ends of the numbers' range.
use Rattle.std.specs.Prelude.{◌≡◌, refl, List, [], ◌∷◌, ◌++◌, ℕ, ◌^◌, ◌-◌, replicate}
use Rattle.bench_file.specs.Text.{number}
use Rattle.bench_file.specs.Layout.{Head, head_text, values_text, accepted_text, refused_text}

zero_text : number 0 ≡ replicate 20 32 ++ (48 ∷ [])
unfolding number
zero_text = refl

ten_text : number 10 ≡ replicate 19 32 ++ (49 ∷ 48 ∷ [])
unfolding number
ten_text = refl

-- 18446744073709551615
largest_text : number (2 ^ 64 - 1)
    ≡ 32 ∷ 49 ∷ 56 ∷ 52 ∷ 52 ∷ 54 ∷ 55 ∷ 52 ∷ 52 ∷ 48 ∷ 55 ∷ 51 ∷ 55 ∷ 48 ∷ 57 ∷ 53 ∷ 53 ∷ 49 ∷ 54 ∷ 49 ∷ 53 ∷ []
unfolding number
largest_text = refl

-- a number of one digit
abbrev short : ℕ → List ℕ
short n = replicate 20 32 ++ (n ∷ [])

-- the input: 8 1 2 1, then 0, then 1, 2, 5
abbrev input : List ℕ
input =
    short 56 ++ short 49 ++ short 50 ++ short 49 ++ (10 ∷ [])
    ++ short 48 ++ (10 ∷ [])
    ++ short 49 ++ (10 ∷ [])
    ++ short 50 ++ (10 ∷ [])
    ++ short 53 ++ (10 ∷ [])

abbrev asked : Head
asked = record { width = 8; total = 1; degree = 2; support = 0 ∷ [] }

pub input_text : head_text asked ++ values_text (1 ∷ 2 ∷ 5 ∷ []) ≡ input
unfolding head_text values_text
input_text = refl

-- the output: 0 3, then 0 1, 1 1, 2 1
abbrev output : List ℕ
output =
    short 48 ++ short 51 ++ (10 ∷ [])
    ++ short 48 ++ short 49 ++ (10 ∷ [])
    ++ short 49 ++ short 49 ++ (10 ∷ [])
    ++ short 50 ++ short 49 ++ (10 ∷ [])

pub output_text : accepted_text (2 ∷ []) (1 ∷ 1 ∷ 1 ∷ []) ≡ output
unfolding accepted_text
output_text = refl

pub refused_text_lem : refused_text 12 ≡ replicate 19 32 ++ (49 ∷ 50 ∷ 10 ∷ [])
unfolding refused_text
refused_text_lem = refl

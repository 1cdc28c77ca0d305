-- The number and the value of each answer.
use Rattle.std.specs.Prelude.{ℕ, Bool, true, false, ⊤, Result, Ok, Err}
use Rattle.meaning.specs.Replies.{Reply, accepted, refused}
use Rattle.answers.specs.declared.Refusal.{Refusal}
use Rattle.answers.specs.declared.Refusal.TheVariants.{EmptySupport, TooManyVariables, WidthOutOfRange, DegreeZero, SupportIndex, NotDivisible, RepeatedIndex, TooLarge, WrongLength, NoAnswer, OutOfRange, IllFormed}

abbrev pub code : Refusal → ℕ
code EmptySupport = 1
code TooManyVariables = 2
code WidthOutOfRange = 3
code DegreeZero = 4
code SupportIndex = 5
code NotDivisible = 6
code RepeatedIndex = 7
code TooLarge = 8
code WrongLength = 9
code NoAnswer = 10
code OutOfRange = 11
code IllFormed = 12

-- the number that an outcome says: 0 where it is accepted
abbrev pub said_number : Result ⊤ Refusal → ℕ
said_number (Ok _) = 0
said_number (Err r) = code r

-- the number and the value that an answer says
abbrev pub said : Result ℕ Refusal → Reply
said (Ok v) = accepted v
said (Err r) = refused (code r)

-- a yes is the value 1, a no the value 0
abbrev pub said_truth : Result Bool Refusal → Reply
said_truth (Ok true) = accepted 1
said_truth (Ok false) = accepted 0
said_truth (Err r) = refused (code r)

-- The numbers of the calls.
use Rattle.std.specs.Prelude.{◌≡◌, ℕ, Result, Ok, Err}
use Rattle.answers.specs.declared.Refusal.{Refusal}
use Rattle.replay.specs.declared.calls.BoxCall.{BoxCall}
use Rattle.replay.specs.declared.calls.System.{System}
use Rattle.replay.specs.declared.calls.Kind.{Kind}
use Rattle.replay.specs.declared.calls.Leaf.{Leaf}
use Rattle.replay.specs.declared.calls.Call.{Call}

abbrev pub op_of : Call → ℕ
op_of (Call.Box BoxCall.ToFactorialBasis) = 1
op_of (Call.Box BoxCall.ToMonomialBasis) = 2
op_of (Call.Box BoxCall.NormalizePolynomial) = 3
op_of (Call.Box BoxCall.RecoverMultivarPoly) = 4
op_of (Call.Box BoxCall.RecoverSingletonPowers) = 5
op_of (Call.System System.Solve) = 6
op_of (Call.System System.SolveFixed) = 7
op_of (Call.System System.Fit) = 8
op_of (Call.Leaf Leaf.WrappingMul) = 21
op_of (Call.Leaf Leaf.Bitmask) = 22
op_of (Call.Leaf Leaf.ModAdd) = 23
op_of (Call.Leaf Leaf.ModSub) = 24
op_of (Call.Leaf Leaf.ModMul) = 25
op_of (Call.Leaf Leaf.ModNeg) = 26
op_of (Call.Leaf Leaf.TwosInFactorial) = 27
op_of (Call.Leaf Leaf.PrecisionBits) = 28
op_of (Call.Leaf Leaf.DegreeCap) = 29
op_of (Call.Leaf Leaf.OddPartFactorial) = 30
op_of (Call.Leaf Leaf.ModInverseOdd) = 31
op_of (Call.Leaf (Leaf.Stirling Kind.Second)) = 32
op_of (Call.Leaf (Leaf.Stirling Kind.First)) = 33

-- the number is the call's; one that is no call's is out of range
abbrev pub Names : ℕ → Result Call Refusal → Type 0
Names op (Ok call) = op ≡ op_of call
Names op (Err refusal) = (refusal ≡ Refusal.OutOfRange) × ((call : Call) → op ≡ op_of call → ⊥)

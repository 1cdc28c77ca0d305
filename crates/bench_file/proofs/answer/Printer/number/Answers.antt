-- The lent part has 21 bytes, which `write_number` fills; put back, it is the number stored at its place (`number-in-part`).
use Rattle.std.proofs.Common.{refl, arith}
use Rattle.bench_file.specs.NumberLaws.{length-number}
use Rattle.bench_file.specs.PrintLaws.{number-in-part}
use Rattle.bench_file.proofs.answer.Printer.number.Goals as goal

pub returns : goal.returns
returns c = record {
  same_buffer = refl;
  size = omega (arith, length-number c.args.value);
  leaves = number-in-part _ _ c.args.value _ c.requires c.write_number.ensures;
}

-- What each byte of a line does to the state.
use Rattle.std.specs.Prelude.{ℕ, ◌+◌, ◌*◌, ◌%◌, ◌^◌, cond, replicate, nat_lt, slice_set, Option, Some, None, unwrap_or}
use Rattle.replay.specs.declared.text.Line.{Line}

abbrev pub empty_line : Line
empty_line = record { numbers = replicate 128 0; count = 0; open_number = None }

-- the number so far times ten, plus the digit
abbrev pub digit_read : Line → ℕ → Line
digit_read l byte = record l { open_number = Some (((unwrap_or l.open_number 0 * 10) % 2 ^ 64 + byte % 16) % 2 ^ 64) }

-- the number so far is put away where there is one and room for it
abbrev pub put_away : Line → Option ℕ → Line
put_away l None = record l { open_number = None }
put_away l (Some value) =
    cond (nat_lt l.count 128) (record { numbers = slice_set l.numbers l.count value; count = l.count + 1; open_number = None })
    (record l { open_number = None })

abbrev pub number_closed : Line → Line
number_closed l = put_away l l.open_number

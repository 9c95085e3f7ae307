use Rattle.std.proofs.Common.{take}
use Rattle.std.specs.Fmt.{HasWritten, IsPlainFormatter}
use Rattle.answers.specs.Line.{spaced}
use Rattle.answers.proofs.SpacedDisplay.fmt.Given as goal

-- the numbers that are passed are written
abbrev pub invariant-loop-number : goal.invariant-loop-number
invariant-loop-number g l =
    IsPlainFormatter l.initial.f → HasWritten g.W.Write.write_str_gives l.initial.f (spaced (take l.number-index l.number-items)) l.f

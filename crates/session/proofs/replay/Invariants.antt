use Rattle.std.proofs.Common.{◌≡◌, ◌+◌, ◌++◌}
use Rattle.std.specs.Iterator.Adapters.{enumerate_count, enumerate_source}
use Rattle.session.specs.Lines.{lines}
use Rattle.session.specs.Output.{output, output_from}
use Rattle.session.proofs.replay.Given as goal

-- What is printed, and what is still to be printed, are the whole.
abbrev pub invariant-loop-i : goal.invariant-loop-i
invariant-loop-i l =
    let left = lines (enumerate_source l.i-iterator).0.now in
    l.transcript.text ++ output_from (enumerate_count l.i-iterator + 1) l.transcript.session l.transcript.tally left ≡ output l.log

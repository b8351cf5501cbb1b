use Rattle.std.proofs.Common.{rules}
use Rattle.journal.specs.Traces.{IsFirstBad}
use Rattle.pei_cli.proofs.reading.read_trace_file.Goals as goal

pub returns-in-Err-Bad-clause-reads : goal.returns-in-Err-Bad-clause-reads
returns-in-Err-Bad-clause-reads g c =
    let bad : IsFirstBad c.as_slice.result.now c.in-Err-Bad.line = search rules
    in (c.as_slice.result.now, search rules, bad, λ journal trace. c.traces_have_no_bad_line.ensures.never_both c.as_slice.result.now journal c.in-Err-Bad.line trace bad)

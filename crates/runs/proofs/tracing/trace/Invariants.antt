use Rattle.runs.specs.Tables.{rows_of}
use Rattle.runs.proofs.Turning.{bits_of}
use Rattle.runs.proofs.tracing.trace.Given as goal

abbrev pub ghost-run : goal.ghost-run
ghost-run a = bits_of (rows_of a.rows.now)

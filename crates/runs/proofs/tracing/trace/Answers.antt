use Rattle.std.proofs.Common.{sym, subst}
use Rattle.boards.specs.Sheets.{sheet}
use Rattle.runs.specs.Inputs.{HoldsRows}
use Rattle.runs.specs.Rows.{Rows}
use Rattle.runs.specs.Tables.{rows_of}
use Rattle.runs.proofs.Turning.{bits_given, traced}
use Rattle.runs.proofs.tracing.trace.Goals as goal

pub run-requires : goal.run-requires
run-requires c =
    let s = sheet c.args.board.now in
    let values = rows_of c.in_ok-rows.rows in
    let read = c.in_ok-rows.ensures.1 in
    subst (HoldsRows s.gates values) (sym (bits_given s.gates values read.0 read.2)) read.2

pub returns : goal.returns
returns c =
    let s = sheet c.args.board.now in
    let read = c.in_ok-rows.ensures.1 in
    let bits = bits_given s.gates (rows_of c.in_ok-rows.rows) read.0 read.2 in
    traced s c.args.bytes.now _ c.run.result (subst (Rows s.gates s.depth c.args.bytes.now) (sym bits) read.1) c.run.ensures

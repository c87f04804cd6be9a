use Rattle.std.proofs.Common.{◌*◌, ◌≤◌}
use Rattle.sources.specs.Rows.{CountsBefore, RowUpTo}
use Rattle.sources.proofs.rows.row.Given as goal

abbrev pub invariant-wires : goal.invariant-wires
invariant-wires l =
    record {
      row : RowUpTo l.row l.gates l.w;
      counts : CountsBefore l.gates l.w l.before;
      plain : l.before.plain ≤ 13 * l.w;
      registers : l.before.registers ≤ l.w;
    }

use Rattle.std.proofs.Common.{ap, ◌∙◌, arith}
use Rattle.std.specs.Int.{from_bool}
use Rattle.sources.proofs.Ranks.{row_set, counts_more, from_bool_small}
use Rattle.sources.proofs.rows.row.Goals as goal

pub wires-preserved : goal.wires-preserved
wires-preserved c =
    let more = counts_more c.args.gates.now c.wires.w c.wires.before _ _ c.wires.invariant.counts c.wires-test.true c.plain_size.ensures.is (c.from.ensures ∙ ap from_bool c.is_register.ensures) in
    let one = from_bool_small c.is_register.result in
    record {
      row = row_set _ _ _ _ c.wires.invariant.row (omega arith) more;
      counts = more;
      plain = omega arith;
      registers = omega arith;
    }

use Rattle.std.proofs.Common.{arith}
use Rattle.std.proofs.lemmas.Bool.Decides.{nat_tests}
use Rattle.buffers.proofs.Writing.{put_is}
use Rattle.buffers.proofs.write_bytes.Goals as goal

pub returns : goal.returns
returns c =
    record {
      answer = grind (arith, nat_tests);
      after = put_is c.args.at c.args.buffer.now c.copy_from_slice.new.self c.args.bytes.now c.copy_from_slice.ensures.after;
    }

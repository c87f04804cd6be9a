use Rattle.std.proofs.Common.{arith}
use Rattle.gatefiles.proofs.GateFiles.{file_short}
use Rattle.gatefiles.proofs.write.file_length.Goals as goal

pub returns : goal.returns
returns c = let short = file_short c.args.board.now in omega (arith, c.put_file.ensures)

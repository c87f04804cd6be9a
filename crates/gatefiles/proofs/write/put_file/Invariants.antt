use Rattle.gates.specs.Records.{record_of}
use Rattle.buffers.proofs.Pieces.{pieces}
use Rattle.gatefiles.proofs.write.put_file.Given as goal

abbrev pub invariant-loop-gate : goal.invariant-loop-gate
invariant-loop-gate g l = g.S.Sink.takes l.initial.out (pieces record_of l.gate-items l.gate-index) l.out

use Rattle.std.proofs.Common.{ap}
use Rattle.histories.specs.Law.{taken}
use Rattle.histories.proofs.Calls.{go_on}
use Rattle.histories.proofs.Judged.{refused_same}
use Rattle.histories.proofs.calls_go_on.Goals as goal

pub returns : goal.returns
returns c = record { refused = λ room s call e h. refused_same room s call (ap taken h); later = λ room s calls more. go_on room calls more s }

use Rattle.refutations.proofs.Soundness.{sound}
use Rattle.refutations.proofs.sound.Goals as goal

pub returns : goal.returns
returns c = sound

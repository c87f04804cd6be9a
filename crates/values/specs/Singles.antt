-- The single kind keeps the laws of a kind.
use Rattle.std.proofs.Common.{rules}
use Rattle.values.specs.Kinds.{Lawful}
use Rattle.values.specs.Single.{single}

pub single_lawful : Lawful single
single_lawful = search rules

-- The clauses of an equation say that it holds.
use Rattle.std.proofs.Common.{rules}
use Rattle.induction.specs.Claims.{Encodes}

pub encodes : Encodes
encodes = search rules

-- Least solutions that are defined.
use Rattle.std.proofs.Common.{◌≡◌, ◌≢◌, rules}
use Rattle.values.specs.Single.{Below}
use Rattle.values.specs.declared.single.Value.{Value}
use Rattle.values.specs.declared.single.Value.TheVariants.{Undefined}
use Rattle.induction.specs.Claims.{LeastDefined, DefinedLeast}

below_same : (x y : Value) → x ≢ Undefined → Below x y → y ≡ x
below_same = search rules

pub least_defined : LeastDefined
least_defined gs given f h d g s w l = below_same (f w) (g w) (d w l) (h.lowest g s w l)

pub defined_least : DefinedLeast
defined_least gs given f h d = d f h.solves

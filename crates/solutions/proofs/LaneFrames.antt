-- The lanes of a lane frame are single frames.
use Rattle.std.proofs.Common.{ℕ, ◌<◌}
use Rattle.values.specs.Single.{single}
use Rattle.values.specs.Lanes.{lane, lanes}
use Rattle.values.specs.Singles.{single_lawful}
use Rattle.values.specs.LaneLaws.{lanes_lawful, lanewise}
use Rattle.solutions.specs.Claims.{Keeps, LanesApart}
use Rattle.solutions.proofs.Leasts.{image_row}

lane_keeps : (k : ℕ) → k < 64 → Keeps lanes single (lane k)
lane_keeps k h = record {
  undefined = lanewise.undefined k h;
  zero = lanewise.zero k h;
  one = lanewise.one k h;
  not = λ a. lanewise.not a k h;
  and = λ a b. lanewise.and a b k h;
  or = λ a b. lanewise.or a b k h;
  implies = λ a b. lanewise.implies a b k h;
  xor = λ a b. lanewise.xor a b k h;
}

pub lanes_apart : LanesApart
lanes_apart k h = image_row lanes single (lane k) (lane_keeps k h) lanes_lawful single_lawful

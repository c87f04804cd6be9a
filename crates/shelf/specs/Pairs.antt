-- The clauses that a hint can name go by the count and the two maps alone.
use Rattle.std.specs.Prelude.{◌≡◌, ℕ, Option}
use Rattle.std.proofs.Common.{ap, ◌∙◌}
use Rattle.clauses.specs.Clauses.{Clause}
use Rattle.shelf.specs.Premises.{premises}

pub premises_same : {c d : ℕ} {f g s t : ℕ → Option Clause} → c ≡ d → f ≡ g → s ≡ t → premises c f s ≡ premises d g t
premises_same {d = d} {f = f} {g = g} {s = s} p q r = ap (λ x. premises x f s) p ∙ (ap (λ x. premises d x s) q ∙ ap (premises d g) r)

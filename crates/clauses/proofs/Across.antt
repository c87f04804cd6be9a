-- What holds of every part of a list of parts.
use Rattle.std.proofs.Common.{ℕ, zero, suc, ◌<◌, List, arith}
use Rattle.std.specs.List.{AllByRecursion as AllOf}
use Rattle.std.proofs.ByRecursion.{All-append}
use Rattle.clauses.specs.Clauses.{across}

pub all_across : {X : Type 0} (P : X → Type 0) (n : ℕ) (f : ℕ → List X) → ((i : ℕ) → i < n → AllOf P (f i)) → AllOf P (across n f)
all_across P zero f h = tt
all_across P (suc n) f h = All-append P (across n f) (f n) (all_across P n f (λ i l. h i (omega arith))) (h n (omega arith))

-- What a value kind is, and the laws that it keeps.
use Rattle.std.specs.Prelude.{◌≡◌, ℕ, ◌<◌, ◌≤◌, Bool, ◌≢◌, Decides}

pub record Kind (A : Type 0) : Type 1 where
  pub undefined : A
  pub zero : A
  pub one : A
  pub not : A → A
  pub and : A → A → A
  pub or : A → A → A
  pub implies : A → A → A
  pub xor : A → A → A
  -- the first is below the second, or equal to it
  pub below : A → A → Type 0
  pub rank : A → ℕ
  pub height : ℕ
  -- the test of two values for equality
  pub same : A → A → Bool

abbrev pub Rises : {A : Type 0} → (A → A → Type 0) → (A → A) → Type 0
Rises {A} below op = (a b : A) → below a b → below (op a) (op b)

-- monotone in each side
abbrev pub Rises₂ : {A : Type 0} → (A → A → Type 0) → (A → A → A) → Type 0
Rises₂ {A} below op = (a b c e : A) → below a b → below c e → below (op a c) (op b e)

pub record Lawful {A : Type 0} (K : Kind A) : Type 0 where
  -- the order is partial
  pub reflexive : (a : A) → K.below a a
  pub transitive : (a b c : A) → K.below a b → K.below b c → K.below a c
  pub antisymmetric : (a b : A) → K.below a b → K.below b a → a ≡ b
  -- undefined is below every value
  pub least : (a : A) → K.below K.undefined a
  -- each gate is monotone in each side
  pub not_rises : Rises K.below K.not
  pub and_rises : Rises₂ K.below K.and
  pub or_rises : Rises₂ K.below K.or
  pub implies_rises : Rises₂ K.below K.implies
  pub xor_rises : Rises₂ K.below K.xor
  -- of two values the one strictly above has the larger rank, and no rank passes the height
  pub rank_rises : (a b : A) → K.below a b → a ≢ b → K.rank a < K.rank b
  pub rank_bound : (a : A) → K.rank a ≤ K.height
  pub height_bound : K.height ≤ 128
  pub compared : (a b : A) → Decides (K.same a b) (a ≡ b)

-- What a gate wants of a frame: it depends on the named wires alone, it rises with them, and a map that keeps the gates keeps it.
use Rattle.std.proofs.Common.{◌≡◌, ℕ, ◌<◌, refl, ap, ◌∙◌, ap₂}
use Rattle.std.specs.List.{AllByRecursion as AllOf}
use Rattle.std.proofs.ByRecursion.{All-weaker}
use Rattle.values.specs.Kinds.{Kind, Lawful}
use Rattle.gates.specs.declared.gate.Gate.{Gate}
use Rattle.gates.specs.declared.gate.Gate.TheVariants.{Input, Zero, One, Copy, Not, And, Or, Implies, Xor, Register}
use Rattle.gates.specs.Gates.{wires}
use Rattle.gates.proofs.Names.{NamesBelow}
use Rattle.solutions.specs.Solutions.{wanted, supplied}
use Rattle.solutions.specs.Claims.{Keeps}

-- A relation between the values of two kinds that the constants and the gates keep.
pub record Related {A B : Type 0} (K : Kind A) (J : Kind B) (R : A → B → Type 0) : Type 0 where
  pub zero : R K.zero J.zero
  pub one : R K.one J.one
  pub not : (a : A) (b : B) → R a b → R (K.not a) (J.not b)
  pub and : (a : A) (b : B) (c : A) (e : B) → R a b → R c e → R (K.and a c) (J.and b e)
  pub or : (a : A) (b : B) (c : A) (e : B) → R a b → R c e → R (K.or a c) (J.or b e)
  pub implies : (a : A) (b : B) (c : A) (e : B) → R a b → R c e → R (K.implies a c) (J.implies b e)
  pub xor : (a : A) (b : B) (c : A) (e : B) → R a b → R c e → R (K.xor a c) (J.xor b e)

module _ {A B : Type 0} (K : Kind A) (J : Kind B) (R : A → B → Type 0) (f : ℕ → A) (g : ℕ → B) where
  -- frames that are related at the wires of a gate: the values that it wants are related
  pub wanted_related : Related K J R → (k : Gate) → AllOf (λ a. R (f a) (g a)) (wires k) → (x : A) (y : B) → R x y → R (wanted K k x f) (wanted J k y g)
  wanted_related r Input u x y s = s
  wanted_related r Zero u x y s = r.zero
  wanted_related r One u x y s = r.one
  wanted_related r (Copy a) u x y s = u.0
  wanted_related r (Not a) u x y s = r.not (f a) (g a) u.0
  wanted_related r (And a b) u x y s = r.and (f a) (g a) (f b) (g b) u.0 u.1.0
  wanted_related r (Or a b) u x y s = r.or (f a) (g a) (f b) (g b) u.0 u.1.0
  wanted_related r (Implies a b) u x y s = r.implies (f a) (g a) (f b) (g b) u.0 u.1.0
  wanted_related r (Xor a b) u x y s = r.xor (f a) (g a) (f b) (g b) u.0 u.1.0
  wanted_related r (Register a) u x y s = s

  -- and so are the values that it is given
  pub supplied_related : R K.undefined J.undefined → (k : Gate) → AllOf (λ a. R (f a) (g a)) (wires k) → (x : A) (y : B) → R x y → R (supplied K k x f) (supplied J k y g)
  supplied_related r Input u x y s = s
  supplied_related r Zero u x y s = r
  supplied_related r One u x y s = r
  supplied_related r (Copy a) u x y s = r
  supplied_related r (Not a) u x y s = r
  supplied_related r (And a b) u x y s = r
  supplied_related r (Or a b) u x y s = r
  supplied_related r (Implies a b) u x y s = r
  supplied_related r (Xor a b) u x y s = r
  supplied_related r (Register a) u x y s = u.0

  -- frames that are related below n are related at the wires of a gate that names wires below n
  pub related_below : (n : ℕ) → ((w : ℕ) → w < n → R (f w) (g w)) → (k : Gate) → NamesBelow n k → AllOf (λ a. R (f a) (g a)) (wires k)
  related_below n h k u = All-weaker (λ y. y < n) (λ a. R (f a) (g a)) h (wires k) u

pub order_related : {A : Type 0} (K : Kind A) → Lawful K → Related K K K.below
order_related K L = record {
  zero = L.reflexive K.zero;
  one = L.reflexive K.one;
  not = L.not_rises;
  and = L.and_rises;
  or = L.or_rises;
  implies = L.implies_rises;
  xor = L.xor_rises;
}

pub map_related : {A B : Type 0} (K : Kind A) (J : Kind B) (h : A → B) → Keeps K J h → Related K J (λ a b. h a ≡ b)
map_related K J h keeps = record {
  zero = keeps.zero;
  one = keeps.one;
  not = λ a b p. keeps.not a ∙ ap J.not p;
  and = λ a b c e p q. keeps.and a c ∙ ap₂ J.and p q;
  or = λ a b c e p q. keeps.or a c ∙ ap₂ J.or p q;
  implies = λ a b c e p q. keeps.implies a c ∙ ap₂ J.implies p q;
  xor = λ a b c e p q. keeps.xor a c ∙ ap₂ J.xor p q;
}

pub itself_keeps : {A : Type 0} (K : Kind A) → Keeps K K (λ a. a)
itself_keeps K = record {
  undefined = refl;
  zero = refl;
  one = refl;
  not = λ a. refl;
  and = λ a b. refl;
  or = λ a b. refl;
  implies = λ a b. refl;
  xor = λ a b. refl;
}

module _ {A : Type 0} (K : Kind A) (n : ℕ) (f g : ℕ → A) where
  pub wanted_rises : Lawful K → ((w : ℕ) → w < n → K.below (f w) (g w)) → (k : Gate) → NamesBelow n k → (x : A) → K.below (wanted K k x f) (wanted K k x g)
  wanted_rises L h k u x = wanted_related K K K.below f g (order_related K L) k (related_below K K K.below f g n h k u) x x (L.reflexive x)

  pub wanted_same : ((w : ℕ) → w < n → f w ≡ g w) → (k : Gate) → NamesBelow n k → (x : A) → wanted K k x f ≡ wanted K k x g
  wanted_same h k u x =
      wanted_related K K (λ a b. a ≡ b) f g (map_related K K (λ a. a) (itself_keeps K)) k (related_below K K (λ a b. a ≡ b) f g n h k u) x x refl

  pub supplied_same : ((w : ℕ) → w < n → f w ≡ g w) → (k : Gate) → NamesBelow n k → (x : A) → supplied K k x f ≡ supplied K k x g
  supplied_same h k u x = supplied_related K K (λ a b. a ≡ b) f g refl k (related_below K K (λ a b. a ≡ b) f g n h k u) x x refl

-- Least solutions: there is one only, it depends on the wires of the board alone, and a map that keeps the gates keeps it.
use Rattle.std.proofs.Common.{◌≡◌, ℕ, zero, suc, ◌<◌, List, [], ◌∷◌, map, length, Some, None, Option, sym, refl, ap, ◌∙◌, subst, arith}
use Rattle.std.proofs.ByRecursion.{All-from_get_or}
use Rattle.std.proofs.lemmas.List.{length-map, ext_get_or}
use Rattle.values.specs.Kinds.{Kind, Lawful}
use Rattle.gates.specs.declared.gate.Gate.{Gate}
use Rattle.gates.specs.Gates.{wires, is_input, rank}
use Rattle.std.specs.Option.{option_map}
use Rattle.solutions.specs.Solutions.{gate_at, reads, wanted, Solves, Least, given, frame_before}
use Rattle.solutions.specs.Rounds.{rounds, frame_row}
use Rattle.solutions.specs.Claims.{Named, Keeps, LeastUnique}
use Rattle.gates.proofs.Names.{wires_below}
use Rattle.solutions.proofs.Wanted.{map_related, wanted_same, supplied_same, supplied_related}
use Rattle.solutions.proofs.OneRound.{length_rounds, rounds_related}
use Rattle.solutions.proofs.Rounds.{rounds_end, still_least}

pub least_unique : {A : Type 0} (K : Kind A) → Lawful K → LeastUnique K
least_unique K L gs given f g h k w l = L.antisymmetric (f w) (g w) (h.lowest g k.solves w l) (k.lowest f h.solves w l)

module _ {A : Type 0} (K : Kind A) (gs : List Gate) where
  -- what is given is the same on the wires of the board
  pub solves_given : (a b : ℕ → A) → ((w : ℕ) → w < length gs → a w ≡ b w) → (f : ℕ → A) → Solves K gs a f → Solves K gs b f
  solves_given a b same f h w l = h w l ∙ ap (λ x. wanted K (gate_at gs w) x f) (same w l)

  pub least_given : (a b : ℕ → A) → ((w : ℕ) → w < length gs → a w ≡ b w) → (f : ℕ → A) → Least K gs a f → Least K gs b f
  least_given a b same f h = record {
    solves = solves_given a b same f h.solves;
    lowest = λ g s. h.lowest g (solves_given b a (λ w l. sym (same w l)) g s);
  }

  module _ (named : Named gs) where
    -- two frames that are the same on the wires of the board
    pub least_same : (a f g : ℕ → A) → ((w : ℕ) → w < length gs → f w ≡ g w) → Least K gs a f → Least K gs a g
    least_same a f g same h = record {
      solves = λ w l. sym (same w l) ∙ (h.solves w l ∙ wanted_same K (length gs) f g same (gate_at gs w) (wires_below gs named w l) (a w));
      lowest = λ e s w l. subst (λ x. K.below x (e w)) (same w l) (h.lowest e s w l);
    }

    pub given_same : (inputs : List A) (f g : ℕ → A) → ((w : ℕ) → w < length gs → f w ≡ g w) → (w : ℕ) → w < length gs → given K gs inputs f w ≡ given K gs inputs g w
    given_same inputs f g same w l = supplied_same K (length gs) f g same (gate_at gs w) (wires_below gs named w l) (reads K inputs (rank is_input gs w))

module _ {A B : Type 0} (K : Kind A) (J : Kind B) (h : A → B) (keeps : Keeps K J h) where
  pub reads_image : (xs : List A) (w : ℕ) → h (reads K xs w) ≡ reads J (map h xs) w
  reads_image [] w = keeps.undefined
  reads_image (x ∷ xs) zero = refl
  reads_image (x ∷ xs) (suc w) = reads_image xs w

  pub given_image : (gs : List Gate) (inputs : List A) (before : ℕ → A) (w : ℕ) → h (given K gs inputs before w) ≡ given J gs (map h inputs) (λ y. h (before y)) w
  given_image gs inputs before w =
      let r = rank is_input gs w in
      supplied_related K J (λ a b. h a ≡ b) before (λ y. h (before y)) keeps.undefined (gate_at gs w)
      (All-from_get_or (λ y. h (before y) ≡ h (before y)) (wires (gate_at gs w)) 0 (λ i l. refl)) (reads K inputs r) (reads J (map h inputs) r) (reads_image inputs r)

  module _ (gs : List Gate) (named : Named gs) (given : ℕ → A) where
    pub rounds_image : (k w : ℕ) → w < length gs → h (reads K (rounds K gs given k) w) ≡ reads J (rounds J gs (λ w. h (given w)) k) w
    rounds_image k w l = rounds_related K J (λ a b. h a ≡ b) (map_related K J h keeps) keeps.undefined gs named given (λ w. h (given w)) (λ w l. refl) k w l

    pub rounds_map : (k : ℕ) → map h (rounds K gs given k) ≡ rounds J gs (λ w. h (given w)) k
    rounds_map k =
        let size : length (map h (rounds K gs given k)) ≡ length gs = length-map (rounds K gs given k) h ∙ length_rounds K gs given k in
        ext_get_or J.undefined (map h (rounds K gs given k)) (rounds J gs (λ w. h (given w)) k) (size ∙ sym (length_rounds J gs (λ w. h (given w)) k))
        (λ i l. sym (reads_image (rounds K gs given k) i) ∙ rounds_image k i (omega arith))

    pub image_least : Lawful K → Lawful J → (f : ℕ → A) → Least K gs given f → Least J gs (λ w. h (given w)) (λ w. h (f w))
    image_least L M f least =
        let end = rounds_end K L gs named given in
        let k = end.changing in
        let row = still_least K L gs named given k end.still in
        least_same J gs named (λ w. h (given w)) (reads J (rounds J gs (λ w. h (given w)) k)) (λ w. h (f w))
        (λ w l. sym (rounds_image k w l) ∙ ap h (least_unique K L gs given (reads K (rounds K gs given k)) f row least w l))
        (still_least J M gs named (λ w. h (given w)) k (sym (rounds_map (suc k)) ∙ (ap (map h) end.still ∙ rounds_map k)))

  -- the image of a frame is a frame over the images of its inputs and of the frame before
  pub image_frame : Lawful K → Lawful J → (gs : List Gate) → Named gs → (inputs : List A) (before f : ℕ → A) → Least K gs (given K gs inputs before) f →
      Least J gs (given J gs (map h inputs) (λ y. h (before y))) (λ w. h (f w))
  image_frame L M gs named inputs before f least =
      least_given J gs (λ w. h (given K gs inputs before w)) (given J gs (map h inputs) (λ y. h (before y))) (λ w l. given_image gs inputs before w) (λ w. h (f w))
      (image_least gs named (given K gs inputs before) L M f least)

  before_image : (before : Option (List A)) (y : ℕ) → h (frame_before K before y) ≡ frame_before J (option_map (map h) before) y
  before_image None y = keeps.zero
  before_image (Some xs) y = reads_image xs y

  -- the same of the rows that the rounds leave
  pub image_row : Lawful K → Lawful J → (gs : List Gate) → Named gs → (inputs : List A) (before : Option (List A)) →
      map h (frame_row K gs (given K gs inputs (frame_before K before))) ≡ frame_row J gs (given J gs (map h inputs) (frame_before J (option_map (map h) before)))
  image_row L M gs named inputs before =
      let G = given K gs inputs (frame_before K before) in
      let F = given J gs (map h inputs) (frame_before J (option_map (map h) before)) in
      let from = rounds_end K L gs named G in
      let to = rounds_end J M gs named F in
      let size : length (map h (frame_row K gs G)) ≡ length gs = length-map (frame_row K gs G) h ∙ from.size in
      let image = least_given J gs (given J gs (map h inputs) (λ y. h (frame_before K before y))) F
      (λ w l. given_same J gs named (map h inputs) (λ y. h (frame_before K before y)) (frame_before J (option_map (map h) before)) (λ y m. before_image before y) w l)
      (λ w. h (reads K (frame_row K gs G) w)) (image_frame L M gs named inputs (frame_before K before) (reads K (frame_row K gs G)) from.least) in
      ext_get_or J.undefined (map h (frame_row K gs G)) (frame_row J gs F) (size ∙ sym to.size)
      (λ i l. sym (reads_image (frame_row K gs G) i) ∙ least_unique J M gs F (λ w. h (reads K (frame_row K gs G) w)) (reads J (frame_row J gs F)) image to.least i (omega arith))

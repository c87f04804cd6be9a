-- Bytes as rows of inputs.
use Rattle.std.proofs.Common.{◌≡◌, ℕ, ◌+◌, ◌*◌, ◌<◌, ◌≤◌, Bool, false, List, [], ◌∷◌, ◌++◌, map, length, get_or, take, sym, refl, ap, ◌∙◌, subst, arith}
use Rattle.std.specs.List.{flat_map, AllByRecursion as AllOf}
use Rattle.std.proofs.lemmas.List.{take_more, take_all, map-append, get_or-map, length-map}
use Rattle.refusals.specs.declared.Failure.{Failure}
use Rattle.refusals.specs.declared.Failure.TheVariants.{Refused, Memory}
use Rattle.values.specs.declared.single.Value.{Value}
use Rattle.gates.specs.declared.gate.Gate.{Gate}
use Rattle.solutions.specs.Runs.{bit, input_count}
use Rattle.runs.specs.Rows.{byte, Rows}
use Rattle.runs.specs.Inputs.{IsRead, IsUnread, NotRead, Bits, ValuesOf, RowsRead, Counts}
use Rattle.runs.specs.Tables.{cut}
use Rattle.runs.proofs.Cutting.{length_cut, cut_rows, cut_map, joined_cut, length_joined, map_joined}

pub values_turn : (bytes : List ℕ) (i : ℕ) (values after : List Value) (v : Value) → i < length bytes → ValuesOf (take i bytes) values → IsRead (get_or bytes i 0) v
    → after ≡ values ++ v ∷ [] → ValuesOf (take (i + 1) bytes) after
unfolding IsRead
values_turn bytes i values after v l h r e =
    let bits = h.0 in
    let b = r.0 in (
      bits ++ b ∷ [],
      map-append byte bits (b ∷ []) ∙ ap (λ xs. xs ++ byte b ∷ []) h.1 ∙ ap (λ x. take i bytes ++ x ∷ []) r.1 ∙ sym (take_more bytes i 0 l),
      e ∙ ap (λ xs. xs ++ v ∷ []) h.2 ∙ ap (λ x. map bit bits ++ x ∷ []) r.2 ∙ sym (map-append bit bits (b ∷ [])),
    )

pub values_end : (bytes : List ℕ) (i : ℕ) (values : List Value) → length bytes ≤ i → ValuesOf (take i bytes) values → ValuesOf bytes values
values_end bytes i values l h = (h.0, h.1 ∙ take_all i bytes l, h.2)

pub length_values : (bytes : List ℕ) (values : List Value) → ValuesOf bytes values → length values ≡ length bytes
length_values bytes values h = ap length h.2 ∙ length-map h.0 bit ∙ sym (length-map h.0 byte) ∙ ap length h.1

-- what one reading was refused for is a reason to refuse another
pub not_read_since : (P Q : Type 0) (e : Failure) → (P → Q) → NotRead P e → NotRead Q e
not_read_since P Q (Refused e) f h = (h.0, f h.1)
not_read_since P Q Memory f h = tt

-- where one byte is no bit, the bytes are no bits
no_bits : (bytes : List ℕ) (i : ℕ) → i < length bytes → ((b : Bool) → byte b ≡ get_or bytes i 0 → ⊥) → (bits : List Bool) → Bits bytes bits → ⊥
no_bits bytes i l never bits e =
    let within : i < length bits = omega (arith, length-map bits byte, ap length e) in
    never (get_or bits i false) (sym (get_or-map byte bits i false 0 within) ∙ ap (λ xs. get_or xs i 0) e)

pub no_values : (bytes : List ℕ) (i : ℕ) (e : Failure) → i < length bytes → IsUnread (get_or bytes i 0) e → NotRead ((bits : List Bool) → Bits bytes bits → ⊥) e
unfolding IsUnread
no_values bytes i e l h = subst (NotRead ((bits : List Bool) → Bits bytes bits → ⊥)) (sym h.0) (refl, no_bits bytes i l h.1)

module _ (gs : List Gate) (d : ℕ) (bytes : List ℕ) where
  pub rows_read : (width count : ℕ) (values : List Value) → width ≡ input_count gs → Counts width d (length bytes) count → ValuesOf bytes values
      → RowsRead gs d bytes (cut width count values)
  rows_read width count values e counts h =
      let bits = h.0 in
      let rows = cut width count bits in
      let size : length bits ≡ count * width = omega (arith, length-map bits byte, ap length h.1, counts.0) in
      let run = subst (λ w. AllOf (λ row. length row ≡ w) rows) e (cut_rows width count bits size) in (
        rows,
        (run, joined_cut width byte count bits size ∙ h.1, λ none. length_cut width count bits ∙ counts.1 (e ∙ none)),
        (run, ap (cut width count) h.2 ∙ cut_map width bit count bits),
      )

  pub no_rows_count : (width : ℕ) → width ≡ input_count gs → ((c : ℕ) → length bytes ≡ c * width → ⊥) → (rows : List (List Bool)) → Rows gs d bytes rows → ⊥
  no_rows_count width e never rows h =
      never (length rows) (sym (ap length h.1) ∙ length_joined (input_count gs) byte rows h.0 ∙ ap (λ w. length rows * w) (sym e))

  pub no_rows_bits : ((bits : List Bool) → Bits bytes bits → ⊥) → (rows : List (List Bool)) → Rows gs d bytes rows → ⊥
  no_rows_bits never rows h = never (flat_map (λ row. row) rows) (map_joined byte rows ∙ h.1)

-- What a question to a store answers, by the store that it leaves.
use Rattle.std.proofs.Common.{◌≡◌, ℕ, ◌+◌, ◌<◌, ◌≤◌, length, get_or, Some, vec_items, Option, sym, ap, ◌∙◌, ap₂}
use Rattle.std.specs.List.{slice_get, slice_range}
use Rattle.clauses.specs.Clauses.{length_of, clause_literal}
use Rattle.shelf.specs.Lines.{find}
use Rattle.store.specs.declared.entry.Entry.{Entry}
use Rattle.store.specs.declared.store.Store.{Store}
use Rattle.store.specs.Rows.{cut, spot}
use Rattle.store.specs.Stores.{lines_of, Untouched}
use Rattle.store.proofs.Seeking.{spot_within, spot_ends, spot_length, spot_literal}

pub same_lines : (s t : Store) → Untouched s t → lines_of t ≡ lines_of s
same_lines s t u = ap₂ (λ es row. cut (vec_items es) (vec_items row)) u.0 u.1

pub found : (s t : Store) (n i : ℕ) (o : Option ℕ) → Untouched s t → o ≡ spot n (lines_of s) → o ≡ Some i → spot n (lines_of t) ≡ Some i
found s t n i o u is was = ap (spot n) (same_lines s t u) ∙ sym is ∙ was

pub found_within : (s t : Store) (n i : ℕ) (o : Option ℕ) → Untouched s t → o ≡ spot n (lines_of s) → o ≡ Some i → i < length (vec_items t.entries)
found_within s t n i o u is was = spot_within (vec_items t.entries) (vec_items t.row) n i t.rising (found s t n i o u is was)

pub found_ends : (s t : Store) (n i : ℕ) (o : Option ℕ) (e : Entry) → Untouched s t → o ≡ spot n (lines_of s) → o ≡ Some i
    → e ≡ get_or (vec_items t.entries) i e → e.start + e.length ≤ length (vec_items t.row)
found_ends s t n i o e u is was at = spot_ends (vec_items t.entries) (vec_items t.row) n i e t.rising t.tight (found s t n i o u is was) at

pub found_length : (s t : Store) (n i : ℕ) (o : Option ℕ) (e : Entry) → Untouched s t → o ≡ spot n (lines_of s) → o ≡ Some i
    → e ≡ get_or (vec_items t.entries) i e → Some e.length ≡ length_of (find (lines_of s) n)
found_length s t n i o e u is was at =
    spot_length (vec_items t.entries) (vec_items t.row) n i e t.rising t.tight (found s t n i o u is was) at
    ∙ ap (λ xs. length_of (find xs n)) (same_lines s t u)

pub found_literal : (s t : Store) (n i k : ℕ) (o : Option ℕ) (e : Entry) → Untouched s t → o ≡ spot n (lines_of s) → o ≡ Some i
    → e ≡ get_or (vec_items t.entries) i e
    → slice_get (slice_range (vec_items t.row) e.start (e.start + e.length)) k ≡ clause_literal (find (lines_of s) n) k
found_literal s t n i k o e u is was at =
    spot_literal (vec_items t.entries) (vec_items t.row) n i k e t.rising t.tight (found s t n i o u is was) at
    ∙ ap (λ xs. clause_literal (find xs n) k) (same_lines s t u)

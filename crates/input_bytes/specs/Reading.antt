-- A word that was read; calls, one after the other, until one answers false.
use Rattle.std.specs.Prelude.{ℕ, ◌≡◌, Bool, true, false, Option, List, [], ◌∷◌, ◌++◌, length, replicate}
use Rattle.std.specs.Int.{w32, from_le_bytes}
use Rattle.std.specs.Io.KnownBytes.{Consumes}
use Rattle.std.specs.List.{FoldsTo}

-- the four bytes that were read next spell w, lowest byte first
abbrev pub SpeltByNext : Option (List ℕ) → Option (List ℕ) → ℕ → Type 0
SpeltByNext before after w = (bytes : List ℕ) × (length bytes ≡ 4) × Consumes before after bytes × (w ≡ from_le_bytes w32 bytes)

-- from the state f on, calls answer true, some or none of them, and then one answers false: step f b g says that a call at f may
-- answer b and leave g
abbrev pub RunsOut : {F : Type 0} → (F → Bool → F → Type 0) → F → Type 0
RunsOut {F} step f = (n : ℕ) × (last : F) × FoldsTo step f (replicate n true ++ false ∷ []) last

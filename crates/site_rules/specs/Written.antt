-- A site put together from the writers' blocks: the header, then each contaminant at its place.
use Rattle.std.specs.Prelude.{◌≡◌, true, List, [], ◌∷◌, ◌++◌, ℕ, ◌+◌, ◌<◌}
use Rattle.inputs.specs.declared.Contaminant.{Contaminant}
use Rattle.inputs.specs.Rules.{contaminant_fits}
use Rattle.block_rules.specs.declared.Header.{Header}
use Rattle.block_rules.specs.Layouts.{header_block, contaminant_block}

-- the first at place k
unfoldable pub blocks_from : ℕ → List Contaminant → List ℕ
blocks_from k [] = []
blocks_from k (r ∷ rs) = contaminant_block k r ++ blocks_from (k + 1) rs

unfoldable pub site_of : Header → List Contaminant → List ℕ
site_of h rs = header_block h ++ blocks_from 1 rs

-- records that the writer of kind 2 takes at places 1 to 120; an id is a word
pub data Writable : List Contaminant → Type 0 where
  nobody : Writable []
  also : {r : Contaminant} {rs : List Contaminant} → contaminant_fits r ≡ true → r.id < 4294967296 → Writable rs → Writable (r ∷ rs)

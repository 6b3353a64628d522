-- The rule (docs/SPECIFICATION.md, "What is sent back") for the count of a site. The other rules of a header or a contaminant are those of
-- crate `inputs`.
use Rattle.std.specs.Prelude.{ℕ, ◌+◌, Bool, ◌&&◌, eqb}
use Rattle.inputs.specs.Rules.{most_contaminants, one_to}

-- the bytes of a block
abbrev pub block_size : ℕ
block_size = 512

-- bytes 8 to 507 of a block, which are a struct of the C library: without kind and place before them and the last word behind
abbrev pub struct_size : ℕ
struct_size = 500

-- a count or a place: 1 to 120
unfoldable pub in_file : ℕ → Bool
in_file = one_to most_contaminants

-- 5 Count: the count is blocks less one; a site has 1 to 120 contaminants
unfoldable pub count_ok : ℕ → ℕ → Bool
count_ok count blocks = in_file count && eqb (count + 1) blocks

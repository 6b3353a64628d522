-- What a put leaves: the bytes behind the text so far, the place moved on by as many.
use Rattle.std.specs.Prelude.{ℕ, ◌+◌, ◌≤◌, List, length}
use Rattle.words.specs.Bytes.{placed}
use Rattle.text.specs.declared.Text.{Text}

-- t with the bytes w behind what it had
unfoldable pub put : Text → List ℕ → Text
put t w = record t { out = record t.out { now = placed t.out.now t.at w }; at = t.at + length w }

-- n bytes more fit behind what t has
abbrev pub HasRoom : Text → ℕ → Type 0
HasRoom t n = t.at + n ≤ length t.out.now

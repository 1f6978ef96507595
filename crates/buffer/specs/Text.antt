-- Short texts by value.
use Rattle.std.specs.Prelude.{List, ℕ, take}
use Rattle.buffer.specs.declared.Text.{Text}

-- the characters of a text; a length past the array's end counts as the end
unfoldable pub text_of : Text → List ℕ
text_of t = take t.len t.bytes

-- what a text can hold: the first 24 characters
unfoldable pub cut : List ℕ → List ℕ
cut s = take 24 s

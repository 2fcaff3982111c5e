-- The bytes of a text, so that definitions say texts as they are read.
use Rattle.std.specs.Prelude.{ℕ, List, [], ◌∷◌}
use Prim.Native.Char.{code}
use Prim.Native.String as S

-- a byte for each character; the texts are ASCII
abbrev pub text : S.String → List ℕ
text S.[] = []
text (S.◌∷◌ c s) = code c ∷ text s

-- Numbers of four bytes, low byte first.
-- Assumes nothing.
use Rattle.std.specs.Prelude.{ℕ, ◌+◌, ◌*◌, ◌/◌, ◌%◌, List, [], ◌∷◌, get_or}

-- the number that the four bytes of b from p on hold
abbrev pub word : List ℕ → ℕ → ℕ
word b p = get_or b p 0 + 256 * (get_or b (p + 1) 0 + 256 * (get_or b (p + 2) 0 + 256 * get_or b (p + 3) 0))

-- the four bytes that hold n
unfoldable pub word_bytes : ℕ → List ℕ
word_bytes n = n % 256 ∷ n / 256 % 256 ∷ n / 256 / 256 % 256 ∷ n / 256 / 256 / 256 % 256 ∷ []

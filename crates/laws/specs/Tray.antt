-- Bytes written onto the front of a tray, and behind the last; the rest of the tray stays.
use Rattle.std.specs.Prelude.{ℕ, List, [], ◌++◌, length, drop}
use Rattle.laws.specs.Fold.{upto}

-- the tray t with bs over its front
unfoldable pub onto : List ℕ → List ℕ → List ℕ
onto bs t = bs ++ drop (length bs) t

-- the bytes of f 0, f 1, .. below n, one behind the other
unfoldable pub all_for : (ℕ → List ℕ) → ℕ → List ℕ
all_for f n = upto (λ bs i. bs ++ f i) [] n

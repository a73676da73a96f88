-- An index of the post: the places where its first records begin. It stays right when bytes come behind what is used.
use Rattle.std.specs.Prelude.{ℕ, ◌+◌, ◌≤◌, ◌<◌, List, ◌≡◌, length, get_or}
use Rattle.house.specs.declared.Plan.{Plan}
use Rattle.post.specs.Posting.{start_of}

-- the first entries, up to the one of number `count`, are where records begin, and the records before that one lie within what is used
pub record Indexed (P : Plan) (s : List ℕ) (used : ℕ) (index : List ℕ) (count : ℕ) : Type 0 where
  pub some : count < length index
  pub starts : (k : ℕ) → k ≤ count → get_or index k 0 ≡ start_of P s used k
  pub within : (k : ℕ) → k < count → start_of P s used k + 2 ≤ used

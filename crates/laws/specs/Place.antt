-- Lists as history: what stands at a place, what stands somewhere, and what a list begins with.
use Rattle.std.specs.Prelude.{ℕ, List, ◌≡◌}
use Rattle.std.proofs.Math.Option.{some}
use Rattle.std.proofs.Math.ListN.{get_elem?}

-- m stands at place i of l
abbrev pub At : {A : Type 0} → List A → ℕ → A → Type 0
At l i m = get_elem? l i ≡ some m

-- m stands somewhere in l
pub record In {A : Type 0} (m : A) (l : List A) : Type 0 where
  pub place : ℕ
  pub there : At l place m

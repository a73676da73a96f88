-- Whatever is done with an order (`act`), reading the bytes of an input, in any chunks, does it with the orders of its lines.
use Prim.Native.Nat.{ℕ}
use mathlib.Core.Bool.{Bool, true, false}
use mathlib.Core.List.{List, [], ◌∷◌, ◌++◌, foldl, foldl-append, append_assoc, append-nil}
use mathlib.Core.Path.{◌≡◌, refl, sym, ◌∙◌, ap}
use lib.Dec.{eqb}
use borrow.Author.Tests.{eqb-true}
use Rattle.laws.proofs.laws.Choice.{pick_true, pick_false}
use Rattle.lines.specs.Parts.{line_feed, every}
use Rattle.lines.proofs.laws.Parts.{without}
use Rattle.lines.proofs.laws.PartLaws.{without_on}
use Rattle.lines.specs.declared.Typed.{Typed}
use Rattle.lines.specs.Orders.{order_of_line, orders_of}
use Rattle.lines.proofs.laws.OrderLaws.{orders_none, orders_lf, orders_last}
use Rattle.lines.proofs.laws.Held.{held, held_none, held_some, held_push, held_order}
use Rattle.lines.specs.Feed.{Reading, start, joined, line_end, byte_read, all_read, input_end}

module _ {S : Type 0} (act : S → Typed → S) where
  -- p of a line is read, and the lines before it led to s
  abbrev pub within : List ℕ → S → Reading S
  within p s = record { line = held p; state = s }

  pub byte_end : (p : List ℕ) (s : S) (b : ℕ) → eqb b line_feed ≡ true → byte_read act (within p s) b ≡ within [] (act s (order_of_line p))
  unfolding byte_read line_end
  byte_end p s b e = pick_true _ _ e ∙ rw (held_order p, held_none)

  pub byte_on : (p : List ℕ) (s : S) (b : ℕ) → eqb b line_feed ≡ false → byte_read act (within p s) b ≡ within (p ++ (b ∷ [])) s
  unfolding byte_read
  byte_on p s b e = pick_false _ _ e ∙ rw (held_push p b)

  pub end_none : (s : S) → input_end act (within [] s) ≡ s
  unfolding input_end
  end_none s = rw held_none (pick_true _ _ refl)

  pub end_some : (b : ℕ) (p : List ℕ) (s : S) → input_end act (within (b ∷ p) s) ≡ act s (order_of_line (b ∷ p))
  unfolding input_end line_end
  end_some b p s = pick_false _ _ (held_some b p) ∙ ap (act s) (held_order (b ∷ p))

  -- the rest of an input, l, of which p is read of a line
  from : (l p : List ℕ) (s : S) → without line_feed p ≡ true → input_end act (all_read act (within p s) l) ≡ foldl act s (orders_of (p ++ l))
  unfolding every
  from [] [] s h = end_none s ∙ sym (ap (foldl act s) orders_none)
  from [] (b ∷ p) s h = end_some b p s ∙ sym (rw append-nil (ap (foldl act s) (orders_last b p h)))
  from (b ∷ l) p s h = go (eqb b line_feed) refl (from l)
    where
      go : (t : Bool) → eqb b line_feed ≡ t
          → ((q : List ℕ) (u : S) → without line_feed q ≡ true → input_end act (all_read act (within q u) l) ≡ foldl act u (orders_of (q ++ l)))
          → input_end act (all_read act (within p s) (b ∷ l)) ≡ foldl act s (orders_of (p ++ (b ∷ l)))
      go true e ih =
          ap (λ (r : Reading S). input_end act (all_read act r l)) (byte_end p s b e)
          ∙ ih [] (act s (order_of_line p)) refl
          ∙ sym (rw (eqb-true b line_feed e) (ap (foldl act s) (orders_lf p l h)))
      go false e ih =
          ap (λ (r : Reading S). input_end act (all_read act r l)) (byte_on p s b e)
          ∙ ih (p ++ (b ∷ [])) s (without_on line_feed p b h e)
          ∙ ap (λ (i : List ℕ). foldl act s (orders_of i)) (append_assoc p (b ∷ []) l)

  -- reading the whole input acts on the orders of its lines, one after the other
  pub orders_read : (s : S) (input : List ℕ) → input_end act (all_read act (start s) input) ≡ foldl act s (orders_of input)
  unfolding every
  orders_read s input = rw (← held_none) (from input [] s refl)

  -- chunk by chunk or at once is the same
  pub any_chunks : (r : Reading S) (chunks : List (List ℕ)) → foldl (all_read act) r chunks ≡ all_read act r (joined chunks)
  unfolding joined
  any_chunks r [] = refl
  any_chunks r (c ∷ cs) = any_chunks (all_read act r c) cs ∙ sym (foldl-append (byte_read act) r c (joined cs))

  -- in whatever chunks the input comes, its orders are acted on
  pub orders_chunks : (s : S) (chunks : List (List ℕ)) → input_end act (foldl (all_read act) (start s) chunks) ≡ foldl act s (orders_of (joined chunks))
  orders_chunks s chunks = ap (input_end act) (any_chunks (start s) chunks) ∙ orders_read s (joined chunks)

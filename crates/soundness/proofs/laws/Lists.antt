-- Laws of what specs/Lists.antt defines.
use Rattle.std.specs.Prelude.{◌≡◌, ℕ, ◌+◌, ◌-◌, ◌<◌, Bool, true, false, ◌&&◌, ◌||◌, eqb, ltb, leb, ◌⊎◌, List, length, get_or, set, replicate}
use mathlib.Core.Bool.{or-true, or-false}
use mathlib.Core.Logic.{inl, inr}
use mathlib.Core.Path.{refl, sym, ◌∙◌}
use lib.ListN.{length-set, length-replicate, get_or-replicate}
use lib.Seq.{get_or-set_same, get_or-set_other}
use borrow.Author.Tests.{eqb-true, eqb-false}
use Rattle.laws.proofs.laws.Choice.{look}
use Rattle.laws.specs.Fold.{all_below, some_below}
use Rattle.laws.proofs.laws.Fold.{some_step}
use Rattle.house.specs.Limits.{most_jobs}
use Rattle.house.specs.declared.District.{District}
use Rattle.house.specs.declared.Plan.{Plan}
use Rattle.boxes.specs.Box.{home_in, listed_at, no_listed}
use Rattle.boxes.specs.Sound.{listed_sound, unlisted, list_sound}
use Rattle.boxes.specs.declared.BoxState.{BoxState}
use Rattle.boxes.specs.declared.Listed.{Listed}
use Rattle.soundness.specs.Lists.{entry_sound, no_entry, place_sound}

-- the job stands among the first n
unfoldable pub repeats : List Listed → ℕ → ℕ → Bool
repeats l j n = some_below (λ k. eqb (get_or l k no_listed).job j) n

-- place i of a list of n entries
unfoldable pub nth_sound : Plan → District → ℕ → List Listed → ℕ → Bool
nth_sound P d n l i =
    place_sound P d (ltb i n) (eqb i 0) (get_or l (i - 1) no_listed).stamp (repeats l (get_or l i no_listed).job i) (get_or l i no_listed)

unfoldable pub places_sound : Plan → District → ℕ → List Listed → ℕ → Bool
places_sound P d n l m = all_below (nth_sound P d n l) m

-- these are the box's own tests
pub list_is : (P : Plan) (x : BoxState) → leb x.core.count most_jobs && places_sound P (home_in P x) x.core.count x.core.list most_jobs ≡ list_sound P x
unfolding list_sound listed_sound unlisted listed_at places_sound nth_sound place_sound entry_sound no_entry repeats
list_is P x = refl

-- w flags by job number: those of the jobs among the first n are set
unfoldable pub Seen : ℕ → List Listed → List Bool → ℕ → Type 0
Seen w l seen n = (length seen ≡ w) × ((j : ℕ) → j < w → get_or seen j false ≡ repeats l j n)

module _ (w : ℕ) (l : List Listed) where
  pub seen_none : Seen w l (replicate w false) 0
  unfolding Seen repeats some_below
  seen_none = (length-replicate w false, λ j h. get_or-replicate w j false false h)

  pub seen_step : (seen : List Bool) (n : ℕ) → Seen w l seen n → Seen w l (set seen (get_or l n no_listed).job true) (n + 1)
  unfolding Seen repeats
  seen_step seen n s = (rw length-set s.0, λ j h. go j h (look (eqb i j)) ∙ some_step (λ k. eqb (get_or l k no_listed).job j) n)
    where
      i : ℕ
      i = (get_or l n no_listed).job

      go : (j : ℕ) → j < w → (eqb i j ≡ true) ⊎ (eqb i j ≡ false) → get_or (set seen i true) j false ≡ repeats l j n || eqb i j
      go j h (inl e) = rw (e, eqb-true i j e, or-true) (get_or-set_same seen j true false (rw s.0 h))
      go j h (inr e) = rw (e, or-false, get_or-set_other seen i j true false (λ q. eqb-false i j e (sym q))) (s.1 j h)

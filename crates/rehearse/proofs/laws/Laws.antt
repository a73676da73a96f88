-- What the proofs of the code use: one turn more, and a text that stands over the front of a tray.
use Prim.Native.Nat.{ℕ, ◌+◌, ◌≤◌}
use Rattle.std.specs.Prelude.{Ok, Err}
use mathlib.Core.Bool.{true}
use mathlib.Core.List.{List, [], ◌∷◌, ◌++◌, foldl, foldl-append, map, map-append}
use mathlib.Core.Path.{◌≡◌, refl, sym, ap, subst, ◌∙◌}
use native.Mathlib.Omega.{arith}
use lib.ListN.{length, take, drop, length-append}
use Rattle.laws.proofs.laws.Choice.{never}
use Rattle.laws.specs.Tray.{onto}
use Rattle.laws.proofs.laws.Tray.{onto_front}
use Rattle.lines.specs.Feed.{Reading, all_read}
use Rattle.session.specs.declared.Session.{Session}
use Rattle.session.specs.World.{World, act}
use Rattle.session.specs.Session.{within, session_of, chunk_of}
use Rattle.session.specs.Promises.{Leaves}
use Rattle.session.specs.declared.feed.Fed.{Fed}
use Rattle.rehearse.specs.Printed.{last_words, LastSaid}
use Rattle.session.proofs.laws.SessionLaws.{behind_text, all_says}
use Rattle.rehearse.specs.declared.Flow.TheVariants.{More, End}
use Rattle.rehearse.specs.Turns.{Turn, Next, given, goes_on, read_in, Went, begun, on, OneTurn, Turned}

-- ---- one turn more

abbrev pub none_yet : (s : Session) (lent : List ℕ) → Turned s lent s (Ok More) lent
none_yet s lent = record { turns = []; went = begun; session = refl; post = refl }

read_on : (s : Session) (lent : List ℕ) (ts : List Turn) (t : Turn)
    → behind_text (read_in s lent ts).state.text (chunk_of (session_of (read_in s lent ts)) (read_in s lent ts).state.post (given t))
    ≡ read_in s lent (ts ++ (t ∷ []))
read_on s lent ts t =
    sym (all_says (given t) (read_in s lent ts))
    ∙ sym (ap (foldl (all_read act) (within s lent)) (map-append given ts (t ∷ [])) ∙ foldl-append (all_read act) (within s lent) (map given ts) (given t ∷ []))

-- after turns that say More, one turn more
module _ {s cur r : Session} {lent post later : List ℕ} {next : Next} (T : Turned s lent cur (Ok More) post) (o : OneTurn cur post r next later) where
  fed : behind_text (read_in s lent T.turns).state.text (chunk_of cur post (given o.turn)) ≡ read_in s lent (T.turns ++ (o.turn ∷ []))
  fed = rw (T.session, T.post) (read_on s lent T.turns o.turn)

  pub turn_more : Turned s lent r next later
  turn_more =
      record {
        turns = T.turns ++ (o.turn ∷ []);
        went = subst (Went (T.turns ++ (o.turn ∷ []))) (sym o.decided) (on o.turn T.went);
        session = o.session ∙ ap session_of fed;
        post = o.post ∙ ap (λ (x : Reading World). x.state.post) fed;
      }

  pub turn_on : next ≡ Ok More → (U : Turned s lent r (Ok More) later) × (length U.turns ≡ length T.turns + 1)
  unfolding turn_more
  turn_on m = subst (λ (n : Next). (U : Turned s lent r n later) × (length U.turns ≡ length T.turns + 1)) m (turn_more, length-append T.turns (o.turn ∷ []))

-- to go on is to say More
pub says_more : (n : Next) → goes_on n ≡ true → n ≡ Ok More
says_more (Ok More) e = refl
says_more (Ok End) e = never {t = true} refl (sym e)
says_more (Err why) e = never {t = true} refl (sym e)

-- ---- text in a tray

-- the k bytes of a text over the front of a tray: they fit into it, and they are its front
pub text_fits : (x before after : List ℕ) (k : ℕ) → k ≡ length x → after ≡ onto x before → k ≤ length after
unfolding onto
text_fits x before after k e t =
    let l : length after ≡ length x + length (drop (length x) before) = ap length t ∙ length-append x (drop (length x) before) in
    omega arith

pub text_front : (x before after : List ℕ) (k : ℕ) → k ≡ length x → after ≡ onto x before → take k after ≡ x
text_front x before after k e t = rw t (onto_front x before k e)

-- what a feeding, and the last words, say that they wrote
pub fed_fits : {x : Reading World} {before : List ℕ} {r : Fed} {later after : List ℕ} → Leaves x before r later after → r.used ≤ length after
fed_fits {x} {before} {r} {later} {after} l = text_fits x.state.text before after r.used (ap (λ (f : Fed). f.used) l.fed) l.text

pub said_fits : {s : Session} {lent before : List ℕ} {r : ℕ} {later after : List ℕ} → LastSaid s lent before r later after → r ≤ length after
said_fits {s} {lent} {before} {r} {later} {after} l = text_fits (last_words s lent) before after r l.used l.text

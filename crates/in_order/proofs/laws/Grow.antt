-- What is in the post stays there: each notion over a post holds over every post that begins with it.
-- And a record of a grown post is an old or a new one.
use Prim.Native.Nat.{ℕ}
use mathlib.Core.List.{List, ◌++◌}
use mathlib.Core.Logic.{◌⊎◌, inl, inr}
use Rattle.laws.proofs.laws.Place.{Begins, in_cases, begins_at, begins_in}
use Rattle.house.specs.declared.Stamp.{Stamp}
use Rattle.house.specs.declared.Ballot.{Ballot}
use Rattle.house.specs.declared.BoxNo.{BoxNo}
use Rattle.house.specs.declared.District.{District}
use Rattle.house.specs.declared.Row.{Row}
use Rattle.house.specs.declared.Plan.{Plan}
use Rattle.records.specs.Rec.{Rec}
use Rattle.records.specs.declared.Ballotpaper.{Ballotpaper}
use Rattle.records.specs.declared.NewState.{NewState}
use Rattle.boxes.specs.declared.Vote.{Vote}
use Rattle.in_order.proofs.laws.Quorate.{Quorate, quorate_map}
use Rattle.in_order.proofs.laws.Notions.{Acc, Ack, Del, DelAt, Voted, News, NewsOf, Nsa, Joined, follows, heads, Lam, stated, asked, Timed, Stay, Acked}
use Rattle.in_order.proofs.laws.Notions.{Part, Cert, Final, Voter, Source, done, taken, start, Merge}
use Rattle.in_order.proofs.laws.Inv.{KeptVote, Asked, Handed, later, earlier, Before, Listing}

module _ {l l' : List Rec} (B : Begins l l') where
  pub acc_up : {m : ℕ} {b : Ballot} {s : Stamp} → Acc l m b s → Acc l' m b s
  acc_up h = record { from = h.from; to = h.to; there = begins_in B h.there }

  pub ack_up : {P : Plan} {p : BoxNo} {m : ℕ} {f : District → Ballot} → Ack P l p m f → Ack P l' p m f
  ack_up h = record { to = h.to; ballots = h.ballots; there = begins_in B h.there; entries = h.entries }

  pub del_up : {m : ℕ} {b : Ballot} {s t : Stamp} → Del l m b s t → Del l' m b s t
  del_up h = record { from = h.from; to = h.to; there = begins_in B h.there }

  pub del_at_up : {i m : ℕ} {b : Ballot} {s t : Stamp} → DelAt l i m b s t → DelAt l' i m b s t
  del_at_up {i} h = record { from = h.from; to = h.to; there = begins_at B i h.there }

  pub voted_up : {p : BoxNo} {z : Ballotpaper} → Voted l p z → Voted l' p z
  voted_up h = record { to = h.to; there = begins_in B h.there }

  pub news_up : {y : NewState} → News l y → News l' y
  news_up h = record { from = h.from; to = h.to; there = begins_in B h.there }

  pub news_of_up : {b : Ballot} → NewsOf l b → NewsOf l' b
  news_of_up h = record { state = h.state; ballot = h.ballot; news = news_up h.news }

  pub nsa_up : {p : BoxNo} {b : Ballot} → Nsa l p b → Nsa l' p b
  nsa_up h = record { to = h.to; there = begins_in B h.there }

  pub joined_up : {p : BoxNo} {b : Ballot} → Joined l p b → Joined l' p b
  joined_up (follows h) = follows (nsa_up h)
  joined_up (heads e h) = heads e (news_of_up h)

  pub joined_all : {P : Plan} {d : District} {b : Ballot} → Quorate P d (λ q. Joined l q b) → Quorate P d (λ q. Joined l' q b)
  joined_all q = quorate_map q (λ p h j. joined_up j)

  pub lam_up : {P : Plan} {b : Ballot} {m : ℕ} {s : Stamp} → Lam P l b m s → Lam P l' b m s
  lam_up (stated y h e low n q) = stated y (news_up h) e low n q
  lam_up (asked h) = asked (acc_up h)

  pub asked_up : {m : ℕ} {b : Ballot} → Asked l m b → Asked l' m b
  asked_up h = record { stamp = h.stamp; acc = acc_up h.acc }

  pub timed_up : {m : ℕ} {b : Ballot} {k : ℕ} → Timed l m b k → Timed l' m b k
  timed_up h = record { stamp = h.stamp; acc = acc_up h.acc; upto = h.upto }

  pub stay_up : {P : Plan} {m : ℕ} {f : District → Ballot} {g : District} {k : ℕ} {t : List Row} → Stay P l m f g k t → Stay P l' m f g k t
  stay_up h = record { phase = h.phase; local = acc_up h.local; times = λ d n. timed_up (h.times d n) }

  pub acked_up : {P : Plan} {m : ℕ} {f : District → Ballot} {g : District} {c : Ballot} {k : ℕ} {t : List Row} → Acked P l m f g c k t → Acked P l' m f g c k t
  acked_up h = record { below = h.below; stay = λ e. stay_up (h.stay e) }

  pub part_up : {P : Plan} {m : ℕ} {f : District → Ballot} {d : District} {t : Stamp} → Part P l m f d t → Part P l' m f d t
  part_up h = record { stamp = h.stamp; acc = acc_up h.acc; until = h.until; quorum = quorate_map h.quorum (λ p q a. ack_up a) }

  pub cert_up : {P : Plan} {m : ℕ} {f : District → Ballot} {t : Stamp} → Cert P l m f t → Cert P l' m f t
  cert_up h = record { each = λ d n. part_up (h.each d n); top = h.top; named = h.named; attained = acc_up h.attained }

  pub final_up : {P : Plan} {m : ℕ} {g : District} {c : Ballot} {s t : Stamp} → Final P l m g c s t → Final P l' m g c s t
  final_up h = record { vector = h.vector; cert = cert_up h.cert; named = h.named; below = h.below; local = acc_up h.local; own = ack_up h.own }

  pub voter_up : {P : Plan} {y : NewState} {top : Ballot} {u : BoxNo} {z : Ballotpaper} → Voter P l y top u z → Voter P l' y top u z
  voter_up h = record { voted = voted_up h.voted; ballot = h.ballot; upto = h.upto; clock = h.clock; keeps = h.keeps }

  pub source_up : {P : Plan} {y : NewState} {top : Ballot} {m : ℕ} → Source P l y top m → Source P l' y top m
  source_up (done u z h e q) = done u z (voter_up h) e q
  source_up (taken u z h c e q) = taken u z (voter_up h) c e q
  source_up (start e) = start e

  pub merge_up : {P : Plan} {y : NewState} → Merge P l y → Merge P l' y
  merge_up h =
      record {
        top = h.top;
        quorum = quorate_map h.quorum (λ u q a. record { paper = a.paper; voter = voter_up a.voter });
        highest = h.highest;
        paper = h.paper;
        voter = voter_up h.voter;
        is_top = h.is_top;
        rows = λ m low. source_up (h.rows m low);
      }

  pub kept_vote_up : {v : Vote} {b : Ballot} → KeptVote l v b → KeptVote l' v b
  kept_vote_up h = record { paper = h.paper; voted = voted_up h.voted; ballot = h.ballot; cballot = h.cballot; clock = h.clock; table = h.table }

  pub handed_up : {i m : ℕ} {b : Ballot} {t u : Stamp} → Handed l i m b t u → Handed l' i m b t u
  handed_up (later h) = later h
  handed_up (earlier j h s d) = earlier j h s (del_at_up d)

  pub before_up : {P : Plan} {i m : ℕ} {b : Ballot} {t : Stamp} → Before P l i m b t → Before P l' i m b t
  before_up h = record { stamp = h.stamp; vector = h.vector; cert = cert_up h.cert; below = h.below; handed = handed_up h.handed }

  pub listing_up : {P : Plan} {g : District} {m : ℕ} {s : Stamp} {c : Ballot} {t : List Row} → Listing P l g m s c t → Listing P l' g m s c t
  listing_up h = record { ballot = h.ballot; local = h.local; del = del_up h.del; home = h.home; upto = h.upto; now = h.now }

-- ---- old or new

pub either : {A B C D : Type 0} → (A → C) → (B → D) → A ⊎ B → C ⊎ D
either f g (inl a) = inl (f a)
either f g (inr b) = inr (g b)

module _ (l k : List Rec) where
  pub acc_cases : {m : ℕ} {b : Ballot} {s : Stamp} → Acc (l ++ k) m b s → Acc l m b s ⊎ Acc k m b s
  acc_cases h = either (λ i. record { from = h.from; to = h.to; there = i }) (λ i. record { from = h.from; to = h.to; there = i }) (in_cases l k h.there)

  pub ack_cases : {P : Plan} {p : BoxNo} {m : ℕ} {f : District → Ballot} → Ack P (l ++ k) p m f → Ack P l p m f ⊎ Ack P k p m f
  ack_cases h =
      either
      (λ i. record { to = h.to; ballots = h.ballots; there = i; entries = h.entries })
      (λ i. record { to = h.to; ballots = h.ballots; there = i; entries = h.entries })
      (in_cases l k h.there)

  pub del_cases : {m : ℕ} {b : Ballot} {s t : Stamp} → Del (l ++ k) m b s t → Del l m b s t ⊎ Del k m b s t
  del_cases h = either (λ i. record { from = h.from; to = h.to; there = i }) (λ i. record { from = h.from; to = h.to; there = i }) (in_cases l k h.there)

  pub voted_cases : {p : BoxNo} {z : Ballotpaper} → Voted (l ++ k) p z → Voted l p z ⊎ Voted k p z
  voted_cases h = either (λ i. record { to = h.to; there = i }) (λ i. record { to = h.to; there = i }) (in_cases l k h.there)

  pub news_cases : {y : NewState} → News (l ++ k) y → News l y ⊎ News k y
  news_cases h =
      either (λ i. record { from = h.from; to = h.to; there = i }) (λ i. record { from = h.from; to = h.to; there = i }) (in_cases l k h.there)

  pub nsa_cases : {p : BoxNo} {b : Ballot} → Nsa (l ++ k) p b → Nsa l p b ⊎ Nsa k p b
  nsa_cases h = either (λ i. record { to = h.to; there = i }) (λ i. record { to = h.to; there = i }) (in_cases l k h.there)

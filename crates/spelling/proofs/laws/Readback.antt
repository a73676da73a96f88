-- Each record read means what was written, and each meaning has one spelling.
use Prim.Native.Nat.{ℕ, ◌≤◌}
use mathlib.Core.Bool.{true}
use mathlib.Core.List.{List}
use mathlib.Core.Path.{◌≡◌, sym, ap, ◌∙◌}
use lib.ListN.{length, take}
use Rattle.laws.specs.Number.{Bytes}
use Rattle.laws.specs.Tray.{onto}
use Rattle.laws.proofs.laws.Tray.{onto_front}
use Rattle.house.specs.Limits.{least_tray}
use Rattle.house.specs.Plan.{plan_sound}
use Rattle.house.specs.declared.Plan.{Plan}
use Rattle.records.specs.Rec.{meaning}
use Rattle.records.specs.Rules.{valid}
use Rattle.records.specs.Bytes.{encode, parse}
use Rattle.records.specs.Outcome.{write_bytes, read_record}
use Rattle.records.proofs.laws.Outcome.{writes, reads, write_says, write_is, read_says, read_is, was_written, was_read}
use Rattle.records.specs.declared.Record.{Record}
use Rattle.std.specs.Prelude.{Ok}
use Rattle.records.proofs.laws.Lengths.{Arrays, parse_arrays}
use Rattle.records.proofs.laws.Structs.{one_carrier}
use Rattle.spelling.proofs.laws.Round.{parse_encode, encode_shaped, encode_parse}

-- the bytes of a valid record are read as that record
pub read_encoded : (P : Plan) (r : Record) → plan_sound P ≡ true → Arrays r → valid P r ≡ true → reads P (encode P r) ≡ Ok r
unfolding reads read_record
read_encoded P r sound A v =
    let p = parse_encode P r sound A v in
    let e = read_is P (encode P r) sound (encode_shaped P r sound A v) (ap (valid P) p ∙ v) in
    rw (e, p)

-- what the writer wrote into a tray is read as the record that it was given
pub read_written : (P : Plan) (r : Record) (tray : List ℕ) (n : ℕ) → Arrays r → writes P r (length tray) ≡ Ok n
    → reads P (take n (onto (write_bytes P r (length tray)) tray)) ≡ Ok r
unfolding write_bytes
read_written P r tray n A e =
    let a = was_written P r (length tray) e in
    let w = write_says P r (length tray) a.0 in
    rw (a.0, onto_front (encode P r) tray n a.1) (read_encoded P r w.0 A w.2)

-- what the reader took is written as the bytes that it was given
pub write_read : (P : Plan) (s : List ℕ) (r : Record) (room : ℕ) → Bytes s → least_tray ≤ room → reads P s ≡ Ok r
    → (writes P r room ≡ Ok (length s)) × (write_bytes P r room ≡ s)
unfolding writes write_bytes
write_read P s r room b h e =
    let g = was_read P s e in
    let a = read_says P s g.0 in
    let w = write_is P (parse P s) room a.0 h a.2 in
    let p = encode_parse P s b a.1 in
    (rw (g.1, w, p), rw (g.1, w, p))

-- one spelling of a record
pub one_spelling : (P : Plan) (s t : List ℕ) (q r : Record) → Bytes s → Bytes t → reads P s ≡ Ok q → reads P t ≡ Ok r → q ≡ r → s ≡ t
one_spelling P s t q r b c e f same =
    let g = was_read P s e in let h = was_read P t f in
    let x = read_says P s g.0 in let y = read_says P t h.0 in
    sym (encode_parse P s b x.1) ∙ ap (encode P) (sym g.1 ∙ same ∙ h.1) ∙ encode_parse P t c y.1

-- and of a meaning
pub one_spelling_of_meaning : (P : Plan) (s t : List ℕ) (q r : Record) → Bytes s → Bytes t → reads P s ≡ Ok q → reads P t ≡ Ok r
    → meaning q ≡ meaning r → s ≡ t
one_spelling_of_meaning P s t q r b c e f same =
    let g = was_read P s e in let h = was_read P t f in
    let x = read_says P s g.0 in let y = read_says P t h.0 in
    let m : meaning (parse P s) ≡ meaning (parse P t) = ap meaning (sym g.1) ∙ same ∙ ap meaning h.1 in
    let k = one_carrier P (parse P s) (parse P t) (parse_arrays P s x.0) (parse_arrays P t x.0) x.2 y.2 m in
    sym (encode_parse P s b x.1) ∙ ap (encode P) k ∙ encode_parse P t c y.1

-- one record of a spelling
pub one_record : (P : Plan) (q r : Record) → plan_sound P ≡ true → Arrays q → Arrays r → valid P q ≡ true → valid P r ≡ true → encode P q ≡ encode P r → q ≡ r
one_record P q r sound A B v w e = sym (parse_encode P q sound A v) ∙ ap (parse P) e ∙ parse_encode P r sound B w

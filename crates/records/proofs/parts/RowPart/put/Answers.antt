-- `records::parts::RowPart::put` meets its contract.
use Rattle.std.proofs.Common.{◌++◌, [], ◌∷◌, refl, arith}
use Rattle.laws.proofs.laws.Tray.{behind, onto_sets}
use Rattle.records.specs.Fields.{stamps, rows}
use Rattle.records.proofs.parts.RowPart.put.Goals as goal

-- the phase, then the local stamp behind it, then the global
pub returns : goal.returns
unfolding stamps rows
returns c =
    let t = c.args.t.now in
    let row = c.args.self in
    let X = row.phase ∷ [] in
    let Y = stamps.enc row.local in
    let phase = onto_sets X t (omega (arith, c.requires)) in
    let local = behind X Y t _ _ 1 refl phase c.put.ensures in
    behind (X ++ Y) (stamps.enc row.global) t _ _ 6 refl local c.put-2.ensures

-- Owning a box, as a function does that takes one, says how long its arrays are.
use denote.Shadow.{shadow}
use denote.RattleType.{Valss, owns}
use denote.Struct.Declared.{fields}
use Rattle.boxes.specs.contracts.BoxState.{the_type}
use Rattle.boxes.specs.declared.BoxState.{BoxState}
use Rattle.boxes.specs.Lengths.{Lengths}

pub owned_lengths : (x : BoxState) (v : Valss (fields the_type)) → shadow (owns (fields the_type) (the_type.to x) v) → Lengths x
owned_lengths x v g =
    let c = g.0.1.1.1.1.1.1.1 in
    let k = g.1.0.1.1 in
    record {
      table = c.0.1.0.1;
      sent = c.1.0.1.0.1;
      list = c.1.1.1.0.1.0.1;
      kept_ballots = k.0.1.0.1;
      kept_stamps = k.1.0.1.0.1;
      marks = k.1.1.0.1.0.1;
      vote_table = k.1.1.1.0.1.1.1.1.1.1.0.1.0.1;
    }

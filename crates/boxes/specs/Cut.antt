-- cut: a box loses power (H).
use Rattle.boxes.specs.Box.{fresh_volatile}
use Rattle.boxes.specs.declared.BoxState.{BoxState}

-- cut forgets the volatile part only (H)
unfoldable pub cut : BoxState → BoxState
cut x = record { core = x.core; volatile = fresh_volatile }

-- `rehearse::end` meets its contract.
use Rattle.std.proofs.Common.{rules}
use Rattle.rehearse.proofs.laws.Laws.{said_fits}
use Rattle.rehearse.proofs.end.Goals as goal

pub slice_bounds-out-end : goal.slice_bounds-out-end
slice_bounds-out-end c = said_fits c.last_words-used.ensures

pub slice_bounds-write_all-end : goal.slice_bounds-write_all-end
slice_bounds-write_all-end c =
    let fits = said_fits c.last_words-used.ensures in search rules

-- `rehearse::one_turn` meets its contract.
use Rattle.std.proofs.Common.{rules, ap}
use Rattle.session.specs.declared.feed.Fed.{Fed}
use Rattle.rehearse.proofs.laws.Laws.{fed_fits}
use Rattle.rehearse.proofs.one_turn.Goals as goal

pub slice_bounds-out-end : goal.slice_bounds-out-end
slice_bounds-out-end c = fed_fits c.feed_chunk-fed.ensures

pub slice_bounds-write_all-end : goal.slice_bounds-write_all-end
slice_bounds-write_all-end c =
    let fits = fed_fits c.feed_chunk-fed.ensures in search rules

pub returns : goal.returns
returns c =
    let f = rw c.unwrap_or.ensures at c.feed_chunk-fed.ensures in
    record {
      turn = record { read = c.ok-read.result; tray = c.read.new.buf; written = c.is_ok-written.result };
      decided = c.next_of.ensures;
      session = ap (λ (x : Fed). x.session) f.fed;
      post = f.post;
    }

-- `post::put_behind` meets its contract.
use Rattle.post.proofs.laws.Posting.{put_behind}
use Rattle.post.proofs.put_behind.Goals as goal

pub returns : goal.returns
returns c = let a = c.args in rw c.copy_from_slice.ensures.after (put_behind a.post.now a.bytes.now a.used)

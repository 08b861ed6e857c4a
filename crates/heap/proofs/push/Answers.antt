-- Where the guard lets the call through the heap is sound, so that `push_sound` may be called.
-- Assumes nothing.
use borrow.Author.Rules.{rules}
use Rattle.theory.proofs.Stores.{unmapped}
use Rattle.heap.proofs.Soundness.Guarding.{passed_sound}
use Rattle.heap.proofs.push.Goals as goal

pub push_sound-requires : goal.push_sound-requires
push_sound-requires c = passed_sound c.args.h (search (rules, unmapped)) (search (rules, unmapped)) c.in-Ok.ensures

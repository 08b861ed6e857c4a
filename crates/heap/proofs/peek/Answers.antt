-- Where the guard lets the call through the heap is sound, so that `peek_sound` may be called.
-- Assumes nothing.
use borrow.Author.Rules.{rules}
use Rattle.theory.proofs.Stores.{unmapped}
use Rattle.heap.proofs.Soundness.Guarding.{passed_sound}
use Rattle.heap.proofs.peek.Goals as goal

pub peek_sound-requires : goal.peek_sound-requires
peek_sound-requires c = passed_sound c.args.h (search (rules, unmapped)) (search (rules, unmapped)) c.in_ok-guarded.ensures

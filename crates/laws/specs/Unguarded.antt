-- The calls without the test of soundness, which looks at every place: what each answers of a sound set (proofs/Soundness/Unguarded.antt).
-- No code is like that; worked rows and traces are computed by it.
-- Assumes nothing.
use Rattle.std.specs.Prelude.{List, ℕ}
use Rattle.refusals.specs.Answer.{Outcome}
use Rattle.interval.specs.Rules.{restart_of}
use Rattle.word.specs.Rules as Word
use Rattle.state.specs.declared.Life.TheVariants as Life
use Rattle.state.specs.declared.Set.{Set}
use Rattle.moves.specs.Rules.{lowest_free, touched_of, drained_of, advanced_of, closed_of}
use Rattle.heap.specs.Calls.{peek_sound}
use Rattle.timers.specs.declared.Call.{Call}
use Rattle.timers.specs.declared.Call.TheVariants as C
use Rattle.timers.specs.Calls.{Value, nothing, polled, wake, Lent, lent, gives, opened, alive, live_at, added_at, reset_to, rang, roomy, wake_by, poll_by, ticked, restarted_by, with_list}

-- the calls of specs/Calls.antt in `timers`, each from behind its test
unfoldable pub unguarded : Set → Call → List ℕ → Outcome Lent Value
unguarded s (C.Add d) l = with_list l (opened s s (added_at s d (lowest_free s)))
unguarded s (C.Reset h d) l = with_list l (opened s s (alive s (live_at s h) (λ t. gives (reset_to s h d t) nothing)))
unguarded s (C.Cancel h) l =
    with_list l (opened s s (alive s (live_at s h) (λ t. gives (touched_of s h.place.0 (Life.Cancelled t.word)) nothing)))
unguarded s C.Drain l = with_list l (opened s s (gives (drained_of s) nothing))
unguarded s (C.Advance N) l = opened s (lent s l) (roomy s l (rang (advanced_of s N l)))
unguarded s (C.Turn N) l = opened s (lent s l) (roomy s l (rang (advanced_of (drained_of s) N l)))
unguarded s C.NextWake l = with_list l (gives s (wake (wake_by (peek_sound s.heap))))
unguarded s (C.Poll h) l = with_list l (alive s (live_at s h) (λ t. gives s (polled (poll_by (Word.poll_of t.word)))))
unguarded s C.Close l = with_list l (opened s s (gives (closed_of s) nothing))
unguarded s (C.Tick h p period N) l = with_list l (opened s s (alive s (live_at s h) (ticked s h p period N)))
unguarded s (C.Restart h period N) l = with_list l (opened s s (alive s (live_at s h) (λ t. restarted_by s h t (restart_of period N))))

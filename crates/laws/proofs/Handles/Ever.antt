-- What holds for ever, whatever calls come, refused or not, on any set: use numbers never fall; a handle that was given out is not
-- given out again; one that was cancelled stays dead.
-- Assumes nothing.
use mathlib.Core.Path.{◌≡◌, refl, sym, subst}
use mathlib.Core.Option.{none}
use mathlib.Core.List.{List, [], ◌∷◌}
use Prim.Native.Nat.{ℕ, ◌≤◌, ◌<◌}
use lib.ListN.{length}
use Rattle.refusals.specs.Answer.{accepted}
use Rattle.heap.specs.Capacity.{cap}
use Rattle.word.specs.Rules as Word
use Rattle.state.specs.declared.Life.TheVariants.{Live, Cancelled}
use Rattle.state.specs.declared.Set.{Set}
use Rattle.state.specs.declared.Handle.{Handle}
use Rattle.state.specs.State.{timer_at}
use Rattle.timers.specs.declared.Call.{Call}
use Rattle.moves.specs.Rules.{drained_of}
use Rattle.timers.specs.Calls.{Value, handle, live_at, add_of, cancel_of, after}
use Rattle.refusals.proofs.Refusing.{never}
use Rattle.laws.specs.Past.{Given, Past}
use Rattle.laws.specs.ByHandle.{stepped}
use Rattle.laws.proofs.PlaceByPlace.Places.{Each}
use Rattle.laws.proofs.Handles.ByHandle.{handle_at}
use Rattle.laws.proofs.Handles.Past.{Later, later_order, added_later, touched_later, drained_later, advanced_later, closed_later}
use Rattle.laws.proofs.Handles.PastLaws.{past_dead, live_given, given_dead, added_new, cancelled_past}
use Rattle.laws.proofs.AnyCall.CallCases.{add_by, cancel_by}
use Rattle.laws.proofs.AnyCall.CallsKeep.{step_keeps_it}
use Rattle.laws.proofs.Handles.ByHandleCalls.{add_lives}

-- ONE CALL

-- after any call each place is later
step_later : (s : Set) (c : Call) (l : List ℕ) → Each Later s (stepped s c l)
step_later s =
    step_keeps_it (Each Later s) s
    (record {
      now = λ p. later_order.blind (timer_at s p) (timer_at s p) refl refl;
      adds = λ p d _ _ e. added_later s p d e;
      resets = λ h t d _ _ e. touched_later s h t (Live (Word.reset_of t.word) d) refl e;
      cancels = λ h t _ e. touched_later s h t (Cancelled t.word) refl e;
    })
    (record {
      drains = λ _. drained_later s;
      advances = λ N l _. advanced_later s N l;
      turns = λ N l _ p. later_order.then _ _ _ (drained_later s p) (advanced_later (drained_of s) N l p);
      closes = λ _. closed_later s;
    })

-- use numbers never fall
pub uses_rise : (s : Set) (c : Call) (l : List ℕ) (p : ℕ) → (timer_at s p).uses ≤ (timer_at (stepped s c l) p).uses
uses_rise s c l p = (step_later s c l p).rises

-- a handle that was given out is so after any call
given_stays : (s : Set) (c : Call) (l : List ℕ) (h : Handle) → Given s h → Given (stepped s c l) h
given_stays s c l h = (step_later s c l h.place.0).given h.uses

-- and one that is past is so
past_stays : (s : Set) (c : Call) (l : List ℕ) (h : Handle) → Past s h → Past (stepped s c l) h
past_stays s c l h = (step_later s c l h.place.0).over h.uses

module _ (s : Set) where
  -- an add's handle was not given out before
  add_new : (d : ℕ) (h : Handle) → (add_of s d).answer ≡ accepted (handle h) → Given s h → ⊥
  add_new d h =
      add_by (λ o. o.answer ≡ accepted (handle h) → Given s h → ⊥) s (λ m r e. never r e) d
      (λ _ p f e g. let q : handle_at s p ≡ h = cc in added_new s p f (subst (Given s) (sym q) g))

  -- and is so afterwards
  add_given : (d : ℕ) (h : Handle) → length s.timers ≡ cap → (add_of s d).answer ≡ accepted (handle h) → Given (add_of s d).state h
  add_given d h n e = live_given (add_of s d).state h _ (add_lives s d h n e).1

  -- a cancel's handle is past afterwards
  cancel_past : (h : Handle) (v : Value) → length s.timers ≡ cap → (cancel_of s h).answer ≡ accepted v → Past (cancel_of s h).state h
  cancel_past h v n =
      cancel_by (λ o. o.answer ≡ accepted v → Past o.state h) s (λ m r e. never r e) h (λ _ t l _. cancelled_past s h t n l)

-- ANY NUMBER OF CALLS

-- a handle that was given out is so after any calls
after_given : (cs : List (Call × List ℕ)) (s : Set) (h : Handle) → Given s h → Given (after cs s) h
after_given [] s h g = g
after_given (c ∷ cs) s h g = after_given cs (stepped s c.0 c.1) h (given_stays s c.0 c.1 h g)

-- a handle that is past is so after any calls
after_past : (cs : List (Call × List ℕ)) (s : Set) (h : Handle) → Past s h → Past (after cs s) h
after_past [] s h g = g
after_past (c ∷ cs) s h g = after_past cs (stepped s c.0 c.1) h (past_stays s c.0 c.1 h g)

-- a handle that was cancelled is dead after any calls
pub cancelled_stays_dead : (s : Set) (h : Handle) (v : Value) → length s.timers ≡ cap → (cancel_of s h).answer ≡ accepted v
    → (cs : List (Call × List ℕ)) → live_at (after cs (cancel_of s h).state) h ≡ none
cancelled_stays_dead s h v n e cs = past_dead (after cs (cancel_of s h).state) h (after_past cs (cancel_of s h).state h (cancel_past s h v n e))

-- a handle that was given out and is dead is dead after any calls
pub dead_stays_dead : (s : Set) (h : Handle) → h.place.0 < cap → Given s h → live_at s h ≡ none
    → (cs : List (Call × List ℕ)) → live_at (after cs s) h ≡ none
dead_stays_dead s h b g e cs = past_dead (after cs s) h (after_past cs s h (given_dead s h b g e))

-- an add never answers the handle that an earlier one answered
pub given_once : (s : Set) (d : ℕ) (h : Handle) → length s.timers ≡ cap → (add_of s d).answer ≡ accepted (handle h)
    → (cs : List (Call × List ℕ)) (c : ℕ) → (add_of (after cs (add_of s d).state) c).answer ≡ accepted (handle h) → ⊥
given_once s d h n e cs c f = add_new (after cs (add_of s d).state) c h f (after_given cs (add_of s d).state h (add_given s d h n e))

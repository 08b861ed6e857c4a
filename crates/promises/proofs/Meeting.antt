-- What follows of any engine that meets the statement: before a close a turn and an advance with room in the list are accepted, and after
-- an accepted turn the next wake is the least deadline still owed.
-- Assumes nothing.
use mathlib.Core.Path.{◌≡◌, refl, sym, ap, subst, ◌∙◌}
use mathlib.Core.Bool.{Bool, true, false, not, ◌||◌}
use mathlib.Core.Option.{Option}
use mathlib.Core.List.{List, [], ◌∷◌, ◌++◌}
use Prim.Native.Nat.{ℕ, ◌≤◌, ◌<◌, ◌^◌}
use native.Mathlib.Omega.{arith}
use lib.ListN.{length}
use borrow.Author.Tests.{le-ltb}
use Rattle.theory.proofs.Tests.{and_left, and_right}
use Rattle.refusals.specs.Answer.{Answer, accepted, is_accepted}
use Rattle.heap.specs.Capacity.{cap}
use Rattle.state.specs.declared.Handle.{Handle}
use Rattle.timers.specs.declared.Call.{Call}
use Rattle.timers.specs.declared.Call.TheVariants as C
use Rattle.timers.specs.Values.{Value, wake}
use Rattle.promises.specs.Turns.{Engine, Seen, seen, Ledger, noted, note, settled, counting, Answers, Least, Run, next, from, run, Accepted, Bounded, Moment, all_asked, Meets}

-- where counts must be answered the call is accepted
counting_accepted : (a : Answer Value) → Answers counting a → is_accepted a ≡ true
counting_accepted a (n, m, e) = ap is_accepted e

-- whatever is drained and does not leave is settled
either : (b : Bool) → (not b || true) ≡ true
either true = refl
either false = refl

-- what the ledger has of an accepted turn
turn_noted : (N : ℕ) (a : Seen) (L : Ledger) → is_accepted a.answer ≡ true → note (C.Turn N) a L ≡ noted (C.Turn N) a L
unfolding note
turn_noted N a L e = rw e refl

module _ (E : Engine) where
  -- calls, and then more calls
  pub from_append : (cs ds : List (Call × List ℕ)) (r : Run E) → from E r (cs ++ ds) ≡ from E (from E r cs) ds
  unfolding from
  from_append [] ds r = refl
  from_append (c ∷ cs) ds r = from_append cs ds (next E r c.0 c.1)

  -- the premise, with a call more
  bounded_more : (cs : List (Call × List ℕ)) (r : Run E) (c : Call × List ℕ) → Bounded E r cs
      → ((h : Handle) → ((next E (from E r cs) c.0 c.1).ledger.line h).resets < 2 ^ 30) → Bounded E r (cs ++ (c ∷ []))
  unfolding from Bounded
  bounded_more [] r c b low = (b, low)
  bounded_more (x ∷ cs) r c b low = (b.0, bounded_more cs (next E r x.0 x.1) c b.1 low)

  module _ (asked : Call → Bool) where
    -- what is asked, with a call more
    asked_more : (cs : List (Call × List ℕ)) (c : Call × List ℕ) → all_asked asked cs ≡ true → asked c.0 ≡ true → all_asked asked (cs ++ (c ∷ [])) ≡ true
    asked_more [] c a b = rw b refl
    asked_more (x ∷ cs) c a b =
        rw (and_left (asked x.0) (all_asked asked cs) a, asked_more cs c (and_right (asked x.0) (all_asked asked cs) a) b) refl

    -- before a close a turn and an advance with room in the list are accepted
    module _ (r : Run E) (P : Type 0) (k : Moment E asked r P) (yet : r.ledger.closed ≡ false) (l : List ℕ) (room : cap ≤ length l) where
      pub turn_accepted : (N : ℕ) → asked (C.Turn N) ≡ true → Accepted E r (C.Turn N) l
      turn_accepted N a = counting_accepted _ (rw (yet, le-ltb (length l) cap room) at (k.answers (C.Turn N) l a))

      pub advance_accepted : (N : ℕ) → asked (C.Advance N) ≡ true → Accepted E r (C.Advance N) l
      advance_accepted N a = counting_accepted _ (rw (yet, le-ltb (length l) cap room) at (k.answers (C.Advance N) l a))

    -- after any calls before a close, and then an accepted turn, the next wake is the least deadline still owed
    pub wake_after_turn : Meets E asked → (cs : List (Call × List ℕ)) → all_asked asked cs ≡ true → (run E cs).ledger.closed ≡ false → Bounded E (run E []) cs
        → (N : ℕ) (l m : List ℕ) → asked (C.Turn N) ≡ true → asked C.NextWake ≡ true → Accepted E (run E cs) (C.Turn N) l
        → let q = next E (run E cs) (C.Turn N) l in (t : Option ℕ) × ((E.step q.state C.NextWake m).answer ≡ accepted (wake t)) × Least q.ledger t
    unfolding from next note
    wake_after_turn k cs a yet b N l m turn-asked wake-asked ok =
        let c : Call × List ℕ = (C.Turn N, l) in
        let q = next E (run E cs) (C.Turn N) l in
        let e : run E (cs ++ (c ∷ [])) ≡ q = from_append cs (c ∷ []) (run E []) in
        let z = turn_noted N (seen (E.step (run E cs).state (C.Turn N) l)) (run E cs).ledger ok in
        let here = subst (λ (r : Run E). Moment E asked r (Bounded E (run E []) (cs ++ (c ∷ [])))) e (k (cs ++ (c ∷ [])) (asked_more cs c a turn-asked)) in
        here.wakes m wake-asked
        (bounded_more cs (run E []) c b (λ h. subst (λ (M : Ledger). (M.line h).resets < 2 ^ 30) (sym z) (omega arith)))
        (ap (λ (M : Ledger). M.closed) z ∙ yet)
        (λ h. ap (λ (M : Ledger). settled (M.line h)) z ∙ either ((run E cs).ledger.line h).live)

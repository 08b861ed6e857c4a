-- What the lent list holds counts for nothing: an advance of one set with two lists, each with room for a word an entry, leaves the
-- same set and the same counts, and writes the same reports. So does a turn with any two lists that both have room or have it neither.
-- Assumes nothing.
use mathlib.Core.Path.{◌≡◌, refl, sym, ◌∙◌, ap}
use mathlib.Core.Bool.{Bool, true, false, cond}
use mathlib.Core.Option.{Option, none, some}
use mathlib.Core.List.{List, [], ◌∷◌, ◌++◌}
use Prim.Native.Nat.{ℕ, zero, suc, ◌+◌, ◌≤◌, ◌<◌}
use native.Mathlib.Omega.{arith}
use lib.Dec.{leb}
use lib.ListN.{length, take}
use borrow.Author.Tests.{leb-true, le-leb}
use Rattle.theory.specs.Tests.{bit}
use Rattle.theory.proofs.Tests.{ref_le}
use Rattle.refusals.specs.declared.fault.Fault.{Fault}
use Rattle.refusals.specs.declared.Refusal.TheVariants.{Unsound, Closed}
use Rattle.refusals.specs.Answer.{accepted, Outcome}
use Rattle.heap.specs.Capacity.{cap}
use Rattle.state.proofs.PlaceTest.{ref_self}
use Rattle.heap.proofs.UnusedRoom.InUseWalks.{choose_ref}
use Rattle.state.specs.declared.Set.{Set}
use Rattle.state.specs.Faults.{fault_of}
use Rattle.state.specs.Sound.{Sound}
use Rattle.moves.specs.Rules.{drained_of, Ring, due_by, rung_of, ring_from, advanced_of}
use Rattle.timers.specs.Values.{reports_in}
use Rattle.timers.specs.Calls.{Value, counts, Lent, judged, refusing, guarded, lent, rang, roomy, turn_of}
use Rattle.laws.specs.Words.{Words}
use Rattle.laws.proofs.Soundness.DrainSound.{drained_sound}
use Rattle.laws.proofs.Soundness.RungSound.{due_some, rung_sound}
use Rattle.laws.proofs.Soundness.AdvancedSound.{from_start}
use Rattle.laws.proofs.Reporting.Written.{head_reports, head_word, rung_words, rung_long, rung_reported, rung_left}

-- two advances under way: the same set, the same counts and the same reports
pub record SameReports (q r : Ring) : Type 0 where
  pub sets : q.set ≡ r.set
  pub reported : q.reported ≡ r.reported
  pub popped : q.popped ≡ r.popped
  pub words : take q.reported q.list ≡ take r.reported r.list

-- the set is sound, and the list has room for a word an entry
record Roomy (r : Ring) : Type 0 where
  pub sound : Sound r.set
  pub room : r.reported + r.set.heap.len ≤ length r.list

-- one bit is 1 at most
bit_small : (b : Bool) → bit b ≤ 1
bit_small true = omega arith
bit_small false = omega arith

module _ (r : Ring) (m : Roomy r) (b : 0 < r.set.heap.len) where
  -- a pop leaves room
  rung_roomy : Roomy (rung_of r)
  rung_roomy = record {
    sound = rung_sound r m.sound b;
    room = omega (arith, m.room, rung_reported r, bit_small (head_reports r), rung_left r m.sound b, rung_long r);
  }

  -- and there was room for its word
  rung_fits : r.reported < length r.list
  rung_fits = omega (arith, m.room)

-- what a pop does beside the list, it does by the set alone
rung_same : (q r : Ring) → SameReports q r → Roomy q → Roomy r → 0 < q.set.heap.len → 0 < r.set.heap.len → SameReports (rung_of q) (rung_of r)
unfolding rung_of
rung_same q r e m n b c =
    let bare : Set → Ring = λ s. record { set = s; list = []; reported = 0; popped = 0 } in
    record {
      sets = ap (λ (s : Set). (rung_of (bare s)).set) e.sets;
      reported =
          rung_reported q ∙ (λ t. e.reported t + bit (head_reports (bare (e.sets t)))) ∙ sym (rung_reported r);
      popped = ap (λ (k : ℕ). k + 1) e.popped;
      words =
          rung_words q (rung_fits q m b)
          ∙ (λ t. e.words t ++ cond (head_reports (bare (e.sets t))) (head_word (bare (e.sets t)) ∷ []) [])
          ∙ sym (rung_words r (rung_fits r n c));
    }

-- a run of pops
rings_same : (k : ℕ) (q r : Ring) (N : ℕ) → SameReports q r → Roomy q → Roomy r → SameReports (ring_from k q N) (ring_from k r N)
unfolding ring_from
rings_same zero q r N e m n = e
rings_same (suc k) q r N e m n =
    let same : due_by q.set.heap N ≡ due_by r.set.heap N = ap (λ (s : Set). due_by s.heap N) e.sets in
    choose_ref SameReports same (ref_self (due_by r.set.heap N))
    (λ d. let b : 0 < q.set.heap.len = due_some q.set.heap N (same ∙ d) in
    let c : 0 < r.set.heap.len = due_some r.set.heap N d in
    rings_same k (rung_of q) (rung_of r) N (rung_same q r e m n b c) (rung_roomy q m b) (rung_roomy r n c))
    (λ _. e)

-- an advance
pub advanced_any_list : (s : Set) (N : ℕ) (l m : List ℕ) → Sound s → s.heap.len ≤ length l → s.heap.len ≤ length m
    → SameReports (advanced_of s N l) (advanced_of s N m)
unfolding advanced_of
advanced_any_list s N l m ok a b =
    rings_same s.heap.len (from_start s l) (from_start s m) N (record { sets = refl; reported = refl; popped = refl; words = refl })
    (record { sound = ok; room = omega arith }) (record { sound = ok; room = omega arith })

-- what two turns give: the same answer, the same set and the same reports
pub record SameTurn (o q : Outcome Lent Value) : Type 0 where
  pub answers : o.answer ≡ q.answer
  pub sets : o.state.set ≡ q.state.set
  pub reports : take (reports_in o.answer) o.state.list ≡ take (reports_in q.answer) q.state.list

-- a turn, with two lists that both have room or have it neither
pub turn_any_list : (s : Set) → Sound s → Words s → (N : ℕ) (l m : List ℕ) → leb cap (length l) ≡ leb cap (length m)
    → SameTurn (turn_of s N l) (turn_of s N m)
unfolding turn_of guarded
turn_any_list s ok words N l m same = go (fault_of s) s.closed refl
  where
    run : List ℕ → Ring
    run l = advanced_of (drained_of s) N l

    rung : s.closed ≡ false → cap ≤ length l → cap ≤ length m → SameTurn (rang (run l)) (rang (run m))
    rung c a b =
        let d = drained_sound s ok c words in
        let e = advanced_any_list (drained_of s) N l m d (omega (arith, d.heap_sound.len_in)) (omega (arith, d.heap_sound.len_in)) in
        record { answers = λ t. accepted (counts (e.reported t) (e.popped t)); sets = e.sets; reports = e.words }

    go : (x : Option Fault) (b : Bool) → s.closed ≡ b
        → SameTurn
        (judged x (cond b (refusing (lent s l) Closed) (roomy s l (rang (run l)))) (λ y. refusing (lent s l) (Unsound y)))
        (judged x (cond b (refusing (lent s m) Closed) (roomy s m (rang (run m)))) (λ y. refusing (lent s m) (Unsound y)))
    go (some y) b c = record { answers = refl; sets = refl; reports = refl }
    go none true c = record { answers = refl; sets = refl; reports = refl }
    go none false c =
        choose_ref SameTurn same (ref_le cap (length m))
        (λ b. rung c (leb-true cap (length l) (same ∙ le-leb cap (length m) b)) b)
        (λ _. record { answers = refl; sets = refl; reports = refl })

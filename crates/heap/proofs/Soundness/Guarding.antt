-- What a call knows once the guard has let it through, and what it is to be guarded.
-- Assumes nothing.
use mathlib.Core.Path.{◌≡◌, refl}
use mathlib.Core.Bool.{true}
use mathlib.Core.Option.{Option, none, some}
use lib.ListN.{length}
use Rattle.refusals.specs.declared.fault.Fault.{Fault}
use Rattle.refusals.specs.declared.Refusal.{Refusal}
use Rattle.refusals.specs.declared.Refusal.TheVariants.{Unsound}
use Rattle.refusals.specs.Answer.{Answer, accepted, refuse, Outcome, kept}
use Rattle.theory.specs.Chain.{clear}
use Rattle.refusals.proofs.Refusing.{any_refusal, not_both}
use Rattle.heap.specs.Capacity.{cap}
use Rattle.heap.specs.declared.Entry.{Entry}
use Rattle.heap.specs.declared.Heap.{Heap}
use Rattle.heap.specs.Faults.{fault_of, consistent_of}
use Rattle.heap.specs.Sound.{Sound}
use Rattle.heap.specs.Calls.{passing, guard_of, guarded_by, guarded, peek_by}
use Rattle.heap.proofs.Testing.Test.{consistent_sound}

-- let through: the test says yes
pub passed : (h : Heap) → accepted tt ≡ guard_of h → consistent_of h ≡ true
unfolding guard_of consistent_of
passed h e = go (fault_of h) e
  where
    go : (o : Option Fault) → accepted tt ≡ passing o → clear o ≡ true
    go none e = refl
    go (some f) e = absurd (not_both (Unsound f) e)

-- so the heap is sound; how long its arrays are the code's types say
pub passed_sound : (h : Heap) → length h.entries ≡ cap → length h.slots ≡ cap → accepted tt ≡ guard_of h → Sound h
passed_sound h n m e = consistent_sound h n m (passed h e)

-- what is guarded is a choice by the first fault
abbrev pub judged : {A : Type 0} → Heap → Outcome Heap A → Option Fault → Outcome Heap A
judged h o none = o
judged h o (some f) = kept h (refuse (Unsound f))

pub guarded_is : {A : Type 0} (h : Heap) (o : Outcome Heap A) → guarded h o ≡ judged h o (fault_of h)
unfolding guard_of
guarded_is {A} h o = go (fault_of h)
  where
    go : (x : Option Fault) → guarded_by h o (passing x) ≡ judged h o x
    go none = refl
    go (some f) = refl

-- turned away: the heap handed back, with the refusal
pub turned : {A : Type 0} (h : Heap) (o : Outcome Heap A) (why : Refusal) → kept h (refuse why) ≡ guarded_by h o (refuse why)
turned {A} h o why = any_refusal (λ (a : Answer A). kept h a) (guarded_by h o) (λ n. refl) (λ x. refl) why

pub peek_turned : (a : Answer (Option Entry)) (why : Refusal) → refuse why ≡ peek_by a (refuse why)
peek_turned a why = any_refusal (λ (b : Answer (Option Entry)). b) (peek_by a) (λ n. refl) (λ x. refl) why

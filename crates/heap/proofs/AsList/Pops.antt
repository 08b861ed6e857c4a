-- Popping while the head is due, with a limit, is the same on the heap and on its list: what comes out is in order of deadline and
-- due, no more than the limit, nothing is lost; and where the limit is not less than the count, what comes out is exactly what is due.
-- Assumes nothing.
use mathlib.Core.Path.{◌≡◌, refl, sym, ap, subst, ◌∙◌}
use mathlib.Core.Bool.{cond}
use mathlib.Core.List.{List, [], ◌∷◌}
use Prim.Native.Nat.{ℕ, zero, suc, ◌+◌, ◌≤◌, ◌<◌}
use native.Mathlib.Omega.{arith}
use lib.Dec.{leb}
use lib.ListN.{length, get_or}
use borrow.Author.Tests.{lt-ltb, le-ltb}
use Rattle.theory.specs.Heap as T
use Rattle.theory.specs.Weights.{total, All, Rising, up_to}
use Rattle.theory.proofs.Pops.{pop_sorted, pop_total, pop_out, pop_limit, pop_left, pop_exact}
use Rattle.refusals.specs.Answer.{Outcome}
use Rattle.heap.specs.declared.Entry.{Entry}
use Rattle.heap.specs.declared.Heap.{Heap}
use Rattle.heap.specs.Rules.{no_entry, entry_at, items, key}
use Rattle.heap.specs.Sound.{Sound}
use Rattle.heap.specs.Calls.{Off, pop_sound}
use Rattle.heap.specs.Pops.{PopRun, due_by, pops_of}
use Rattle.heap.proofs.AsList.Items.{items_length, items_at, choose}
use Rattle.heap.proofs.AsList.ItemsCalls.{remove_walked}
use Rattle.heap.proofs.Slots.Slab.{sound_slab}
use Rattle.heap.proofs.Slots.Kept.{pop_head}
use Rattle.heap.proofs.AsList.Ordered.{ordered_list}
use Rattle.heap.proofs.Soundness.SoundKept.{pop_sound_lem}

-- a sound heap has room for its entries
sound_fits : {h : Heap} → Sound h → h.len ≤ length h.entries
sound_fits s = omega arith

-- a pop of a heap that is not empty leaves what the removal of the first from the list leaves
pop_items : (h : Heap) → Sound h → 0 < h.len → items (pop_sound h).state ≡ (T.removeAt key no_entry (items h) 0).list
pop_items h s p =
    ap (λ (o : Outcome Heap Off). items o.state) (pop_head h (sound_slab h s) p)
    ∙ (remove_walked h (entry_at h 0).slot (record { 0 = 0 }) (sound_fits s) p).listed

-- a run of pops on the heap is the run on the list, and it leaves a sound heap
pub record Runs (r : PopRun) (q : T.Popped Entry) : Type 0 where
  pub outs : r.out ≡ q.out
  pub lefts : items r.left ≡ q.left
  pub sound : Sound r.left

-- popping from the heap is popping from the list
pub pops_run : (k : ℕ) (h : Heap) (m : ℕ) → Sound h → Runs (pops_of k h m) (T.pop_while key no_entry k (items h) m)
unfolding pops_of T.pop_while
pops_run zero h m s = record { outs = refl; lefts = refl; sound = s }
pops_run (suc k) h m s = go (items h) refl (pops_run k (pop_sound h).state m)
  where
    g : Heap
    g = (pop_sound h).state

    go : (xs : List Entry) → items h ≡ xs → (Sound g → Runs (pops_of k g m) (T.pop_while key no_entry k (items g) m))
        → Runs (cond (due_by h m) (record { out = entry_at h 0 ∷ (pops_of k g m).out; left = (pops_of k g m).left }) (record { out = []; left = h })) (T.pop_while key no_entry (suc k) xs m)
    go [] e next =
        rw (le-ltb 0 h.len (omega (arith, ap length e, items_length h (sound_fits s)))) (record { outs = refl; lefts = e; sound = s })
    go (x ∷ xs) e next =
        let p : 0 < h.len = omega (arith, ap length e, items_length h (sound_fits s)) in
        let top : entry_at h 0 ≡ x = sym (items_at h 0 p) ∙ ap (λ (l : List Entry). get_or l 0 no_entry) e in
        let rest = pop_items h s p ∙ ap (λ (l : List Entry). (T.removeAt key no_entry l 0).list) e in
        let r = subst (λ (l : List Entry). Runs (pops_of k g m) (T.pop_while key no_entry k l m)) rest (next (pop_sound_lem h s)) in
        rw (lt-ltb 0 h.len p, top)
        (choose Runs (leb (key x) m) (record { outs = ap (λ (l : List Entry). x ∷ l) r.outs; lefts = r.lefts; sound = r.sound })
        (record { outs = refl; lefts = e; sound = s }))

module _ (k : ℕ) (h : Heap) (m : ℕ) (s : Sound h) where
  -- the heap that is left is sound
  pub pops_sound : Sound (pops_of k h m).left
  pops_sound = (pops_run k h m s).sound

  -- no more come out than the limit says
  pub pops_limit : length (pops_of k h m).out ≤ k
  pops_limit = rw (pops_run k h m s).outs (pop_limit key no_entry k (items h) m)

  -- what comes out is in order of deadline
  pub pops_rising : Rising key 0 (pops_of k h m).out
  pops_rising = rw (pops_run k h m s).outs (pop_sorted key no_entry k (items h) m (ordered_list h (sound_fits s) s.ordered))

  -- all that comes out is due
  pub pops_due : All (λ x. key x ≤ m) (pops_of k h m).out
  pops_due = rw (pops_run k h m s).outs (pop_out key no_entry k (items h) m)

  -- nothing is lost and nothing is added: by every weight, what comes out and what is left weigh what there was
  pub pops_total : (w : Entry → ℕ) → total w (pops_of k h m).out + total w (items (pops_of k h m).left) ≡ total w (items h)
  pops_total w = rw ((pops_run k h m s).outs, (pops_run k h m s).lefts) (pop_total key no_entry w k (items h) m)

  -- where the limit is not less than the count, what is left is not due
  pub pops_left : h.len ≤ k → All (λ x. m < key x) (items (pops_of k h m).left)
  pops_left b =
      rw (pops_run k h m s).lefts
      (pop_left key no_entry k (items h) m (omega (arith, items_length h (sound_fits s))) (ordered_list h (sound_fits s) s.ordered))

  -- where the limit is not less than the count, exactly the due entries come out, each as often as it was there: by every weight,
  -- what comes out weighs what the due entries weighed
  pub pops_exact : h.len ≤ k → (w : Entry → ℕ) → total w (pops_of k h m).out ≡ total (up_to key m w) (items h)
  pops_exact b w =
      rw (pops_run k h m s).outs
      (pop_exact key no_entry w k (items h) m (omega (arith, items_length h (sound_fits s))) (ordered_list h (sound_fits s) s.ordered))

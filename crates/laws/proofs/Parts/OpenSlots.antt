-- The heap and the places of a sound set, told by slots: a place names a slot exactly when the entry that stands there is its own.
-- A timer that drops its entry empties its own slot and no other; one that gets an entry takes a slot that no timer names.
-- Assumes nothing.
use mathlib.Core.Path.{◌≡◌, refl, sym, ◌∙◌, ap, subst}
use mathlib.Core.Option.{none, some}
use Prim.Native.Nat.{ℕ, ◌<◌, ◌^◌}
use native.Mathlib.Omega.{arith}
use borrow.Author.Tests.{lt-ltb}
use Rattle.std.specs.Prelude.{Option, Some, None}
use Rattle.theory.proofs.Tests.{by-ref, ref_eq, none_some}
use Rattle.refusals.specs.Answer.{Outcome}
use Rattle.heap.specs.Capacity.{cap}
use Rattle.heap.specs.declared.Slot.{Slot}
use Rattle.heap.specs.declared.Entry.{Entry}
use Rattle.heap.specs.declared.Heap.{Heap}
use Rattle.heap.specs.Rules.{new_entry, pushed_of}
use Rattle.heap.specs.Lookup.{lookup}
use Rattle.heap.specs.Calls.{push_gives, push_sound, remove_sound}
use Rattle.heap.specs.Sound as Heap
use Rattle.heap.proofs.Slots.Slab.{sound_slab}
use Rattle.heap.proofs.Slots.Lookup.{lookup_some}
use Rattle.heap.proofs.Slots.BySlot.{free_none, push_new, push_other, remove_found}
use Rattle.heap.proofs.Soundness.SoundKept.{push_sound_lem, remove_sound_lem}
use Rattle.moves.specs.Rules.{dropped_of, held_by}

-- the entry that stands in the slot k holds the place p
pub record Stands (h : Heap) (k p : ℕ) : Type 0 where
  pub it : Entry
  pub found : lookup h k ≡ some it
  pub mine : it.place.0 ≡ p

-- the entry's place is in range and names the entry's slot, and its generation is in range
pub record Fits (held : ℕ → Option Slot) (e : Entry) : Type 0 where
  pub place_in : e.place.0 < cap
  pub named : held e.place.0 ≡ Some e.slot
  pub young : e.generation < 2 ^ 30

-- a sound heap whose entries and the places name each other
pub record Slots (h : Heap) (held : ℕ → Option Slot) : Type 0 where
  pub sound : Heap.Sound h
  pub own : (p : ℕ) (q : Slot) → p < cap → held p ≡ Some q → Stands h q.0 p
  pub fits : (k : ℕ) (e : Entry) → lookup h k ≡ some e → Fits held e

-- no timer both names a slot and names none
pub nothing_at : {A : Type 0} {x : Option Slot} {q : Slot} → x ≡ None → x ≡ Some q → A
nothing_at e f = let z : ◌≡◌ {A = ℕ} 0 1 = cc in absurd (omega arith)

-- a timer names one slot
pub at_same : {x : Option Slot} {q r : Slot} → x ≡ Some q → x ≡ Some r → q ≡ r
at_same e f = cc

some_same : {x y : Entry} → some x ≡ some y → x ≡ y
some_same e = cc

-- in one slot stands the entry of one place
pub stands_one : (h : Heap) (j k x p : ℕ) → Stands h j x → Stands h k p → j ≡ k → x ≡ p
stands_one h j k x p a b e =
    let q : a.it ≡ b.it = cc (a.found, b.found, ap (lookup h) e) in
    sym a.mine ∙ ap (λ (y : Entry). y.place.0) q ∙ b.mine

-- places that name the same slots as before
pub slots_same : (h : Heap) (held held' : ℕ → Option Slot) → ((x : ℕ) → held' x ≡ held x) → Slots h held → Slots h held'
slots_same h held held' same s = record {
  sound = s.sound;
  own = λ p q b e. s.own p q b (sym (same p) ∙ e);
  fits = λ k e l. record {
    place_in = (s.fits k e l).place_in;
    named = same e.place.0 ∙ (s.fits k e l).named;
    young = (s.fits k e l).young;
  };
}

-- with room, a push answers the free head
pub push_gives_lem : (h : Heap) (at g p : ℕ) → h.len < cap
    → push_sound h at g (record { 0 = p }) ≡ push_gives h.free (pushed_of h at g (record { 0 = p }))
unfolding push_sound
push_gives_lem h at g p room = rw (lt-ltb h.len cap room)

-- the slot that the place p names may change, and no other place's
module _ (h : Heap) (held held' : ℕ → Option Slot) (p : ℕ) (s : Slots h held) (there : (x : ℕ) → (x ≡ p → ⊥) → held' x ≡ held x) where
  -- an entry whose place is another stays as it is
  fits_other : (e : Entry) → Fits held e → (e.place.0 ≡ p → ⊥) → Fits held' e
  fits_other e f n = record { place_in = f.place_in; named = there e.place.0 n ∙ f.named; young = f.young }

  module _ (q : Slot) (b : p < cap) (at : held p ≡ Some q) (off : held' p ≡ None) where
    removed_own : (g : Heap) → ((k : ℕ) → (k ≡ q.0 → ⊥) → lookup g k ≡ lookup h k)
        → (x : ℕ) (t : Slot) → x < cap → held' x ≡ Some t → Stands g t.0 x
    removed_own g other x t c a =
        by-ref (ref_eq x p) (λ e. nothing_at (ap held' e ∙ off) a)
        (λ n.
        let o = s.own x t c (sym (there x n) ∙ a) in
        record {
          it = o.it;
          found = other t.0 (λ e. n (stands_one h t.0 q.0 x p o (s.own p q b at) e)) ∙ o.found;
          mine = o.mine;
        })

    removed_fits : (g : Heap) → lookup g q.0 ≡ none → ((k : ℕ) → (k ≡ q.0 → ⊥) → lookup g k ≡ lookup h k)
        → (k : ℕ) (e : Entry) → lookup g k ≡ some e → Fits held' e
    removed_fits g gone other k e l =
        by-ref (ref_eq k q.0) (λ y. absurd (none_some gone (ap (lookup g) (sym y) ∙ l)))
        (λ n.
        let was : lookup h k ≡ some e = sym (other k n) ∙ l in
        let f = s.fits k e was in
        fits_other e f
        (λ y. n
        (sym (lookup_some h (sound_slab h s.sound) k e was).3
        ∙ ap (λ (z : Slot). z.0) (at_same f.named (ap held y ∙ at)))))

    -- the place's entry is removed, and the place names no slot
    slots_removed : Slots (remove_sound h q).state held'
    slots_removed =
        let o = s.own p q b at in
        let r = remove_found h (sound_slab h s.sound) q o.it o.found in
        record {
          sound = remove_sound_lem h s.sound q;
          own = removed_own (remove_sound h q).state r.3;
          fits = removed_fits (remove_sound h q).state r.2 r.3;
        }

  -- the place drops what entry it has, and names no slot
  pub slots_dropped : p < cap → held' p ≡ None → Slots (dropped_of h (held p)) held'
  slots_dropped b off = go (held p) refl
    where
      go : (x : Option Slot) → held p ≡ x → Slots (dropped_of h x) held'
      go None e =
          slots_same h held held' (λ x. by-ref (ref_eq x p) (λ y. ap held' y ∙ off ∙ sym e ∙ ap held (sym y)) (there x)) s
      go (Some q) e = slots_removed q b e off

  module _ (at g : ℕ) (b : p < cap) (room : h.len < cap) (young : g < 2 ^ 30) (off : held p ≡ None) where
    abbrev new : Heap
    new = (pushed_of h at g (record { 0 = p })).heap

    pushed_own : held' p ≡ Some h.free → (x : ℕ) (t : Slot) → x < cap → held' x ≡ Some t → Stands new t.0 x
    pushed_own on x t c a =
        by-ref (ref_eq x p)
        (λ e. record {
          it = new_entry h at g (record { 0 = p });
          found =
              ap (λ (z : Slot). lookup new z.0) (at_same a (ap held' e ∙ on))
              ∙ push_new h (sound_slab h s.sound) at g (record { 0 = p }) room;
          mine = sym e;
        })
        (λ n.
        let o = s.own x t c (sym (there x n) ∙ a) in
        record {
          it = o.it;
          found =
              push_other h (sound_slab h s.sound) at g (record { 0 = p }) room t.0
              (λ e. none_some (free_none h (sound_slab h s.sound)) (ap (lookup h) (sym e) ∙ o.found))
              ∙ o.found;
          mine = o.mine;
        })

    new_fits : held' p ≡ Some h.free → (e : Entry) → new_entry h at g (record { 0 = p }) ≡ e → Fits held' e
    new_fits on e q = subst (Fits held') q (record { place_in = b; named = on; young = young })

    pushed_fits : held' p ≡ Some h.free → (k : ℕ) (e : Entry) → lookup new k ≡ some e → Fits held' e
    pushed_fits on k e l =
        by-ref (ref_eq k h.free.0)
        (λ y. new_fits on e (some_same (sym (push_new h (sound_slab h s.sound) at g (record { 0 = p }) room) ∙ ap (lookup new) (sym y) ∙ l)))
        (λ n.
        let f = s.fits k e (sym (push_other h (sound_slab h s.sound) at g (record { 0 = p }) room k n) ∙ l) in
        fits_other e f (λ y. nothing_at off (ap held (sym y) ∙ f.named)))

    -- the place, which names no slot, gets an entry, and names the slot that the push answers
    pub slots_pushed : held' p ≡ held_by (push_sound h at g (record { 0 = p })).answer → Slots (push_sound h at g (record { 0 = p })).state held'
    slots_pushed e =
        let on : held' p ≡ Some h.free = e ∙ ap (λ (o : Outcome Heap (Slot × ℕ)). held_by o.answer) (push_gives_lem h at g p room) in
        record {
          sound = push_sound_lem h s.sound at g (record { 0 = p });
          own = rw (push_gives_lem h at g p room) (pushed_own on);
          fits = rw (push_gives_lem h at g p room) (pushed_fits on);
        }

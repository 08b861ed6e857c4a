-- A touch keeps an open set sound: the timer's entry stays as it is, and the timer waits afterwards, in front of the list where it
-- did not wait before.
-- Assumes nothing.
use mathlib.Core.Path.{◌≡◌, refl, sym, ◌∙◌}
use mathlib.Core.Bool.{Bool, true, false}
use Prim.Native.Nat.{ℕ, ◌<◌}
use lib.ListN.{length}
use Rattle.std.specs.Prelude.{Option}
use Rattle.heap.specs.declared.Place.{Place}
use Rattle.theory.proofs.Stores.{sees}
use Rattle.heap.specs.Capacity.{cap}
use Rattle.word.specs.Rules.{invalid_in}
use Rattle.state.specs.declared.Life.{Life}
use Rattle.state.specs.declared.Life.TheVariants.{Free, Live, Cancelled, Retired}
use Rattle.state.specs.declared.Timer.{Timer}
use Rattle.state.specs.declared.Set.{Set}
use Rattle.state.specs.State.{no_timer, timer_at, is_waiting}
use Rattle.state.specs.Faults.{waits_at}
use Rattle.state.specs.Sound.{Sound}
use Rattle.moves.specs.Rules.{waiting_by, head_by, touched_of}
use Rattle.laws.proofs.Parts.OpenSlots.{Slots, slots_same}
use Rattle.laws.proofs.Parts.Lives.{Lives, lives_live, lives_cancelled}
use Rattle.laws.proofs.Parts.Change.{held_at, changed}
use Rattle.laws.proofs.Parts.OpenSet.{Open, sound_open, open_sound, open_changed}
use Rattle.laws.proofs.Parts.Ties.{Listed}
use Rattle.laws.proofs.Parts.ListChange.{link_waits, list_stays, waits_here, list_pushed}

-- the new life of a touched timer: live or cancelled, and not marked invalid
abbrev pub Unmarked : Life → Type 0
Unmarked Free = ⊥
Unmarked (Live w d) = invalid_in w ≡ false
Unmarked (Cancelled w) = invalid_in w ≡ false
Unmarked Retired = ⊥

-- the touched timer
abbrev touched_by : Bool → Timer → Option Place → Life → Timer
touched_by b t f l = record { life = l; waiting = waiting_by b t f; held = t.held; uses = t.uses }

-- it waits
touched_waiting : (b : Bool) (t : Timer) (f : Option Place) → is_waiting t.waiting ≡ b → is_waiting (waiting_by b t f) ≡ true
touched_waiting true t f e = e
touched_waiting false t f e = link_waits f

touched_lives : (l : Life) (t : Timer) → t.life ≡ l → Unmarked l → is_waiting t.waiting ≡ true → Lives t
touched_lives Free t e u w = absurd u
touched_lives (Live v d) t e u w = lives_live t v d e u
touched_lives (Cancelled v) t e u w = lives_cancelled t v e u w
touched_lives Retired t e u w = absurd u

module _ (s : Set) (p : ℕ) (l : Life) where
  -- the set after a touch, by whether the timer waited
  abbrev after : Bool → Set
  after b = changed s s.heap p (touched_by b (timer_at s p) s.first l) (head_by b p s.first)

  touch_slots : (b : Bool) → Slots s.heap (held_at s) → Slots s.heap (held_at (after b))
  touch_slots b =
      slots_same s.heap (held_at s) (held_at (after b))
      (λ x. sym (sees (λ (u : Timer). u.held) no_timer s.timers p (touched_by b (timer_at s p) s.first l) refl x))

  module _ (long : length s.timers ≡ cap) (c : p < cap) where
    touch_listed : (b : Bool) → is_waiting (timer_at s p).waiting ≡ b → Listed s → Listed (after b)
    touch_listed true e = list_stays s s.heap p (touched_by true (timer_at s p) s.first l) s.first refl refl
    touch_listed false e =
        list_pushed s s.heap p (touched_by false (timer_at s p) s.first l) (head_by false p s.first) long c e refl refl

    -- a touched timer waits
    pub touched_waits : waits_at (touched_of s p l) p ≡ true
    unfolding touched_of
    touched_waits =
        waits_here s s.heap p (touched_by (is_waiting (timer_at s p).waiting) (timer_at s p) s.first l)
        (head_by (is_waiting (timer_at s p).waiting) p s.first) long c
        ∙ touched_waiting (is_waiting (timer_at s p).waiting) (timer_at s p) s.first refl

  -- the parts of a sound set that is open are kept
  touched_open : Open s → p < cap → Unmarked l → Open (touched_of s p l)
  unfolding touched_of
  touched_open o c u = go (is_waiting (timer_at s p).waiting) refl
    where
      go : (b : Bool) → is_waiting (timer_at s p).waiting ≡ b → Open (after b)
      go b e =
          open_changed s s.heap p (touched_by b (timer_at s p) s.first l) (head_by b p s.first) o c (touch_slots b o.slots)
          (touched_lives l (touched_by b (timer_at s p) s.first l) refl u (touched_waiting b (timer_at s p) s.first e))
          (touch_listed o.timers_long c b e o.listed)

  -- a touch with a life that is not marked keeps a set that is open sound
  pub touched_sound : Sound s → s.closed ≡ false → p < cap → Unmarked l → Sound (touched_of s p l)
  touched_sound o c b u = open_sound (touched_of s p l) (touched_open (sound_open s o c) b u)

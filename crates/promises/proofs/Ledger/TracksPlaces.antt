-- How the places of a set stand to the ledger: how many handles of each were given out, and whose timer is cancelled and not drained. So
-- the ledger knows which places are taken, and an add, a reset, a cancel, a drain and an advance keep it so.
-- Assumes nothing.
use mathlib.Core.Path.{◌≡◌, refl, sym, ap, subst, ◌∙◌}
use mathlib.Core.Logic.{◌≢◌, by_cases}
use mathlib.Core.Bool.{Bool, true, false, ◌&&◌}
use mathlib.Core.Option.{some}
use mathlib.Core.List.{List}
use Prim.Native.Nat.{ℕ, suc, ◌<◌}
use native.Mathlib.Omega.{arith}
use native.Mathlib.Decide.{ℕ_discrete}
use lib.Dec.{ltb, eqb}
use lib.ListN.{length}
use Rattle.theory.proofs.Update.{upd_same, upd_other}
use Rattle.theory.proofs.Tests.{ref_lt, ref_eq, true_ref, false_ref, by-ref}
use Rattle.heap.specs.Capacity.{cap}
use Rattle.state.specs.declared.Life.{Life}
use Rattle.state.specs.declared.Life.TheVariants.{Live, Cancelled, Retired}
use Rattle.state.specs.declared.Timer.{Timer}
use Rattle.state.specs.declared.Set.{Set}
use Rattle.state.specs.declared.Handle.{Handle}
use Rattle.state.specs.State.{fresh_of, timer_at}
use Rattle.state.specs.Handles.{handle_discrete}
use Rattle.state.specs.Sound.{Sound}
use Rattle.moves.specs.Rules.{is_free, touched_of, lowest_free, drained_of, advanced_of}
use Rattle.timers.specs.declared.Timing.{Timing}
use Rattle.timers.specs.Calls.{live_at}
use Rattle.laws.specs.Words.{Words}
use Rattle.laws.specs.Rooms.{given_by, given_of, is_cancelled, InUses}
use Rattle.laws.proofs.AnyCall.Found.{lowest_free_lem, lowest_in}
use Rattle.laws.proofs.Handles.Naming.{live_told}
use Rattle.laws.proofs.Handles.ByHandle.{handle_at, touched_here, one_handle}
use Rattle.laws.proofs.Entries.EntryOfTouch.{touched_other}
use Rattle.laws.proofs.PlaceByPlace.Rooms as Rooms
use Rattle.promises.specs.Turns.{Line, Ledger, blank, begun, moved, ended, at, one_more}
use Rattle.promises.proofs.Ledger.Told.{told, swept}

-- whether the handle's timer is cancelled and not drained
abbrev pub leaves : Timer → ℕ → Bool
leaves t u = eqb t.uses u && is_cancelled t.life

abbrev pub leaving_at : Set → Handle → Bool
leaving_at s h = ltb h.place.0 cap && leaves (timer_at s h.place.0) h.uses

-- the places are as the ledger says
pub record Housed (s : Set) (L : Ledger) : Type 0 where
  pub counted : (p : ℕ) → p < cap → L.given p ≡ given_of (timer_at s p)
  pub left : (h : Handle) → (L.line h).leaving ≡ leaving_at s h
  pub in_uses : (p : ℕ) → p < cap → InUses (timer_at s p)

-- a timer with another use number is not the handle's
pub leaves_other : (t : Timer) (u : ℕ) → t.uses ≢ u → leaves t u ≡ false
leaves_other t u n = rw (false_ref (ref_eq t.uses u) n) refl

-- with this one it is
pub leaves_same : (t : Timer) (u : ℕ) → t.uses ≡ u → leaves t u ≡ is_cancelled t.life
leaves_same t u e = rw (true_ref (ref_eq t.uses u) e) refl

-- a handle whose place is in range
pub leaving_in : (s : Set) (h : Handle) → h.place.0 < cap → leaving_at s h ≡ leaves (timer_at s h.place.0) h.uses
leaving_in s h b = rw (true_ref (ref_lt h.place.0 cap) b) refl

-- where the timer is the same the handle leaves as it did
leaving_by : (s r : Set) (h : Handle) → leaves (timer_at r h.place.0) h.uses ≡ leaves (timer_at s h.place.0) h.uses → leaving_at r h ≡ leaving_at s h
leaving_by s r h e = ap (λ (b : Bool). ltb h.place.0 cap && b) e

-- where nobody is cancelled no handle leaves
none_leaving : (s : Set) → ((p : ℕ) → p < cap → is_cancelled (timer_at s p).life ≡ false) → (h : Handle) → false ≡ leaving_at s h
none_leaving s f h = by-ref (ref_lt h.place.0 cap)
    (λ b. sym (leaving_in s h b ∙ ap (λ (c : Bool). eqb (timer_at s h.place.0).uses h.uses && c) (f h.place.0 b) ∙ and_false (eqb (timer_at s h.place.0).uses h.uses)))
    (λ n. sym (rw (false_ref (ref_lt h.place.0 cap) n) refl))
  where
    and_false : (b : Bool) → b && false ≡ false
    and_false true = refl
    and_false false = refl

-- a touch of the timer that h names, which is then live or cancelled
module _ (s : Set) (L : Ledger) (o : Housed s L) (long : length s.timers ≡ cap) (h : Handle) (b : h.place.0 < cap)
    (u : (timer_at s h.place.0).uses ≡ h.uses) (l : Life) (f : is_free l ≡ false) (n : l ≢ Retired) where
  abbrev p : ℕ
  p = h.place.0

  abbrev r : Set
  r = touched_of s p l

  touched_uses : (timer_at r p).uses ≡ h.uses
  touched_uses = (touched_here s p l long b).0 ∙ u

  -- its own handle leaves where it is cancelled
  left_here : leaving_at r h ≡ is_cancelled l
  left_here = leaving_in r h b ∙ leaves_same (timer_at r p) h.uses touched_uses ∙ Rooms.touched_cancelled s p l long b

  -- every other handle leaves as it did
  left_there : (k : Handle) → k ≢ h → leaving_at r k ≡ leaving_at s k
  left_there k m = by_cases (ℕ_discrete k.place.0 p)
      (λ e.
      let c : (timer_at r k.place.0).uses ≢ k.uses = λ q. m (one_handle h k e (sym q ∙ ap (λ (x : ℕ). (timer_at r x).uses) e ∙ touched_uses)) in
      let d : (timer_at s k.place.0).uses ≢ k.uses = λ q. m (one_handle h k e (sym q ∙ ap (λ (x : ℕ). (timer_at s x).uses) e ∙ u)) in
      leaving_by s r k (leaves_other (timer_at r k.place.0) k.uses c ∙ sym (leaves_other (timer_at s k.place.0) k.uses d)))
      (λ d. leaving_by s r k (ap (λ (t : Timer). leaves t k.uses) (touched_other s p l k.place.0 d)))

  given_here : given_of (timer_at r p) ≡ suc h.uses
  given_here = Rooms.touched_given s p l long b ∙ rw f (ap suc u)

  -- a ledger that has the touched handle's line rewritten, and its place's count where that is new
  touched_housed : (M : Ledger) → M.given p ≡ suc h.uses → ((x : ℕ) → x ≢ p → M.given x ≡ L.given x)
      → (M.line h).leaving ≡ is_cancelled l → ((k : Handle) → k ≢ h → (M.line k).leaving ≡ (L.line k).leaving) → Housed r M
  touched_housed M g others c rest = record {
    counted = λ x i. by_cases (ℕ_discrete x p)
        (λ e. subst (λ (y : ℕ). M.given y ≡ given_of (timer_at r y)) (sym e) (g ∙ sym given_here))
        (λ d. others x d ∙ o.counted x i ∙ ap given_of (sym (touched_other s p l x d)));
    left = λ k. by_cases (handle_discrete k h)
        (λ e. subst (λ (y : Handle). (M.line y).leaving ≡ leaving_at r y) (sym e) (c ∙ sym left_here))
        (λ d. rest k d ∙ o.left k ∙ sym (left_there k d));
    in_uses = λ x i. by_cases (ℕ_discrete x p)
        (λ e. subst (λ (y : ℕ). InUses (timer_at r y)) (sym e) (Rooms.touched_in_uses s p l long b n (o.in_uses p b)))
        (λ d. subst InUses (sym (touched_other s p l x d)) (o.in_uses x i));
  }

  -- the line of the handle rewritten, which was given out
  at_housed : (g : Line → Line) → L.given p ≡ suc h.uses → (g (L.line h)).leaving ≡ is_cancelled l → Housed r (at h g L)
  at_housed g e c =
      touched_housed (at h g L) e (λ x d. refl) (ap (λ (x : Line). x.leaving) (upd_same handle_discrete L.line h (g (L.line h))) ∙ c)
      (λ k d. ap (λ (x : Line). x.leaving) (upd_other handle_discrete L.line h (g (L.line h)) k d))

  -- the handle given out by an add
  more_housed : (d : ℕ) → L.given p ≡ h.uses → is_cancelled l ≡ false → Housed r (one_more p (at h (begun d) L))
  more_housed d e c =
      touched_housed (one_more p (at h (begun d) L)) (upd_same ℕ_discrete L.given p (suc (L.given p)) ∙ ap suc e)
      (λ x m. upd_other ℕ_discrete L.given p (suc (L.given p)) x m)
      (ap (λ (x : Line). x.leaving) (upd_same handle_discrete L.line h (begun d (L.line h))) ∙ sym c)
      (λ k m. ap (λ (x : Line). x.leaving) (upd_other handle_discrete L.line h (begun d (L.line h)) k m))

module _ (s : Set) (L : Ledger) (o : Housed s L) (sound : Sound s) where
  -- an add
  pub add_housed : (q d : ℕ) → lowest_free s ≡ some q → Housed (touched_of s q (Live 0 d)) (one_more q (at (handle_at s q) (begun d) L))
  add_housed q d e =
      more_housed s L o sound.timers_long (handle_at s q) (lowest_in s q e) refl (Live 0 d) refl (λ z. let y : ◌≡◌ {A = ℕ} 0 1 = cc in omega arith) d
      (o.counted q (lowest_in s q e) ∙ ap (λ (x : Life). given_by x (timer_at s q).uses) (lowest_free_lem s q e)) refl

  module _ (h : Handle) (t : Timing) (e : live_at s h ≡ some t) where
    -- the live handle was the last of its place that was given out, and is not leaving
    live_counted : L.given h.place.0 ≡ suc h.uses
    live_counted =
        let k = live_told s h t e in
        o.counted h.place.0 k.in_range ∙ rw k.is_live (ap suc k.same_uses)

    live_stays : (L.line h).leaving ≡ false
    live_stays =
        let k = live_told s h t e in
        o.left h ∙ leaving_in s h k.in_range ∙ leaves_same (timer_at s h.place.0) h.uses k.same_uses ∙ ap is_cancelled k.is_live

    -- a reset, by whatever call
    pub reset_housed : (w d : ℕ) → Housed (touched_of s h.place.0 (Live w d)) (at h (moved d) L)
    reset_housed w d =
        let k = live_told s h t e in
        at_housed s L o sound.timers_long h k.in_range k.same_uses (Live w d) refl (λ z. let y : ◌≡◌ {A = ℕ} 0 1 = cc in omega arith) (moved d) live_counted live_stays

    -- a cancel
    pub cancel_housed : (w : ℕ) → Housed (touched_of s h.place.0 (Cancelled w)) (at h ended L)
    cancel_housed w =
        let k = live_told s h t e in
        at_housed s L o sound.timers_long h k.in_range k.same_uses (Cancelled w) refl (λ z. let y : ◌≡◌ {A = ℕ} 0 1 = cc in omega arith) ended live_counted refl

  -- a drain
  pub drain_housed : s.closed ≡ false → Words s → Housed (drained_of s) (swept L)
  drain_housed c words = record {
    counted = λ p b. o.counted p b ∙ sym (Rooms.drained_given s p);
    left = none_leaving (drained_of s) (Rooms.drained_none_cancelled s sound c words);
    in_uses = λ p b. Rooms.drained_in_uses s p (o.in_uses p b);
  }

  -- an advance, whatever it reports
  pub advance_housed : (N : ℕ) (l : List ℕ) (R : List Handle) → Housed (advanced_of s N l).set (told R L)
  advance_housed N l R = record {
    counted = λ p b. o.counted p b ∙ sym (Rooms.advanced_given s N l p);
    left = λ h. o.left h ∙ sym (leaving_by s (advanced_of s N l).set h
        (rw (Rooms.advanced_uses s N l h.place.0, Rooms.advanced_cancelled s N l h.place.0) refl));
    in_uses = λ p b. Rooms.advanced_in_uses s N l p (o.in_uses p b);
  }

-- the fresh set
pub fresh_housed : Housed fresh_of blank
fresh_housed = record {
  counted = λ p b. sym (Rooms.fresh_given p b);
  left = none_leaving fresh_of Rooms.fresh_cancelled;
  in_uses = Rooms.fresh_in_uses;
}

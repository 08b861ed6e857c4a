-- What the clauses of a set's timers and of its list tell: of every place, and of every place that is met from the list's head on.
-- Assumes nothing.
use mathlib.Core.Path.{◌≡◌, refl, sym, ap, subst, ◌∙◌}
use mathlib.Core.Bool.{Bool, true, false, not}
use mathlib.Core.Option.{none, some}
use mathlib.Core.List.{[]}
use Prim.Native.Nat.{ℕ, suc, ◌<◌}
use native.Mathlib.Omega.{arith}
use lib.Dec.{ltb, eqb}
use lib.ListN.{length, get_or-eq_default}
use borrow.Author.Tests.{ltb-true, lt-ltb}
use Rattle.std.specs.Prelude.{Option, Some, None}
use Rattle.heap.specs.declared.Place.{Place}
use Rattle.theory.specs.Tests.{Ref}
use Rattle.theory.specs.Counting.{Mem, Lists}
use Rattle.theory.specs.Chain.{nodes, Chain, chain_okb}
use Rattle.theory.proofs.Tests.{ref_lt, ref_eq, ref_map, by-ref, none_some, and_left, and_right}
use Rattle.theory.proofs.Counting.{count_le}
use Rattle.theory.proofs.Pigeonhole.{lists_length}
use Rattle.theory.proofs.ChainTest.{ok_lists, lists_ok}
use Rattle.heap.specs.Capacity.{cap}
use Rattle.word.specs.Rules.{invalid_in}
use Rattle.state.specs.declared.Life.{Life}
use Rattle.state.specs.declared.Life.TheVariants.{Free, Live, Cancelled, Retired}
use Rattle.state.specs.declared.Timer.{Timer}
use Rattle.state.specs.declared.Set.{Set}
use Rattle.state.specs.State.{no_timer, timer_at, is_waiting, next_in, head_of}
use Rattle.state.specs.Faults.{waits_at, after_at}
use Rattle.state.proofs.PlaceTest.{ref_self}
use Rattle.promises.specs.Clauses.{each, element, there, times, listed, waiters_listed, only_waiters, listed_once, live_word, cancelled_word, live_unmarked, cancelled_unmarked, closed_list, none_listed, cancelled_listed}
use Rattle.promises.proofs.ByClause.ClauseLists.{ref_all, element_in, element_out, in_element, ref_some, ref_any, ref_empty, ref_off, ref_open, ref_shut, ref_mem, once_distinct, ref_members, nodes_same, nodes_none, nodes_some, chain_met, met_chain}

-- a place that waits is a place of the set
pub below : (s : Set) (p : ℕ) → waits_at s p ≡ true → p < cap
unfolding waits_at
below s p e = ltb-true p cap (and_left _ _ e)

-- it is marked waiting, and a place that is marked waits
pub waits_marked : (s : Set) (p : ℕ) → waits_at s p ≡ true → is_waiting (timer_at s p).waiting ≡ true
unfolding waits_at
waits_marked s p e = and_right (ltb p cap) _ e

pub marked_waits : (s : Set) (p : ℕ) → p < cap → is_waiting (timer_at s p).waiting ≡ true → waits_at s p ≡ true
unfolding waits_at
marked_waits s p l e = rw (lt-ltb p cap l) e

-- the timer whose word it is
pub live_word_lem : (x : Life) (w : ℕ) → live_word x ≡ some w → (d : ℕ) × (x ≡ Live w d)
live_word_lem Free w e = absurd (none_some refl e)
live_word_lem (Live v d) w e = let z : v ≡ w = cc in (d, ap (λ (u : ℕ). Live u d) z)
live_word_lem (Cancelled v) w e = absurd (none_some refl e)
live_word_lem Retired w e = absurd (none_some refl e)

pub cancelled_word_lem : (x : Life) (w : ℕ) → cancelled_word x ≡ some w → x ≡ Cancelled w
cancelled_word_lem Free w e = absurd (none_some refl e)
cancelled_word_lem (Live v d) w e = absurd (none_some refl e)
cancelled_word_lem (Cancelled v) w e = let z : v ≡ w = cc in ap Cancelled z
cancelled_word_lem Retired w e = absurd (none_some refl e)

module _ (s : Set) (n : length s.timers ≡ cap) where
  -- a timer is there exactly at a place of the set
  pub timer_in_lem : (p : ℕ) → p < cap → element s.timers p ≡ some (timer_at s p)
  timer_in_lem p l = element_in no_timer s.timers p (omega (arith, n))

  pub in_timer : (p : ℕ) (t : Timer) → element s.timers p ≡ some t → (p < cap) × (timer_at s p ≡ t)
  in_timer p t e = let r = in_element no_timer s.timers p t e in (omega (arith, n, r.0), r.1)

  -- every timer passes
  pub ref_timers : (P : ℕ → Type 0) (f : ℕ → Timer → Bool) → ((p : ℕ) → p < cap → Ref (P p) (f p (timer_at s p)))
      → Ref ((p : ℕ) → p < cap → P p) (each 0 f s.timers)
  ref_timers P f r = ref_all no_timer P f s.timers cap n r

  -- who comes after a place is the same for the clauses and for the test: past the places nobody
  after_same : (p : ℕ) → there none (λ t. next_in t.waiting) (element s.timers p) ≡ after_at s p
  unfolding after_at
  after_same p =
      by-ref (ref_lt p cap) (λ l. ap (there none (λ t. next_in t.waiting)) (timer_in_lem p l))
      (λ l.
      ap (there none (λ t. next_in t.waiting)) (element_out s.timers p (omega (arith, n)))
      ∙ sym (ap (λ (t : Timer). next_in t.waiting) (get_or-eq_default s.timers no_timer (omega (arith, n)))))

  -- so the same places are met from the head on
  listed_same : listed s ≡ nodes (after_at s) (suc cap) (head_of s.first)
  listed_same = nodes_same _ (after_at s) after_same (suc cap) (head_of s.first)

  -- 31: who is marked waiting is in the list
  pub ref_waiters : Ref ((p : ℕ) → p < cap → is_waiting (timer_at s p).waiting ≡ true → Mem p (listed s)) (waiters_listed s)
  ref_waiters = ref_timers _ _ (λ p l. ref_shut (is_waiting (timer_at s p).waiting) (ref_mem p (listed s)))

  -- 32: who is in the list waits
  pub ref_only : Ref ((p : ℕ) → Mem p (listed s) → waits_at s p ≡ true) (only_waiters s)
  ref_only =
      ref_members _ (λ p. there false (λ t. is_waiting t.waiting) (element s.timers p)) (listed s) 0
      (λ p.
      ref_map (ref_some (λ t. is_waiting t.waiting ≡ true) (λ t. is_waiting t.waiting) (element s.timers p) (λ t. ref_self (is_waiting t.waiting)))
      (λ t.
      let r = in_timer p t.0 t.1 in
      marked_waits s p r.0 (ap (λ (x : Timer). is_waiting x.waiting) r.1 ∙ t.2))
      (λ e. (timer_at s p, timer_in_lem p (below s p e), waits_marked s p e)))

  -- 33: nobody is in the list twice
  pub ref_once : Ref ((p : ℕ) → Mem p (listed s) → times p (listed s) ≡ 1) (listed_once s)
  ref_once = ref_members _ (λ p. eqb (times p (listed s)) 1) (listed s) 0 (λ p. ref_eq (times p (listed s)) 1)

  -- the three together are the test of the list
  pub listed_ok : ((p : ℕ) → p < cap → is_waiting (timer_at s p).waiting ≡ true → Mem p (listed s))
      → ((p : ℕ) → Mem p (listed s) → waits_at s p ≡ true) → ((p : ℕ) → Mem p (listed s) → times p (listed s) ≡ 1)
      → chain_okb (waits_at s) (after_at s) cap (head_of s.first) ≡ true
  listed_ok w o d =
      let r : Lists (waits_at s) cap (listed s) =
      record {
        once = once_distinct (listed s) d;
        sound = λ p i. (below s p (o p i), o p i);
        whole = λ p l e. w p l (waits_marked s p e);
      } in
      let e = lists_length (listed s) (waits_at s) cap r in
      let c = count_le (waits_at s) cap in
      let z = ap length listed_same in
      lists_ok (waits_at s) (after_at s) cap (head_of s.first) (listed s)
      (subst (Chain (waits_at s) (after_at s) (head_of s.first)) (sym listed_same)
      (met_chain (waits_at s) (after_at s) (suc cap) (head_of s.first) (omega arith) (λ p i. o p (subst (Mem p) (sym listed_same) i)))) r

  -- and where that test says yes the places met are those that wait, each once
  pub ok_listed : chain_okb (waits_at s) (after_at s) cap (head_of s.first) ≡ true → Lists (waits_at s) cap (listed s)
  ok_listed t =
      let r = ok_lists (waits_at s) (after_at s) cap (below s) (head_of s.first) t in
      let e = lists_length r.0 (waits_at s) cap r.2 in
      let c = count_le (waits_at s) cap in
      subst (Lists (waits_at s) cap) (sym (listed_same ∙ chain_met (waits_at s) (after_at s) r.0 (head_of s.first) (suc cap) r.1 (omega arith))) r.2

  -- 41, 42: no word of a live timer of an open set is marked invalid, and none of a cancelled one
  pub ref_live : Ref (s.closed ≡ false → (p : ℕ) → p < cap → (w : ℕ) → live_word (timer_at s p).life ≡ some w → invalid_in w ≡ false) (live_unmarked s)
  ref_live =
      ref_open s.closed
      (ref_timers _ _ (λ p l. ref_any (λ w. invalid_in w ≡ false) (λ w. not (invalid_in w)) (live_word (timer_at s p).life) (λ w. ref_off (invalid_in w))))

  pub ref_cancelled : Ref
      (s.closed ≡ false → (p : ℕ) → p < cap → (w : ℕ) → cancelled_word (timer_at s p).life ≡ some w → invalid_in w ≡ false) (cancelled_unmarked s)
  ref_cancelled =
      ref_open s.closed
      (ref_timers _ _ (λ p l. ref_any (λ w. invalid_in w ≡ false) (λ w. not (invalid_in w)) (cancelled_word (timer_at s p).life) (λ w. ref_off (invalid_in w))))

  -- 43: the list of a closed set is empty
  pub ref_closed_list : Ref (s.closed ≡ true → s.first ≡ None) (closed_list s)
  ref_closed_list =
      ref_shut s.closed
      (ref_map (ref_empty (listed s)) (λ e. go s.first (sym listed_same ∙ e))
      (λ e. listed_same ∙ ap (λ (f : Option Place). nodes (after_at s) (suc cap) (head_of f)) e ∙ nodes_none (after_at s) (suc cap)))
    where
      go : (f : Option Place) → nodes (after_at s) (suc cap) (head_of f) ≡ [] → f ≡ None
      go None e = refl
      go (Some p) e = absurd (nodes_some (after_at s) cap p.0 e)

  -- 53, 54: no place of this kind is in the list
  pub ref_none_listed : (kind : Life → Bool)
      → Ref ((p : ℕ) → Mem p (listed s) → (t : Timer) → element s.timers p ≡ some t → kind t.life ≡ false) (none_listed kind s)
  ref_none_listed kind =
      ref_members _ (λ p. there true (λ t. not (kind t.life)) (element s.timers p)) (listed s) 0
      (λ p. ref_any (λ t. kind t.life ≡ false) (λ t. not (kind t.life)) (element s.timers p) (λ t. ref_off (kind t.life)))

  -- 61: a cancelled timer of an open set is in the list
  pub ref_cancelled_listed : Ref
      (s.closed ≡ false → (p : ℕ) → p < cap → (w : ℕ) → cancelled_word (timer_at s p).life ≡ some w → Mem p (listed s)) (cancelled_listed s)
  ref_cancelled_listed =
      let l = listed s in
      ref_open s.closed
      (ref_timers _ _ (λ p b. ref_any (λ w. Mem p l) (λ w. ltb 0 (times p l)) (cancelled_word (timer_at s p).life) (λ w. ref_mem p l)))

-- What a call leaves of an image and how it answers, by the status alone: what is refused leaves the image, and all else is written
-- over it.
-- Assumes nothing.
use mathlib.Core.Path.{◌≡◌, refl, sym, ap, subst, ◌∙◌}
use mathlib.Core.Option.{none}
use mathlib.Core.List.{List}
use Prim.Native.Nat.{ℕ, ◌+◌, ◌*◌, ◌%◌}
use Rattle.std.specs.Prelude.{Some, None, Result, Ok, Err, ⊤}
use Rattle.refusals.specs.declared.fault.Fault.{Fault}
use Rattle.refusals.specs.declared.Refusal.{Refusal}
use Rattle.refusals.specs.declared.Refusal.TheVariants.{Unsound, Closed, DeadHandle, Full, ShortList, TimeOverflow, CounterBehind, WrongMode, ZeroPeriod, NotFired, VacantSlot, BadRecord, BadImage}
use Rattle.refusals.specs.Numbers.{number_of}
use Rattle.refusals.specs.Faults.{kind_of, where_of}
use Rattle.refusals.specs.declared.outcome.Outcome as Code
use Rattle.refusals.specs.Answer.{Answer, accepted, refused, unsound, refuse, Outcome, Nothing, done, kept}
use Rattle.refusals.proofs.Refusing.{any_refusal}
use Rattle.state.specs.declared.Handle.{Handle}
use Rattle.state.specs.declared.Set.{Set}
use Rattle.state.specs.State.{fresh_of}
use Rattle.timers.specs.declared.Reply.{Reply}
use Rattle.timers.specs.declared.Reply.TheVariants as R
use Rattle.timers.specs.Values.{Value, handle_in, reports_in}
use Rattle.timers.specs.Calls.{said, told}
use Rattle.image.specs.Image.{image_of}
use Rattle.image.specs.Calls.{told_reading, read_of, write_of}
use Rattle.host.specs.Numbers.{status_of}
use Rattle.host.specs.Calls.{on_image, pictured}
use Rattle.host.specs.Seen.{word_or, count_or, wake_in}
use Rattle.host.specs.Promises.{Freshens, status_in, Leaves, end_of, given}
use Rattle.host.proofs.Calling.{read_refused, read_done, fresh_written, ends}

-- a refusal has one status, of whatever call it is
pub one_status : (w : Refusal) → status_of {A = Nothing} (refuse w) ≡ status_of {A = Value} (refuse w)
one_status w = any_refusal (status_of {A = Nothing}) (status_of {A = Value}) (λ n. refl) (λ x. refl) w

-- a refusal other than 1 has its number for a status
pub plain_status : (w : Refusal) → ((f : Fault) → w ≡ Unsound f → ⊥) → number_of w ≡ status_of {A = Nothing} (refuse w)
plain_status (Unsound f) k = absurd (k f refl)
plain_status Closed k = refl
plain_status DeadHandle k = refl
plain_status Full k = refl
plain_status ShortList k = refl
plain_status TimeOverflow k = refl
plain_status CounterBehind k = refl
plain_status WrongMode k = refl
plain_status ZeroPeriod k = refl
plain_status NotFired k = refl
plain_status VacantSlot k = refl
plain_status BadRecord k = refl
plain_status BadImage k = refl

-- 1 has the fault beside its number
pub fault_status : (w : Refusal) (f : Fault) (n k a : ℕ) → w ≡ Unsound f → n ≡ number_of w → k ≡ kind_of f → a ≡ where_of f
    → n + k * 256 + a % 4294967296 * 65536 ≡ status_of {A = Nothing} (refuse w)
fault_status w f n k a e p q r = rw (p, q, r, e)

-- the status of an answer
pub answer_status : (r : Result Reply Refusal) → status_in r ≡ status_of (said r)
answer_status (Ok y) = refl
answer_status (Err w) = one_status w

-- what is told of a refused call
pub told_refused : {S : Type 0} {o : Outcome S Value} (k : S) (w : Refusal) {n : ℕ} → o ≡ kept k (refuse w) → n ≡ status_of {A = Nothing} (refuse w)
    → n ≡ status_of o.answer
told_refused {S} {o} k w e g = g ∙ one_status w ∙ sym (ap (λ (x : Outcome S Value). status_of x.answer) e)

-- it has no handle, no count and no wake
pub no_handle_lem : (w : Refusal) (n : ℕ) → n ≡ word_or n (handle_in (refuse w))
no_handle_lem w n = any_refusal (λ (a : Answer Value). n) (λ a. word_or n (handle_in a)) (λ m. refl) (λ x. refl) w

pub no_count : (w : Refusal) (n : ℕ) → n ≡ count_or n (refuse w)
no_count w n = any_refusal (λ (a : Answer Value). n) (count_or n) (λ m. refl) (λ x. refl) w

pub no_wake : (w : Refusal) → none ≡ wake_in (refuse w)
no_wake w = any_refusal (λ (a : Answer Value). none) wake_in (λ m. refl) (λ x. refl) w

-- what answers of another kind do not have
pub not_added : (r : Result Reply Refusal) (n : ℕ) → ((h : Handle) → r ≡ Ok (R.Added h) → ⊥) → n ≡ word_or n (handle_in (said r))
not_added (Ok (R.Added h)) n k = absurd (k h refl)
not_added (Ok R.Done) n k = refl
not_added (Ok (R.Ran m p)) n k = refl
not_added (Ok (R.Wake t)) n k = refl
not_added (Ok (R.Found p)) n k = refl
not_added (Ok (R.Ticked t)) n k = refl
not_added (Err w) n k = no_handle_lem w n

pub not_ran : (r : Result Reply Refusal) (n : ℕ) → ((m p : ℕ) → r ≡ Ok (R.Ran m p) → ⊥) → (n ≡ count_or n (said r)) × (0 ≡ reports_in (said r))
not_ran (Ok (R.Added h)) n k = (refl, refl)
not_ran (Ok R.Done) n k = (refl, refl)
not_ran (Ok (R.Ran m p)) n k = absurd (k m p refl)
not_ran (Ok (R.Wake t)) n k = (refl, refl)
not_ran (Ok (R.Found p)) n k = (refl, refl)
not_ran (Ok (R.Ticked t)) n k = (refl, refl)
not_ran (Err w) n k = (no_count w n, any_refusal (λ (a : Answer Value). 0) reports_in (λ m. refl) (λ x. refl) w)

pub not_woken : (r : Result Reply Refusal) → ((t : ℕ) → r ≡ Ok (R.Wake (Some t)) → ⊥) → (r ≡ Ok (R.Wake None) → ⊥) → ((w : Refusal) → r ≡ Err w → ⊥)
    → (none ≡ wake_in (said r)) × (0 ≡ status_of (said r))
not_woken (Ok (R.Added h)) a b c = (refl, refl)
not_woken (Ok R.Done) a b c = (refl, refl)
not_woken (Ok (R.Ran m p)) a b c = (refl, refl)
not_woken (Ok (R.Wake (Some t))) a b c = absurd (a t refl)
not_woken (Ok (R.Wake None)) a b c = absurd (b refl)
not_woken (Ok (R.Found p)) a b c = (refl, refl)
not_woken (Ok (R.Ticked t)) a b c = (refl, refl)
not_woken (Err w) a b c = absurd (c w refl)

-- what is written is left, and answered
pub leaves : {A : Type 0} (o : Outcome (List ℕ) A) (b' : List ℕ) (a : Answer A) (r : ℕ) → kept b' a ≡ o → r ≡ status_of a → Leaves o b' r
leaves {A} o b' a r e f = record {
  image = ap (λ (x : Outcome (List ℕ) A). x.state) e;
  status = f ∙ ap (λ (x : Outcome (List ℕ) A). status_of x.answer) e;
}

given_status : (v : Value) (a : Answer Nothing) → status_of a ≡ status_of (given v a)
given_status v (accepted u) = refl
given_status v (refused n) = refl
given_status v (unsound x) = refl

module _ (b : List ℕ) (s : Set) where
  -- a refused call leaves the image
  pub refused_ends : {r : ℕ} (y : Result Reply Refusal) (w : Refusal) → y ≡ Err w → r ≡ status_of {A = Nothing} (refuse w) → Leaves (end_of b (said y) s) b r
  refused_ends {r} y w e f =
      subst (λ (x : Result Reply Refusal). Leaves (end_of b (said x) s) b r) (sym e)
      (leaves (end_of b (refuse w) s) b (refuse w) r (sym (any_refusal (λ (a : Answer Value). end_of b a s) (kept b) (λ n. refl) (λ x. refl) w))
      (f ∙ one_status w))

  -- the set of any other is written
  pub done_ends : {b' : List ℕ} {r : ℕ} (y : Result Reply Refusal) (v : Reply) → y ≡ Ok v → Leaves (write_of s b) b' r → Leaves (end_of b (said y) s) b' r
  done_ends {b'} {r} y v e l =
      subst (λ (x : Result Reply Refusal). Leaves (end_of b (said x) s) b' r) (sym e)
      (record { image = l.image; status = l.status ∙ given_status _ (write_of s b).answer })

-- what is left of an image b by a call f on its set, and told
abbrev pub settled : List ℕ → (Set → Outcome Set Value) → Outcome (List ℕ) Value
settled b f = on_image b b (λ s. pictured b (f s))

pub record Told (o : Outcome (List ℕ) Value) (b' : List ℕ) (n : ℕ) (a : Answer Value) : Type 0 where
  pub image : b' ≡ o.state
  pub status : n ≡ status_of o.answer
  pub answer : o.answer ≡ a

module _ (b : List ℕ) (f : Set → Outcome Set Value) (r : Code.Outcome Set ⊤) (e : told_reading r ≡ read_of b) where
  pub set_refused : {n : ℕ} (w : Refusal) → r.answer ≡ Err w → n ≡ status_of {A = Nothing} (refuse w)
      → Told (settled b f) b n (refuse w)
  set_refused w g s =
      let q = read_refused b b (λ s. pictured b (f s)) r e w g in
      record {
        image = sym (ap (λ (o : Outcome (List ℕ) Value). o.state) q);
        status = told_refused b w q s;
        answer = ap (λ (o : Outcome (List ℕ) Value). o.answer) q;
      }

  pub set_done : {b' : List ℕ} {n : ℕ} {u : ⊤} (a : Code.Outcome Set Reply) → r.answer ≡ Ok u → told a ≡ f r.state
      → write_of (f r.state).state b ≡ done (image_of (f r.state).state) → Leaves (end_of b (said a.answer) a.state) b' n
      → Told (settled b f) b' n (said a.answer)
  set_done {b'} {n} a g t w l =
      let q = sym (read_done b b (λ s. pictured b (f s)) r e g) in
      let p = ends b (f r.state) w (subst (λ (o : Outcome Set Value). Leaves (end_of b o.answer o.state) b' n) t l) in
      record {
        image = p.0 ∙ ap (λ (o : Outcome (List ℕ) Value). o.state) q;
        status = p.1 ∙ ap (λ (o : Outcome (List ℕ) Value). status_of o.answer) q;
        answer = sym (ap (λ (o : Outcome Set Value). o.answer) t ∙ ap (λ (o : Outcome (List ℕ) Value). o.answer) q);
      }

-- the fresh set over any bytes
pub freshens : (b : List ℕ) (s : Set) {b' : List ℕ} {n : ℕ} → s ≡ fresh_of → Leaves (write_of s b) b' n → Freshens b b' n
freshens b s {b'} {n} e l =
    let m = subst (λ (o : Outcome (List ℕ) Nothing). Leaves o b' n) (ap (λ (x : Set). write_of x b) e ∙ fresh_written b) l in
    record { image = m.image; status = m.status }

-- A turn on an image as the turn with a list that `lent_on` makes: what it leaves of the list, and what is seen of it in the report
-- bytes.
-- Assumes nothing.
use mathlib.Core.Path.{◌≡◌, refl, sym, ap, subst, ◌∙◌}
use mathlib.Core.Bool.{true}
use mathlib.Core.List.{List}
use Prim.Native.Nat.{ℕ, ◌*◌, ◌/◌, ◌≤◌, min}
use native.Mathlib.Omega.{arith}
use lib.ListN.{length, take, replicate}
use Rattle.std.specs.Prelude.{Result, Ok}
use Rattle.refusals.specs.declared.Refusal.{Refusal}
use Rattle.refusals.specs.Answer.{Answer, accepted, refused, unsound, is_accepted, Outcome, Nothing}
use Rattle.digits.specs.Digits.{Bytes}
use Rattle.heap.specs.Capacity.{cap}
use Rattle.state.specs.declared.Set.{Set}
use Rattle.timers.specs.declared.Reply.{Reply}
use Rattle.timers.specs.declared.Reply.TheVariants as R
use Rattle.timers.specs.Values.{Value, reports_in}
use Rattle.timers.specs.Calls.{turn_of, said}
use Rattle.laws.proofs.Widths.TurnList.{Lists, unreported, turn_list}
use Rattle.image.specs.Calls.{read_of}
use Rattle.image.proofs.Accepted.{accepted_set, accepted_image}
use Rattle.host.specs.Numbers.{status_of, list_in, reported_in}
use Rattle.host.specs.Calls.{on_reading, on_image, Board, lending, lent_on}
use Rattle.host.specs.Seen.{count_or}
use Rattle.host.specs.Promises.{left, status_in, Turned, Turns}
use Rattle.host.proofs.Settled.{answer_status}
use Rattle.host.proofs.Turning.{reports_of, by_list, room_within}

module _ (b : List ℕ) (N : ℕ) where
  -- no more are reported than the list has words, and it is as long as it was
  lent_lists : Bytes b → (l : List ℕ) → Lists (reports_in (lent_on b N l).answer) l (lent_on b N l).state.1
  unfolding lent_on on_image
  lent_lists y l = go (read_of b).answer refl
    where
      go : (a : Answer Nothing) → (read_of b).answer ≡ a
          → let o = on_reading (b, l) (λ s. lending b (turn_of s N l)) (read_of b).state a in Lists (reports_in o.answer) l o.state.1
      go (accepted u) e =
          let t : is_accepted (read_of b).answer ≡ true = ap is_accepted e in
          let p = accepted_image b y t in
          let s = ap (λ (o : Outcome Set Nothing). o.state) (accepted_set b y t) in
          subst (λ (r : Set). Lists (reports_in (turn_of r N l).answer) l (turn_of r N l).state.list) (sym s) (turn_list _ p.sound p.widths N l)
      go (refused n) e = unreported (refused n) l refl
      go (unsound x) e = unreported (unsound x) l refl

  module _ (out : List ℕ) (y : Bytes b) {b' l' : List ℕ} (r : Result Reply Refusal) {m : ℕ} (i : m ≡ min (length out / 8) cap)
      (e : left (b', l') r ≡ lent_on b N (take m (replicate cap 0))) where
    -- so many words as the report bytes have room for
    pub lent_within : (n p : ℕ) → r ≡ Ok (R.Ran n p) → (n ≤ length l') × (n * 8 ≤ length out)
    lent_within n p z =
        let w : Lists n (take m (replicate cap 0)) l' =
        subst (λ (x : Result Reply Refusal). Lists (reports_in (said x)) (take m (replicate cap 0)) l') z
        (subst (λ (o : Outcome (List ℕ × List ℕ) Value). Lists (reports_in o.answer) (take m (replicate cap 0)) o.state.1) (sym e)
        (lent_lists y (take m (replicate cap 0))))
        in
        (omega (arith, w.within, w.long), room_within w i)

    -- what is seen of it
    pub lent_turned : {q k n : ℕ} {out' : List ℕ} → out' ≡ reported_in out (reports_in (said r)) l' → k ≡ count_or q (said r)
        → n ≡ status_in r → Turns b N out q b' out' k n
    lent_turned {q} f g h =
        let s = ap (reports_of out) (e ∙ ap (λ (k : ℕ). lent_on b N (take k (replicate cap 0))) i) ∙ by_list b N out in
        record {
          image = ap (λ (o : Outcome Board Value). o.state.image) s;
          reports = f ∙ ap (λ (o : Outcome Board Value). o.state.reports) s;
          reported = g ∙ ap (λ (o : Outcome Board Value). count_or q o.answer) s;
          status = h ∙ answer_status r ∙ ap (λ (o : Outcome Board Value). status_of o.answer) s;
        }

  -- the turn of an export leaves what it leaves of such a list, and answers as it does
  pub turned_lent : (out : List ℕ) {b' out' : List ℕ} (r : Result Reply Refusal) → Turned b N out b' out' r
      → left (b', (lent_on b N (list_in (length out))).state.1) r ≡ lent_on b N (list_in (length out))
  turned_lent out {b'} {out'} r v =
      let o = lent_on b N (list_in (length out)) in
      let s : left (record { image = b'; reports = out' }) r ≡ reports_of out o = v ∙ sym (by_list b N out) in
      λ k. record { state = (ap (λ (x : Outcome Board Value). x.state.image) s k, o.state.1); answer = ap (λ (x : Outcome Board Value). x.answer) s k }

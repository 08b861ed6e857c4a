-- A turn on an image: it is a turn with a list of as many words as the report bytes have room for, and so many it can report.
-- Assumes nothing.
use mathlib.Core.Path.{◌≡◌, refl, sym, ap, subst, ◌∙◌}
use mathlib.Core.List.{List, ◌++◌}
use Prim.Native.Nat.{ℕ, ◌*◌, ◌/◌, ◌≤◌, min}
use native.Mathlib.Omega.{arith}
use lib.ListN.{length, take, replicate, length-take, length-replicate, length-append}
use lib.Seq.{sets, take-append-le}
use Rattle.std.specs.Prelude.{Result, Ok, Err, ⊤}
use Rattle.refusals.specs.declared.Refusal.{Refusal}
use Rattle.refusals.specs.declared.outcome.Outcome as Code
use Rattle.refusals.specs.Answer.{Answer, accepted, refused, unsound, refuse, Outcome, Nothing, done}
use Rattle.digits.specs.Digits.{digits, Bytes}
use Rattle.digits.specs.Rows.{blocks}
use Rattle.heap.specs.Capacity.{cap}
use Rattle.state.specs.declared.Set.{Set}
use Rattle.timers.specs.declared.Call.TheVariants as C
use Rattle.timers.specs.declared.Reply.{Reply}
use Rattle.timers.specs.declared.Reply.TheVariants as R
use Rattle.timers.specs.Values.{Value, reports_in}
use Rattle.timers.specs.Calls.{Lent, turn_of, step, said, told, told_with}
use Rattle.laws.proofs.Widths.TurnList.{Lists, turn_list}
use Rattle.image.specs.Image.{image_of}
use Rattle.image.specs.Calls.{told_reading, read_of, write_of}
use Rattle.host.specs.Numbers.{status_of, list_in, word_bytes, reported_in}
use Rattle.host.specs.Calls.{on_reading, Board, reporting, lending, on_image, lent_on, turn_on}
use Rattle.host.specs.Seen.{count_or}
use Rattle.host.specs.Promises.{left, Turned, Turns, Leaves, end_of}
use Rattle.host.proofs.Calling.{read_refused, read_done, taken, after_written, call_said, ends}
use Rattle.host.proofs.Settled.{told_refused, no_count}

-- what report bytes hold after a turn with a list
abbrev pub reports_of : List ℕ → Outcome (List ℕ × List ℕ) Value → Outcome Board Value
reports_of out o = record {
  state = record { image = o.state.0; reports = reported_in out (reports_in o.answer) o.state.1 };
  answer = o.answer;
}

-- a turn on an image is one with a list that is lent to the engine, whose words are put
pub by_list : (b : List ℕ) (N : ℕ) (out : List ℕ) → reports_of out (lent_on b N (list_in (length out))) ≡ turn_on b N out
unfolding lent_on turn_on on_image word_bytes blocks
by_list b N out = go (read_of b).state (read_of b).answer
  where
    go : (s : Set) (a : Answer Nothing)
        → reports_of out (on_reading (b, list_in (length out)) (λ s. lending b (turn_of s N (list_in (length out)))) s a)
        ≡ on_reading (record { image = b; reports = out }) (λ s. reporting b out (turn_of s N (list_in (length out)))) s a
    go s (accepted u) = refl
    go s (refused n) = refl
    go s (unsound x) = refl

-- what is told of a turn that answers a and leaves the list l'
pub record TurnTold (o : Outcome Board Value) (b' : List ℕ) (n : ℕ) (a : Answer Value) (out l' : List ℕ) : Type 0 where
  pub image : b' ≡ o.state.image
  pub status : n ≡ status_of o.answer
  pub answer : a ≡ o.answer
  pub reports : reported_in out (reports_in a) l' ≡ o.state.reports

-- so many words as the report bytes have room for
pub room_within : {n m k : ℕ} {l' : List ℕ} → Lists n (take m (replicate cap 0)) l' → m ≡ min (k / 8) cap → n * 8 ≤ k
room_within {n} {m} {k} w e =
    let h : n ≤ m = omega (arith, w.within, length-take m (replicate {A = ℕ} cap 0), length-replicate {A = ℕ} cap 0) in
    let i : n ≤ k / 8 = omega (arith, e) in
    omega arith

module _ (b : List ℕ) (N : ℕ) (out : List ℕ) (r : Code.Outcome Set ⊤) (e : told_reading r ≡ read_of b) where
  abbrev before : Board
  before = record { image = b; reports = out }

  abbrev run : Set → Outcome Board Value
  run s = reporting b out (turn_of s N (list_in (length out)))

  -- where `read` refuses, all that was lent is left
  pub kept_all : (w : Refusal) → r.answer ≡ Err w → {x : Result Reply Refusal} → x ≡ Err w → Turned b N out b out x
  unfolding turn_on
  kept_all w g q = ap (left before) q ∙ sym (read_refused b before run r e w g)

  pub turn_refused : {m n : ℕ} (w : Refusal) → r.answer ≡ Err w → n ≡ status_of {A = Nothing} (refuse w) → Turns b N out m b out m n
  unfolding turn_on
  turn_refused {m} w g s =
      let q = read_refused b before run r e w g in
      record {
        image = sym (ap (λ (o : Outcome Board Value). o.state.image) q);
        reports = sym (ap (λ (o : Outcome Board Value). o.state.reports) q);
        reported = no_count w m ∙ sym (ap (λ (o : Outcome Board Value). count_or m o.answer) q);
        status = told_refused before w q s;
      }

  module _ (y : Bytes b) {u : ⊤} (g : r.answer ≡ Ok u) (a : Code.Outcome Set Reply) (l l' : List ℕ) (t : told_with a l' ≡ turn_of r.state N l) where
    -- a turn with a list that was ended, told by its status
    pub turn_done : {b' : List ℕ} {n : ℕ} → l ≡ list_in (length out) → Leaves (end_of b (said a.answer) a.state) b' n
        → TurnTold (turn_on b N out) b' n (said a.answer) out l'
    unfolding turn_on step
    turn_done i x =
        let v : told_with a l' ≡ turn_of r.state N (list_in (length out)) = t ∙ ap (turn_of r.state N) i in
        let q = ap (reporting b out) v ∙ sym (read_done b before run r e g) in
        let w : write_of a.state b ≡ done (image_of a.state) =
        subst (λ (s : Set). write_of s b ≡ done (image_of s)) (sym (ap (λ (o : Outcome Lent Value). o.state.set) v))
        (after_written b r y e g (C.Turn N) (list_in (length out)))
        in
        let p = ends b (told a) w x in
        record {
          image = p.0 ∙ ap (λ (o : Outcome Board Value). o.state.image) q;
          status = p.1 ∙ ap (λ (o : Outcome Board Value). status_of o.answer) q;
          answer = ap (λ (o : Outcome Board Value). o.answer) q;
          reports = ap (λ (o : Outcome Board Value). o.state.reports) q;
        }

    -- no more are reported than the list has words, and it is as long as it was
    pub ran_list : (n p : ℕ) → a.answer ≡ Ok (R.Ran n p) → Lists n l l'
    ran_list n p z =
        let s = taken b r y e g in
        subst (λ (x : Result Reply Refusal). Lists (reports_in (said x)) l l') z
        (subst (λ (o : Outcome Lent Value). Lists (reports_in o.answer) l o.state.list) (sym t) (turn_list r.state s.sound s.widths N l))

    -- the list stands at the start of another, whose rest is q
    pub ran_within : (n p : ℕ) (q : List ℕ) → a.answer ≡ Ok (R.Ran n p) → n ≤ length (l' ++ q)
    ran_within n p q z = let w = ran_list n p z in omega (arith, w.within, w.long, length-append l' q)

    -- the report bytes have room for as many words as the list
    pub ran_room : (n p m : ℕ) → a.answer ≡ Ok (R.Ran n p) → l ≡ take m (replicate cap 0) → m ≡ min (length out / 8) cap → n * 8 ≤ length out
    ran_room n p m z i e = room_within (subst (λ (x : List ℕ). Lists n x l') i (ran_list n p z)) e

    -- a turn whose set is written, and whose reports are put
    pub turned : {b' out' : List ℕ} (x : Result Reply Refusal) → l ≡ list_in (length out) → left b' x ≡ end_of b (said a.answer) a.state
        → out' ≡ reported_in out (reports_in (said a.answer)) l' → (said x ≡ said a.answer) × Turned b N out b' out' x
    unfolding turn_on step
    turned x i p f =
        let v : told_with a l' ≡ turn_of r.state N (list_in (length out)) = t ∙ ap (turn_of r.state N) i in
        let s = call_said b r y e g (C.Turn N) (list_in (length out)) a (ap (λ (o : Outcome Lent Value). record { state = o.state.set; answer = o.answer }) v) p in
        let m = turn_done i (record { image = ap (λ (o : Outcome (List ℕ) Value). o.state) p; status = refl }) in
        (s, λ k. record { state = record { image = m.image k; reports = (f ∙ m.reports) k }; answer = (s ∙ m.answer) k })

    module _ {b' : List ℕ} {n : ℕ} (i : l ≡ list_in (length out)) (x : Leaves (end_of b (said a.answer) a.state) b' n) where
      -- a turn that reports nothing, since it is refused
      pub quiet : (m : ℕ) → (m ≡ count_or m (said a.answer)) × (0 ≡ reports_in (said a.answer)) → Turns b N out m b' out m n
      unfolding word_bytes blocks
      quiet m z =
          let h = turn_done i x in
          record {
            image = h.image;
            reports = ap (λ (k : ℕ). reported_in out k l') z.1 ∙ h.reports;
            reported = z.0 ∙ ap (count_or m) h.answer;
            status = h.status;
          }

      -- one that reports k, put as words
      pub ran : (k p m : ℕ) (q out' : List ℕ) → a.answer ≡ Ok (R.Ran k p) → out' ≡ reported_in out k (l' ++ q) → Turns b N out m b' out' k n
      unfolding word_bytes
      ran k p m q out' z f =
          let h = turn_done i x in
          let w = ran_list k p z in
          let v : k ≤ length l' = omega (arith, w.within, w.long) in
          record {
            image = h.image;
            reports =
                f ∙ ap (λ (s : List ℕ). sets out 0 (blocks (digits 8) s)) (take-append-le k l' q v)
                ∙ ap (λ (s : Result Reply Refusal). reported_in out (reports_in (said s)) l') (sym z) ∙ h.reports;
            reported = ap (λ (s : Result Reply Refusal). count_or m (said s)) (sym z) ∙ ap (count_or m) h.answer;
            status = h.status;
          }

-- A CALL ON THE IMAGE OF A SET IS THE IMAGE OF THE CALL ON THE SET: it answers what the call on the set answers, leaves the image of
-- the set that this leaves, and its report bytes are those of the words that this reports.
-- Assumes nothing.
use mathlib.Core.Path.{◌≡◌, refl, sym, ap, subst, ◌∙◌}
use mathlib.Core.Bool.{false}
use mathlib.Core.List.{List, ◌++◌}
use Prim.Native.Nat.{ℕ, ◌+◌, ◌-◌, ◌<◌, ◌^◌}
use native.Mathlib.Omega.{arith}
use lib.ListN.{length, get_or, take, drop, take-append-drop}
use lib.Seq.{sets, get_or-take, get_or-drop, length-take-le}
use Rattle.theory.proofs.Tests.{by-ref, ref_lt}
use Rattle.refusals.specs.Answer.{Answer, accepted, refused, unsound, is_accepted, Outcome, kept}
use Rattle.state.specs.declared.Set.{Set}
use Rattle.state.specs.declared.Handle.{Handle}
use Rattle.state.specs.Handles.{handle_word}
use Rattle.state.specs.Sound.{Sound}
use Rattle.state.specs.InUse.{Twins}
use Rattle.state.specs.Widths.{Widths}
use Rattle.state.proofs.Handles.{named_word}
use Rattle.timers.specs.declared.Call.{Call}
use Rattle.timers.specs.declared.Call.TheVariants as C
use Rattle.timers.specs.Values.{Value, nothing, handle, counts, wake, polled, time, reports_in}
use Rattle.timers.specs.Calls.{Lent, add_of, reset_of, cancel_of, turn_of, next_wake_of, step}
use Rattle.image.specs.Image.{image_of, cleared}
use Rattle.image.proofs.UnusedRoom.{image_same, sound_cleared}
use Rattle.laws.specs.InUse.{SameOutcome, SameLent}
use Rattle.laws.proofs.AnyCall.Keeping.{refused_keeps}
use Rattle.laws.proofs.UnusedRoom.InUse.{step_in_use}
use Rattle.laws.proofs.Reporting.AnyList.{SameTurn, turn_any_list}
use Rattle.laws.proofs.Widths.Calls.{widths_words}
use Rattle.laws.proofs.Widths.TurnList.{Lists, turn_list}
use Rattle.host.specs.Numbers.{or_nobody, handle_from, list_in, reported_in, word_bytes}
use Rattle.host.specs.Calls.{on_image, image_after, pictured, Board, reporting, add_on, reset_on, cancel_on, turn_on, next_wake_on}
use Rattle.host.specs.Seen.{count_or}
use Rattle.promises.specs.Images.{bytes_for, words_in, list_after}
use Rattle.promises.proofs.Images.Reading.{on_image_lem}
use Rattle.promises.proofs.Images.ReportBytes.{bytes_long, words_back, words_over, words_own, room_same}

-- the set after a call is written where the call is accepted; where it is refused the image stays, and so does the set
pictured_same : (s t u : Set) (a : Answer Value) → Twins t u → (is_accepted a ≡ false → u ≡ s) → image_after (image_of s) a t ≡ image_of u
pictured_same s t u (accepted v) r k = image_same r
pictured_same s t u (refused n) r k = ap image_of (sym (k refl))
pictured_same s t u (unsound f) r k = ap image_of (sym (k refl))

-- the count of the reports
count_or_lem : (a : Answer Value) → count_or 0 a ≡ reports_in a
count_or_lem (accepted nothing) = refl
count_or_lem (accepted (handle h)) = refl
count_or_lem (accepted (counts r p)) = refl
count_or_lem (accepted (wake t)) = refl
count_or_lem (accepted (polled n)) = refl
count_or_lem (accepted (time t)) = refl
count_or_lem (refused n) = refl
count_or_lem (unsound f) = refl

-- a call on the image of s, which on s itself leaves r and answers a
pub record Pictures (o : Outcome (List ℕ) Value) (r : Set) (a : Answer Value) : Type 0 where
  pub image : o.state ≡ image_of r
  pub answers : o.answer ≡ a

-- a turn on it, with the words l lent, which on s itself leaves the words m
pub record Turned (o : Outcome Board Value) (l : List ℕ) (r : Set) (m : List ℕ) (a : Answer Value) : Type 0 where
  pub image : o.state.image ≡ image_of r
  pub answers : o.answer ≡ a
  pub words : list_after l (count_or 0 o.answer) o.state.reports ≡ m

module _ (s : Set) (ok : Sound s) (w : Widths s) where
  -- the call on the set that is read of the image, beside the call on the set
  beside : (c : Call) (l : List ℕ) → SameOutcome SameLent (step (cleared s) c l) (step s c l)
  beside c l = step_in_use (cleared s) s (sound_cleared s ok) c l

  -- a refused call keeps the set
  keeps : (c : Call) (l : List ℕ) (a : Answer Value) → a ≡ (step s c l).answer → is_accepted a ≡ false → (step s c l).state.set ≡ s
  keeps c l a e n = ap (λ (x : Lent). x.set) (refused_keeps s c l (ap is_accepted (sym e) ∙ n))

  -- the calls that write the image and nothing else
  pictures : (c : Call) (l : List ℕ)
      → let o = step (cleared s) c l in
      let q = step s c l in
      Pictures (record { state = image_after (image_of s) o.answer o.state.set; answer = o.answer }) q.state.set q.answer
  pictures c l =
      let o = step (cleared s) c l in
      let b = beside c l in
      record {
        image = pictured_same s o.state.set (step s c l).state.set o.answer b.states.sets (keeps c l o.answer b.answers);
        answers = b.answers;
      }

  pub add_pictures : (d : ℕ) (l : List ℕ) → Pictures (add_on (image_of s) d) (step s (C.Add d) l).state.set (step s (C.Add d) l).answer
  unfolding add_on step
  add_pictures d l =
      subst (λ (x : Outcome (List ℕ) Value). Pictures x (add_of s d).state (add_of s d).answer)
      (sym (on_image_lem s ok w (image_of s) (λ x. pictured (image_of s) (add_of x d)))) (pictures (C.Add d) l)

  module _ (h : Handle) (b : h.place.0 < 2 ^ 16) where
    -- the word of a handle is read as that handle
    word_read : handle_from (handle_word h) ≡ h
    word_read = ap or_nobody (named_word h b)

    -- a call on a handle is that on the handle which the word names
    handle_pictures : (f : Set → Handle → Outcome Set Value) → Pictures (pictured (image_of s) (f (cleared s) h)) (f s h).state (f s h).answer
        → Pictures (on_image (image_of s) (image_of s) (λ x. pictured (image_of s) (f x (handle_from (handle_word h))))) (f s h).state (f s h).answer
    handle_pictures f =
        subst (λ (x : Outcome (List ℕ) Value). Pictures x (f s h).state (f s h).answer)
        (sym (on_image_lem s ok w (image_of s) (λ x. pictured (image_of s) (f x (handle_from (handle_word h))))
        ∙ ap (λ (j : Handle). pictured (image_of s) (f (cleared s) j)) word_read))

    pub reset_pictures : (d : ℕ) (l : List ℕ)
        → Pictures (reset_on (image_of s) (handle_word h) d) (step s (C.Reset h d) l).state.set (step s (C.Reset h d) l).answer
    unfolding reset_on step
    reset_pictures d l = handle_pictures (λ x j. reset_of x j d) (pictures (C.Reset h d) l)

    pub cancel_pictures : (l : List ℕ)
        → Pictures (cancel_on (image_of s) (handle_word h)) (step s (C.Cancel h) l).state.set (step s (C.Cancel h) l).answer
    unfolding cancel_on step
    cancel_pictures l = handle_pictures cancel_of (pictures (C.Cancel h) l)

  -- a next wake, which writes nothing
  pub wake_answers : (l : List ℕ) → next_wake_on (image_of s) ≡ (step s C.NextWake l).answer
  unfolding next_wake_on step
  wake_answers l =
      ap (λ (x : Outcome (List ℕ) Value). x.answer) (on_image_lem s ok w (image_of s) (λ x. kept (image_of s) (next_wake_of x).answer))
      ∙ (beside C.NextWake l).answers

  module _ (N : ℕ) (l : List ℕ) where
    -- the bytes that are lent, and the list that is lent for them
    abbrev out : List ℕ
    out = bytes_for l

    abbrev zeros : List ℕ
    zeros = list_in (length out)

    -- the turn on the set that is read, and the turn on the set with the words lent
    abbrev here : Outcome Lent Value
    here = turn_of (cleared s) N zeros

    abbrev there : Outcome Lent Value
    there = turn_of s N l

    -- they give the same
    turns_beside : SameOutcome SameLent here (turn_of s N zeros)
    unfolding step
    turns_beside = beside (C.Turn N) zeros

    turns_any : SameTurn (turn_of s N zeros) there
    turns_any = turn_any_list s ok (widths_words s ok w) N zeros l (room_same l)

    same_answer : here.answer ≡ there.answer
    same_answer = turns_beside.answers ∙ turns_any.answers

    same_sets : Twins here.state.set there.state.set
    same_sets = subst (Twins here.state.set) turns_any.sets turns_beside.states.sets

    same_count : reports_in here.answer ≡ reports_in there.answer
    same_count = ap reports_in same_answer

    same_reports : take (reports_in here.answer) here.state.list ≡ take (reports_in there.answer) there.state.list
    same_reports = (λ t. take (reports_in (turns_beside.answers t)) (turns_beside.states.lists t)) ∙ turns_any.reports

    turn_keeps : is_accepted here.answer ≡ false → there.state.set ≡ s
    unfolding step
    turn_keeps n = keeps (C.Turn N) l here.answer same_answer n

    -- the words that the turn on the set reports, and what it leaves of the list
    abbrev n : ℕ
    n = reports_in there.answer

    abbrev m : List ℕ
    m = there.state.list

    left : Lists n l m
    left = turn_list s ok w N l

    reported_long : length (take n m) ≡ n
    reported_long = length-take-le n m (omega (arith, left.within, left.long))

    whole : take n m ++ drop n l ≡ m
    whole = ap (λ (x : List ℕ). take n m ++ x) (sym left.rest) ∙ take-append-drop n m

    -- the words of the report bytes, and behind them the rest of the list
    same_list : list_after l (count_or 0 here.answer) (reported_in out (reports_in here.answer) here.state.list) ≡ m
    unfolding word_bytes
    same_list =
        (λ i. list_after l ((count_or_lem here.answer ∙ same_count) i) (sets out 0 (bytes_for (same_reports i))))
        ∙ ap (λ (x : List ℕ). x ++ drop n l)
        (words_back n (take n m) reported_long out (omega (arith, bytes_long l, left.within))
        (λ i b. omega (arith, get_or-take n m i 0 b, left.small i b)))
        ∙ whole

    -- where the lent words have 64 bits, all of the list is what the bytes say
    all_small : ((i : ℕ) → i < length l → get_or l i 0 < 2 ^ 64) → (i : ℕ) → i < length m → get_or m i 0 < 2 ^ 64
    all_small small i b =
        by-ref (ref_lt i n)
        (λ c. left.small i c)
        (λ c. let e : n + (i - n) ≡ i = omega arith in
        let d : get_or m (n + (i - n)) 0 ≡ get_or l (n + (i - n)) 0 =
        sym (get_or-drop n m (i - n) 0) ∙ ap (λ (x : List ℕ). get_or x (i - n) 0) left.rest ∙ get_or-drop n l (i - n) 0 in
        omega (arith, ap (λ (k : ℕ). get_or m k 0) e, ap (λ (k : ℕ). get_or l k 0) e, small i (omega (arith, left.long))))

    bytes_all : ((i : ℕ) → i < length l → get_or l i 0 < 2 ^ 64)
        → words_in (length l) (reported_in out (reports_in here.answer) here.state.list) ≡ m
    unfolding word_bytes
    bytes_all small =
        (λ i. words_in (sym left.long i) (sets out 0 (bytes_for (same_reports i))))
        ∙ ap (words_in (length m)) (words_over n (take n m) reported_long l left.within ∙ ap bytes_for whole)
        ∙ words_own m (all_small small)

    pub turn_pictures : let q = step s (C.Turn N) l in Turned (turn_on (image_of s) N out) l q.state.set q.state.list q.answer
    unfolding turn_on step
    turn_pictures =
        subst (λ (x : Outcome Board Value). Turned x l there.state.set there.state.list there.answer)
        (sym (on_image_lem s ok w (record { image = image_of s; reports = out }) (λ x. reporting (image_of s) out (turn_of x N zeros))))
        (record {
          image = pictured_same s here.state.set there.state.set here.answer same_sets turn_keeps;
          answers = same_answer;
          words = same_list;
        })

    pub turn_bytes : ((i : ℕ) → i < length l → get_or l i 0 < 2 ^ 64)
        → words_in (length l) (turn_on (image_of s) N out).state.reports ≡ (step s (C.Turn N) l).state.list
    unfolding turn_on step
    turn_bytes small =
        ap (λ (x : Outcome Board Value). words_in (length l) x.state.reports)
        (on_image_lem s ok w (record { image = image_of s; reports = out }) (λ x. reporting (image_of s) out (turn_of x N zeros)))
        ∙ bytes_all small

-- Nothing here has a second answer: no record another call, no call another set, list or line, no line another text.
-- Assumes nothing.
use mathlib.Core.Path.{◌≡◌, refl, ap}
use mathlib.Core.Option.{Option, none, some}
use mathlib.Core.List.{List}
use Prim.Native.Nat.{ℕ}
use native.Mathlib.Omega.{arith}
use Rattle.std.specs.Prelude as Std
use Rattle.std.specs.Prelude.{Result, Ok, Err}
use Rattle.theory.specs.Promise.{NoSecond, TellsApart}
use Rattle.theory.proofs.Promise.{by_rule, undone_apart}
use Rattle.refusals.specs.declared.Refusal.{Refusal}
use Rattle.refusals.specs.declared.outcome.Outcome as Code
use Rattle.refusals.specs.Answer.{Answer, refuse, Nothing}
use Rattle.refusals.proofs.Apart.{refuse_apart, said_by_apart}
use Rattle.state.specs.declared.Set.{Set}
use Rattle.timers.specs.declared.Call.{Call}
use Rattle.timers.specs.Calls.{said}
use Rattle.laws.proofs.NoSecond.{said_apart}
use Rattle.records.specs.declared.Made.{Made}
use Rattle.records.specs.declared.Answered as A
use Rattle.records.specs.Records.{decode_of, said_decoded}
use Rattle.records.specs.Answers.{Answered, answer_of, replay_of, said_wake, said_line, told_by, replayed_by}
use Rattle.records.specs.Lines.{line_of, Written, written_of}
use Rattle.records.specs.Promises.{Decodes, Answers, Replays, Writes}

-- what is said of a record tells any two answers apart
decoded_apart : TellsApart said_decoded
decoded_apart = said_by_apart (λ (c : Call). c) (λ (c : Call). c) (λ c. refl)

-- what a line tells tells any two lines apart

abbrev wake_back : Option ℕ → Std.Option ℕ
wake_back none = Std.None
wake_back (some t) = Std.Some t

wake_back_lem : (w : Std.Option ℕ) → wake_back (said_wake w) ≡ w
wake_back_lem (Std.Some t) = refl
wake_back_lem Std.None = refl

wake_apart : TellsApart said_wake
wake_apart = undone_apart said_wake wake_back wake_back_lem

line_apart : TellsApart said_line
line_apart (Err r) (Err r') e = let n : ◌≡◌ {A = Answer Nothing} (refuse r) (refuse r') = cc in ap Err (refuse_apart r r' n)
line_apart (Err r) (Ok m) e = let z : ◌≡◌ {A = ℕ} 0 1 = cc in absurd (omega arith)
line_apart (Ok m) (Err r) e = let z : ◌≡◌ {A = ℕ} 0 1 = cc in absurd (omega arith)
line_apart (Ok m) (Ok m') e =
    let x : m.operation ≡ m'.operation = cc in
    let y : said m.reply ≡ said m'.reply = cc in
    let z : said_wake m.wake ≡ said_wake m'.wake = cc in
    λ i. Ok (record { operation = x i; reply = said_apart m.reply m'.reply y i; wake = wake_apart m.wake m'.wake z i })

-- the set, what the line tells and the lent list as it is then tell any two answers apart

abbrev told_both : A.Answered × List ℕ → Answered
told_both r = told_by r.0 r.1

ok_back : {m m' : Made} → ◌≡◌ {A = Result Made Refusal} (Ok m) (Ok m') → m ≡ m'
ok_back e = cc

pub told_apart : TellsApart told_both
told_apart r s e =
    let x = ap (λ (a : Answered). a.state.set) e in
    let y = ok_back (line_apart (Ok r.0.made) (Ok s.0.made) (ap (λ (a : Answered). a.told) e)) in
    let z = ap (λ (a : Answered). a.state.list) e in
    λ i. (record { set = x i; made = y i }, z i)

abbrev replayed_both : Code.Outcome Set Made × List ℕ → Answered
replayed_both r = replayed_by r.0 r.1

replayed_apart : TellsApart replayed_both
replayed_apart r s e =
    let x = ap (λ (a : Answered). a.state.set) e in
    let y = line_apart r.0.answer s.0.answer (ap (λ (a : Answered). a.told) e) in
    let z = ap (λ (a : Answered). a.state.list) e in
    λ i. (record { state = x i; answer = y i }, z i)

pub decode_no_second : NoSecond Decodes
decode_no_second = by_rule said_decoded decode_of decoded_apart

pub answer_no_second : NoSecond (λ (q : Set × Call × List ℕ) (r : A.Answered × List ℕ). Answers q.0 q.1 q.2 r.0 r.1)
answer_no_second = by_rule told_both (λ (q : Set × Call × List ℕ). answer_of q.0 q.1 q.2) told_apart

pub replay_no_second : NoSecond (λ (q : Set × List ℕ × List ℕ) (r : Code.Outcome Set Made × List ℕ). Replays q.0 q.1 q.2 r.0 r.1)
replay_no_second = by_rule replayed_both (λ (q : Set × List ℕ × List ℕ). replay_of q.0 q.1 q.2) replayed_apart

-- a length and bytes

abbrev as_written : ℕ × List ℕ → Written
as_written r = record { count = r.0; bytes = r.1 }

written_apart : TellsApart as_written
written_apart = undone_apart as_written (λ (w : Written). (w.count, w.bytes)) (λ (r : ℕ × List ℕ). refl)

pub write_line_no_second : NoSecond (λ (q : Result Made Refusal × List ℕ × List ℕ) (r : ℕ × List ℕ). Writes q.0 q.1 q.2 r.0 r.1)
write_line_no_second q r s p p' =
    by_rule as_written (λ (q : Result Made Refusal × List ℕ × List ℕ). written_of (line_of (said_line q.0) q.1) q.2) written_apart q r s p.written p'.written

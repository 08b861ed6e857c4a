-- Neither call has a second answer; a refused read hands out the fresh set, and a refused write leaves the bytes.
-- Assumes nothing.
use mathlib.Core.Path.{◌≡◌, refl}
use mathlib.Core.Bool.{Bool, true, false, cond}
use mathlib.Core.Option.{Option, none, some}
use mathlib.Core.List.{List}
use Prim.Native.Nat.{ℕ}
use lib.Dec.{eqb}
use lib.ListN.{length}
use Rattle.std.specs.Prelude.{Result, ⊤}
use Rattle.theory.specs.Promise.{NoSecond, TellsApart}
use Rattle.theory.proofs.Promise.{by_rule, undone_apart}
use Rattle.theory.proofs.Tests.{true_false}
use Rattle.refusals.specs.declared.fault.Fault.{Fault}
use Rattle.refusals.specs.declared.Refusal.{Refusal}
use Rattle.refusals.specs.declared.Refusal.TheVariants.{BadImage}
use Rattle.refusals.specs.Answer.{refuse, Outcome, Nothing, kept, is_accepted}
use Rattle.refusals.proofs.Apart.{result_of, result_back, told_by_apart}
use Rattle.state.specs.State.{fresh_of}
use Rattle.state.specs.Faults.{fault_of}
use Rattle.state.specs.declared.Set.{Set}
use Rattle.image.specs.Image.{size, image_fine, set_from}
use Rattle.image.specs.Calls.{barred, told_reading, told_writing, read_by, read_of, written_by, write_of}
use Rattle.image.specs.Promises.{Reads, Writes}

-- what is read, or is written, is told by what is said of it
reading_apart : TellsApart told_reading
reading_apart = told_by_apart (λ (v : Nothing). v) (λ v. v) (λ v. refl)

writing_apart : TellsApart (λ (q : List ℕ × Result ⊤ Refusal). told_writing q.0 q.1)
writing_apart =
    undone_apart (λ (q : List ℕ × Result ⊤ Refusal). told_writing q.0 q.1) (λ (o : Outcome (List ℕ) Nothing). (o.state, result_of (λ v. v) o.answer))
    (λ q k. (q.0, result_back (λ (v : Nothing). v) (λ v. v) (λ v. refl) q.1 k))

pub read_no_second : NoSecond Reads
read_no_second = by_rule told_reading read_of reading_apart

pub write_no_second : NoSecond (λ (q : Set × List ℕ) (r : List ℕ × Result ⊤ Refusal). Writes q.0 q.1 r.0 r.1)
write_no_second = by_rule (λ (r : List ℕ × Result ⊤ Refusal). told_writing r.0 r.1) (λ (q : Set × List ℕ). write_of q.0 q.1) writing_apart

-- a read that is not accepted hands out the fresh set
pub refused_fresh : (l : List ℕ) → is_accepted (read_of l).answer ≡ false → (read_of l).state ≡ fresh_of
unfolding read_of
refused_fresh l e = go (image_fine l) (fault_of (set_from l)) e
  where
    go : (b : Bool) (o : Option Fault) → is_accepted (cond b (read_by (set_from l) o) (barred BadImage)).answer ≡ false
        → (cond b (read_by (set_from l) o) (barred BadImage)).state ≡ fresh_of
    go true none e = true_false refl e
    go true (some x) e = refl
    go false o e = refl

-- a write that is not accepted leaves every byte as it was
pub refused_kept : (s : Set) (out : List ℕ) → is_accepted (write_of s out).answer ≡ false → (write_of s out).state ≡ out
unfolding write_of
refused_kept s out e = go (eqb (length out) size) (fault_of s) e
  where
    go : (b : Bool) (o : Option Fault) → is_accepted (cond b (written_by s out o) (kept out (refuse BadImage))).answer ≡ false
        → (cond b (written_by s out o) (kept out (refuse BadImage))).state ≡ out
    go true none e = true_false refl e
    go true (some x) e = refl
    go false o e = refl

-- What one pop of an advance writes to the list that is lent: the word of the head's handle after the words written before, where its
-- timer is reported, and nothing where it is not.
-- Assumes nothing.
use mathlib.Core.Path.{◌≡◌, refl, sym}
use mathlib.Core.Bool.{Bool, true, false, cond}
use mathlib.Core.List.{List, [], ◌∷◌, ◌++◌, append-nil}
use Prim.Native.Nat.{ℕ, suc, ◌+◌, ◌<◌}
use native.Mathlib.Omega.{arith}
use lib.ListN.{length, set, take, length-set}
use lib.Seq.{take-suc-set}
use Rattle.theory.specs.Tests.{bit}
use Rattle.heap.specs.Rules.{entry_at}
use Rattle.state.specs.State.{timer_at}
use Rattle.state.specs.Handles.{handle_word}
use Rattle.state.specs.Sound.{Sound}
use Rattle.moves.specs.Rules.{Ring, reports, rung_of}
use Rattle.laws.proofs.Soundness.AdvancedSound.{rung_len}

-- a store right after the first n words adds its word to them
take_set : {A : Type 0} (l : List A) (n : ℕ) (a : A) → n < length l → take (n + 1) (set l n a) ≡ take n l ++ (a ∷ [])
take_set l n a h = let e : n + 1 ≡ suc n = omega arith in rw e (take-suc-set l n a h)

-- whether a pop of the head is reported
abbrev pub head_reports : Ring → Bool
head_reports r = reports (entry_at r.set.heap 0).generation (timer_at r.set (entry_at r.set.heap 0).place.0).life

-- the word of the handle of the head's timer
abbrev pub head_word : Ring → ℕ
head_word r =
    handle_word (record { place = (entry_at r.set.heap 0).place; uses = (timer_at r.set (entry_at r.set.heap 0).place.0).uses })

-- a pop adds the word of the head's handle to the words written, where it is reported
pub rung_words : (r : Ring) → r.reported < length r.list
    → take (rung_of r).reported (rung_of r).list ≡ take r.reported r.list ++ cond (head_reports r) (head_word r ∷ []) []
unfolding rung_of
rung_words r h = go (head_reports r)
  where
    go : (b : Bool) → take (cond b (r.reported + 1) r.reported) (cond b (set r.list r.reported (head_word r)) r.list)
        ≡ take r.reported r.list ++ cond b (head_word r ∷ []) []
    go true = take_set r.list r.reported (head_word r) h
    go false = sym (append-nil (take r.reported r.list))

-- a pop leaves the list as long as it was
pub rung_long : (r : Ring) → length (rung_of r).list ≡ length r.list
unfolding rung_of
rung_long r = go (head_reports r)
  where
    go : (b : Bool) → length (cond b (set r.list r.reported (head_word r)) r.list) ≡ length r.list
    go true = length-set r.list r.reported (head_word r)
    go false = refl

-- a pop counts one report more where there is one
pub rung_reported : (r : Ring) → (rung_of r).reported ≡ r.reported + bit (head_reports r)
unfolding rung_of
rung_reported r = go (head_reports r)
  where
    go : (b : Bool) → cond b (r.reported + 1) r.reported ≡ r.reported + bit b
    go true = refl
    go false = omega arith

-- a pop leaves one entry less
pub rung_left : (r : Ring) → Sound r.set → 0 < r.set.heap.len → (rung_of r).set.heap.len + 1 ≡ r.set.heap.len
rung_left r ok b = omega (arith, rung_len r ok b)

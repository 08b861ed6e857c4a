-- No public function of this crate has a second answer.
-- Assumes nothing.
use mathlib.Core.Path.{◌≡◌, refl}
use mathlib.Core.Option.{Option, none, some}
use mathlib.Core.List.{List}
use Prim.Native.Nat.{ℕ}
use Rattle.std.specs.Prelude.{Some, None}
use Rattle.std.specs.Prelude as Code
use Rattle.theory.specs.Promise.{NoSecond, TellsApart}
use Rattle.theory.proofs.Promise.{by_rule, plain_apart, undone_apart}
use Rattle.heap.specs.declared.Place.{Place}
use Rattle.state.specs.declared.Life.{Life}
use Rattle.state.specs.declared.Set.{Set}
use Rattle.moves.specs.declared.rings.Ran.{Ran}
use Rattle.moves.specs.Rules.{touched_of, spot_of, lowest_free, drained_of, Ring, advanced_of, closed_of}
use Rattle.moves.specs.Promises.{Touches, FindsFree, Settles, ring_of, Rings, Shuts}

-- what a search finds tells any two answers apart
pub spot_apart : TellsApart spot_of
spot_apart = undone_apart spot_of back told
  where
    back : Option ℕ → Code.Option Place
    back none = None
    back (some p) = Some (record { 0 = p })

    told : (r : Code.Option Place) → back (spot_of r) ≡ r
    told None = refl
    told (Some p) = refl

-- the answer of an advance with the list as it is then
abbrev pub rang : Ran × List ℕ → Ring
rang r = ring_of r.0 r.1

-- and so do a set, its counts and the list
pub ring_apart : TellsApart rang
ring_apart =
    undone_apart rang (λ (q : Ring). (record { set = q.set; reported = q.reported; popped = q.popped }, q.list)) (λ r. refl)

pub touched_no_second : NoSecond (λ (q : Set × Place × Life) (r : Set). Touches q.0 q.1 q.2 r)
touched_no_second = by_rule (λ (r : Set). r) (λ (q : Set × Place × Life). touched_of q.0 q.1.0 q.2) plain_apart

pub lowest_free_no_second : NoSecond FindsFree
lowest_free_no_second = by_rule spot_of lowest_free spot_apart

pub drained_no_second : NoSecond Settles
drained_no_second = by_rule (λ (r : Set). r) drained_of plain_apart

pub advanced_no_second : NoSecond (λ (q : Set × ℕ × List ℕ) (r : Ran × List ℕ). Rings q.0 q.1 q.2 r.0 r.1)
advanced_no_second = by_rule rang (λ (q : Set × ℕ × List ℕ). advanced_of q.0 q.1 q.2) ring_apart

pub closed_no_second : NoSecond Shuts
closed_no_second = by_rule (λ (r : Set). r) closed_of plain_apart

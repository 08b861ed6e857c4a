-- The first of several findings: there is none where none of the tests found anything, and else it is that of the first test that did.
-- Assumes nothing.
use mathlib.Core.Path.{◌≡◌, refl, sym, ap, ◌∙◌}
use mathlib.Core.Bool.{true, ◌&&◌}
use mathlib.Core.Option.{Option, none, some}
use Prim.Native.Nat.{ℕ}
use Rattle.theory.specs.Chain.{clear}
use Rattle.theory.proofs.Tests.{true_false}
use Rattle.refusals.specs.declared.fault.Fault.{Fault}
use Rattle.refusals.specs.Faults.{or_else, fault_by}

-- nothing is found where neither of the two tests found anything
pub clear_else : (f g : Option Fault) → clear (or_else f g) ≡ (clear f && clear g)
clear_else none g = refl
clear_else (some f) g = refl

-- nothing of a kind where the scan found none
pub clear_by : (kind : ℕ → Fault) (o : Option ℕ) → clear (fault_by kind o) ≡ clear o
clear_by kind none = refl
clear_by kind (some k) = refl

-- where nothing is found there is none
pub clear_none : (f : Option Fault) → clear f ≡ true → f ≡ none
clear_none none e = refl
clear_none (some f) e = true_false e refl

-- where the first test found a fault, that is the finding
pub stops : {f : Fault} {o k : Option Fault} (g : Option Fault) → o ≡ k → o ≡ some f → o ≡ or_else k g
stops g e s = s ∙ ap (λ (x : Option Fault). or_else x g) (sym s ∙ e)

-- where it found none, the second test's is
pub goes_on : {o k : Option Fault} (g : Option Fault) → o ≡ k → o ≡ none → g ≡ or_else k g
goes_on g e n = ap (λ (x : Option Fault). or_else x g) (sym n ∙ e)

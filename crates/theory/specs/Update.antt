-- A function changed at one argument.
-- Assumes nothing.
use Rattle.std.proofs.Math.Logic.{ite}

module _ {A B : Type 0} (d : Discrete A) (f : A → B) (a : A) (b : B) where
  -- f, except that a is sent to b
  unfoldable pub upd : A → B
  upd x = ite (d x a) b (f x)

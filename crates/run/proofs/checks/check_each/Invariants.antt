use Rattle.std.proofs.Common.{◌≡◌, ℕ, Option, drop}
use Rattle.run.specs.declared.passes.Halt.{Halt}
use Rattle.run.specs.Runs.{or_halt, first_halt}
use Rattle.run.proofs.checks.check_each.Given as goal

-- what is left of the items decides the whole
abbrev pub invariant-loop-i : goal.invariant-loop-i
invariant-loop-i g l =
    (f : ℕ → _ → Option Halt) → ((i : ℕ) (x : _) (r : _) → goal.F-post g l.check i x r → r ≡ or_halt (f i x))
    → first_halt f l.i (drop l.i l.items) ≡ first_halt f 0 l.items

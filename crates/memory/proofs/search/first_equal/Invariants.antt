use Rattle.std.proofs.Common.{◌≡◌, take, drop}
use Rattle.std.specs.List.{position_from}
use Rattle.records.specs.Types.{same_type}
use Rattle.memory.specs.Firsts.{first_equal}
use Rattle.memory.proofs.search.first_equal.Given as goal

-- what is left from here gives the whole
abbrev pub invariant-loop-index : goal.invariant-loop-index
invariant-loop-index l =
    position_from (λ x. same_type x l.ty) l.index (drop l.index (take l.count l.types)) ≡ first_equal l.ty (take l.count l.types)
